use Rattle.std.proofs.Common.{◌≡◌, ℕ, List, drop}
use Rattle.lz_base.specs.Met.{Met}
use Rattle.v_meaning.specs.ProcessRules.{places_if}
use Rattle.v_scope.specs.Firsts.{least_from}
use Rattle.v_rules.specs.Groups.{idents_in, is_elsewhere}
use Rattle.v_rules.proofs.variables.elsewhere_among.Given as goal

abbrev pub invariant-loop-ident : goal.invariant-loop-ident
invariant-loop-ident l =
    (ms ss os : List (List ℕ)) → Met l.met ms → Met l.shared ss → Met l.own os →
    least_from l.first (places_if (is_elsewhere ms ss os) (idents_in (drop l.ident-index l.idents))) ≡ least_from l.initial.first (places_if (is_elsewhere ms ss os) (idents_in l.idents))
