use Rattle.std.proofs.Common.{◌≡◌, ℕ, List, drop}
use Rattle.lz_base.specs.Met.{Met}
use Rattle.lz_base.specs.Names.{is_among}
use Rattle.v_meaning.specs.ProcessRules.{places_if}
use Rattle.v_scope.specs.Firsts.{least_from}
use Rattle.v_rules.specs.Groups.{idents_in}
use Rattle.v_rules.proofs.places.first_met.Given as goal

abbrev pub invariant-loop-ident : goal.invariant-loop-ident
invariant-loop-ident l =
    (names : List (List ℕ)) → Met l.met names →
    least_from l.first (places_if (λ name. is_among name names) (idents_in (drop l.ident-index l.idents))) ≡ least_from l.initial.first (places_if (λ name. is_among name names) (idents_in l.idents))
