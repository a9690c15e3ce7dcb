use Rattle.std.proofs.Common.{ℕ, List, ◌++◌, drop, filter}
use Rattle.lz_base.specs.Met.{Met}
use Rattle.lz_base.specs.Names.{is_among}
use Rattle.v_meaning.specs.ProcessRules.{ident_names}
use Rattle.v_rules.specs.Groups.{idents_in}
use Rattle.v_rules.proofs.Rounds.{MetSome}
use Rattle.v_rules.proofs.variables.share_each.Given as goal

abbrev pub invariant-loop-ident : goal.invariant-loop-ident
invariant-loop-ident l =
    (before names : List (List ℕ)) → Met l.met before → Met l.initial.shared names →
    MetSome l.shared (filter (λ name. is_among name before) (ident_names (idents_in (drop l.ident-index l.idents)))) (names ++ filter (λ name. is_among name before) (ident_names (idents_in l.idents)))
