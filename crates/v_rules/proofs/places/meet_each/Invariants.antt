use Rattle.std.proofs.Common.{ℕ, List, ◌++◌, drop}
use Rattle.lz_base.specs.Met.{Met}
use Rattle.v_meaning.specs.ProcessRules.{ident_names}
use Rattle.v_rules.specs.Groups.{idents_in}
use Rattle.v_rules.proofs.Rounds.{MetSome}
use Rattle.v_rules.proofs.places.meet_each.Given as goal

abbrev pub invariant-loop-ident : goal.invariant-loop-ident
invariant-loop-ident l = (names : List (List ℕ)) → Met l.initial.met names → MetSome l.met (ident_names (idents_in (drop l.ident-index l.idents))) (names ++ ident_names (idents_in l.idents))
