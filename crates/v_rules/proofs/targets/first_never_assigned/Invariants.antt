use Rattle.std.proofs.Common.{◌≡◌, ℕ, List, drop}
use Rattle.lz_base.specs.Met.{Met}
use Rattle.v_meaning.specs.ProcessRules.{never_assigned}
use Rattle.v_scope.specs.Firsts.{least_from}
use Rattle.v_rules.proofs.targets.first_never_assigned.Given as goal

abbrev pub invariant-loop-entry : goal.invariant-loop-entry
invariant-loop-entry l =
    (names : List (List ℕ)) → Met l.targets names → least_from l.first (never_assigned names (drop l.entry-index l.entries)) ≡ least_from l.initial.first (never_assigned names l.entries)
