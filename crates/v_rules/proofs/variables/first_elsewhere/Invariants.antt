use Rattle.std.proofs.Common.{◌≡◌, ℕ, List, drop, map, flat_map, None}
use Rattle.lz_base.specs.Met.{Met}
use Rattle.v_scope.specs.Firsts.{least_from}
use Rattle.v_uses.specs.Gathered.{process_in}
use Rattle.v_rules.specs.Groups.{elsewhere_at}
use Rattle.v_rules.proofs.variables.first_elsewhere.Given as goal

abbrev pub invariant-loop-process : goal.invariant-loop-process
invariant-loop-process l =
    (ms ss : List (List ℕ)) → Met l.met ms → Met l.shared ss →
    least_from l.first (flat_map (elsewhere_at ms ss) (map process_in (drop l.process-index l.processes))) ≡ least_from None (flat_map (elsewhere_at ms ss) (map process_in l.processes))
