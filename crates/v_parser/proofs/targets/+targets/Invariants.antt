use Rattle.std.proofs.Common.{◌≡◌, ◌+◌, ◌*◌, ◌≤◌, length, [], ◌∷◌}
use Rattle.v_parser.specs.Reading.{more_at}
use Rattle.v_parser.specs.Stmts.{target_at}
use Rattle.v_parser.proofs.targets.+targets.Given as goal

abbrev pub decreases-target : goal.decreases-target
decreases-target l = 10 * l.depth

abbrev pub decreases-braced : goal.decreases-braced
decreases-braced l = 10 * l.depth + 2

abbrev pub decreases-more_targets : goal.decreases-more_targets
decreases-more_targets l = 10 * l.depth + 1

abbrev pub invariant-more_targets-loop-alloc : goal.invariant-more_targets-loop-alloc
invariant-more_targets-loop-alloc l = record { same : more_at (target_at l.depth) l.parts l.left ≡ more_at (target_at l.depth) (l.fn.first ∷ []) l.tokens; shorter : length l.left ≤ length l.tokens }

abbrev pub decreases-more_targets-loop-alloc : goal.decreases-more_targets-loop-alloc
decreases-more_targets-loop-alloc l = length l.left
