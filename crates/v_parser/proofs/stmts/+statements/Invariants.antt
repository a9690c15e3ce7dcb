use Rattle.std.proofs.Common.{◌≡◌, ◌+◌, ◌*◌, ◌≤◌, length, [], ◌∷◌}
use Rattle.v_parser.specs.Reading.{repeated}
use Rattle.v_parser.specs.Stmts.{stmt_at, arm_at, not_end, not_endcase}
use Rattle.v_parser.proofs.stmts.+statements.Given as goal

abbrev pub decreases-stmt : goal.decreases-stmt
decreases-stmt l = 10 * l.depth

abbrev pub decreases-boxed_stmt : goal.decreases-boxed_stmt
decreases-boxed_stmt l = 10 * l.depth + 1

abbrev pub decreases-body : goal.decreases-body
decreases-body l = 10 * l.depth + 7

abbrev pub decreases-block : goal.decreases-block
decreases-block l = 10 * l.depth + 8

abbrev pub decreases-arm : goal.decreases-arm
decreases-arm l = 10 * l.depth + 4

abbrev pub decreases-more_arms : goal.decreases-more_arms
decreases-more_arms l = 10 * l.depth + 5

abbrev pub decreases-arms_of : goal.decreases-arms_of
decreases-arms_of l = 10 * l.depth + 6

abbrev pub decreases-case_body : goal.decreases-case_body
decreases-case_body l = 10 * l.depth + 7

abbrev pub decreases-case : goal.decreases-case
decreases-case l = 10 * l.depth + 8

abbrev pub decreases-else_branch : goal.decreases-else_branch
decreases-else_branch l = 10 * l.depth + 6

abbrev pub decreases-after_else : goal.decreases-after_else
decreases-after_else l = 10 * l.depth + 5

abbrev pub decreases-branches : goal.decreases-branches
decreases-branches l = 10 * l.depth + 7

abbrev pub decreases-if_stmt : goal.decreases-if_stmt
decreases-if_stmt l = 10 * l.depth + 8

abbrev pub decreases-simple : goal.decreases-simple
decreases-simple l = 10 * l.depth + 9

abbrev pub invariant-body-loop-alloc : goal.invariant-body-loop-alloc
invariant-body-loop-alloc l = record { same : repeated not_end (stmt_at l.depth) l.body l.left ≡ repeated not_end (stmt_at l.depth) [] l.tokens; shorter : length l.left ≤ length l.tokens }

abbrev pub decreases-body-loop-alloc : goal.decreases-body-loop-alloc
decreases-body-loop-alloc l = length l.left

abbrev pub invariant-more_arms-loop-alloc : goal.invariant-more_arms-loop-alloc
invariant-more_arms-loop-alloc l = record { same : repeated not_endcase (arm_at (stmt_at l.depth)) l.arms l.left ≡ repeated not_endcase (arm_at (stmt_at l.depth)) (l.fn.first ∷ []) l.tokens; shorter : length l.left ≤ length l.tokens }

abbrev pub decreases-more_arms-loop-alloc : goal.decreases-more_arms-loop-alloc
decreases-more_arms-loop-alloc l = length l.left
