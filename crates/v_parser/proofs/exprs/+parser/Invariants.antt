use Rattle.std.proofs.Common.{◌≡◌, ◌+◌, ◌-◌, ◌*◌, ◌≤◌, ◌<◌, Ok, length, [], ◌∷◌}
use Rattle.v_parser.specs.Reading.{more_at, repeated}
use Rattle.v_parser.specs.Exprs.{expr_at, operand_at, binary_at, link_at, has_rank}
use Rattle.v_parser.proofs.exprs.+parser.Given as goal

abbrev pub decreases-placed : goal.decreases-placed
decreases-placed l = 100 * l.depth + 50

abbrev pub decreases-behind : goal.decreases-behind
decreases-behind l = 100 * l.depth + 32

abbrev pub decreases-opened : goal.decreases-opened
decreases-opened l = 100 * l.depth + 55

abbrev pub decreases-bound : goal.decreases-bound
decreases-bound l = 100 * l.depth + 55

abbrev pub decreases-index : goal.decreases-index
decreases-index l = 100 * l.depth + 70

abbrev pub decreases-part : goal.decreases-part
decreases-part l = 100 * l.depth + 60

abbrev pub decreases-name : goal.decreases-name
decreases-name l = 100 * l.depth + 80

abbrev pub decreases-group : goal.decreases-group
decreases-group l = 100 * l.depth + 80

abbrev pub decreases-more_exprs : goal.decreases-more_exprs
decreases-more_exprs l = 100 * l.depth + 60

abbrev pub decreases-inner_parts : goal.decreases-inner_parts
decreases-inner_parts l = 100 * l.depth + 65

abbrev pub decreases-replicate : goal.decreases-replicate
decreases-replicate l = 100 * l.depth + 70

abbrev pub decreases-concat : goal.decreases-concat
decreases-concat l = 100 * l.depth + 70

abbrev pub decreases-braces : goal.decreases-braces
decreases-braces l = 100 * l.depth + 80

abbrev pub decreases-signed : goal.decreases-signed
decreases-signed l = 100 * l.depth + 85

abbrev pub decreases-prefixed : goal.decreases-prefixed
decreases-prefixed l = 100 * l.depth + 80

abbrev pub decreases-operand_over : goal.decreases-operand_over
decreases-operand_over l = 100 * l.depth + 90

abbrev pub decreases-operand : goal.decreases-operand
decreases-operand l = 100 * l.depth + 1

abbrev pub decreases-links : goal.decreases-links
decreases-links l = 100 * l.depth + 2 * l.rank + 1

abbrev pub decreases-binary : goal.decreases-binary
decreases-binary l = 100 * l.depth + 2 * l.rank + 2

abbrev pub decreases-arms : goal.decreases-arms
decreases-arms l = 100 * l.depth + 40

abbrev pub decreases-other_arm : goal.decreases-other_arm
decreases-other_arm l = 100 * l.depth + 35

abbrev pub decreases-expr : goal.decreases-expr
decreases-expr l = 100 * l.depth + 30

abbrev pub invariant-more_exprs-loop-alloc : goal.invariant-more_exprs-loop-alloc
invariant-more_exprs-loop-alloc l = record { same : more_at (expr_at l.depth) l.parts l.left ≡ more_at (expr_at l.depth) (l.fn.first ∷ []) l.tokens; shorter : length l.left ≤ length l.tokens }

abbrev pub decreases-more_exprs-loop-alloc : goal.decreases-more_exprs-loop-alloc
decreases-more_exprs-loop-alloc l = length l.left

abbrev pub invariant-links-loop-alloc : goal.invariant-links-loop-alloc
invariant-links-loop-alloc l = record {
  same : repeated (has_rank l.rank) (link_at l.rank (binary_at (operand_at l.depth) (l.rank - 1))) l.links l.left
      ≡ repeated (has_rank l.rank) (link_at l.rank (binary_at (operand_at l.depth) (l.rank - 1))) [] l.tokens;
  shorter : length l.left ≤ length l.tokens;
}

abbrev pub decreases-links-loop-alloc : goal.decreases-links-loop-alloc
decreases-links-loop-alloc l = length l.left

abbrev pub invariant-binary-loop-level : goal.invariant-binary-loop-level
invariant-binary-loop-level l = record { read : binary_at (operand_at l.depth) l.level l.tokens ≡ Ok (l.first, l.rest); shorter : length l.rest < length l.tokens }
