use Rattle.std.proofs.Common.{◌≡◌, ◌≤◌, length, [], ◌∷◌}
use Rattle.v_parser.specs.Reading.{repeated, among}
use Rattle.v_parser.specs.Modules.{parameter_words, parameter_group_at}
use Rattle.v_parser.proofs.modules.more_parameter_groups.Given as goal

abbrev pub invariant-loop-alloc : goal.invariant-loop-alloc
invariant-loop-alloc l = record { same : repeated (λ x. among x parameter_words) parameter_group_at l.groups l.left ≡ repeated (λ x. among x parameter_words) parameter_group_at (l.fn.first ∷ []) l.tokens; shorter : length l.left ≤ length l.tokens }

abbrev pub decreases-loop-alloc : goal.decreases-loop-alloc
decreases-loop-alloc l = length l.left
