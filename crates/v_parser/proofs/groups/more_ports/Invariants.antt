use Rattle.std.proofs.Common.{◌≡◌, ◌≤◌, length, [], ◌∷◌}
use Rattle.v_parser.specs.Reading.{repeated, among}
use Rattle.v_parser.specs.Exprs.{identifiers}
use Rattle.v_parser.specs.Modules.{parted_at, port_words, port_at}
use Rattle.v_parser.proofs.groups.more_ports.Given as goal

abbrev pub invariant-loop-alloc : goal.invariant-loop-alloc
invariant-loop-alloc l = record { same : repeated (λ x. among x identifiers) (parted_at port_words (port_at l.kind)) l.ports l.left ≡ repeated (λ x. among x identifiers) (parted_at port_words (port_at l.kind)) (l.fn.first ∷ []) l.tokens; shorter : length l.left ≤ length l.tokens }

abbrev pub decreases-loop-alloc : goal.decreases-loop-alloc
decreases-loop-alloc l = length l.left
