use Rattle.std.proofs.Common.{◌≡◌, ◌≤◌, length, []}
use Rattle.v_parser.specs.Reading.{repeated}
use Rattle.v_parser.specs.Modules.{not_endmodule, item_at}
use Rattle.v_parser.proofs.modules.items.Given as goal

abbrev pub invariant-loop-alloc : goal.invariant-loop-alloc
invariant-loop-alloc l = record { same : repeated not_endmodule item_at l.items l.left ≡ repeated not_endmodule item_at [] l.tokens; shorter : length l.left ≤ length l.tokens }

abbrev pub decreases-loop-alloc : goal.decreases-loop-alloc
decreases-loop-alloc l = length l.left
