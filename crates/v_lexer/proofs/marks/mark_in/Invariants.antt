use Rattle.std.proofs.Common.{◌≡◌, length, map}
use Rattle.v_lexer.specs.Scan.{mark_in}
use Rattle.v_lexer.proofs.marks.mark_in.Given as goal

abbrev pub invariant-loop-table : goal.invariant-loop-table
invariant-loop-table l = mark_in (map (λ m. (m.0.now, m.1)) l.table) l.bytes ≡ mark_in (map (λ m. (m.0.now, m.1)) l.initial.table) l.bytes

abbrev pub decreases-loop-table : goal.decreases-loop-table
decreases-loop-table l = length l.table
