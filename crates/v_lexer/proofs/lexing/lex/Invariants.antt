use Rattle.std.proofs.Common.{◌≤◌, length}
use Rattle.v_lexer.specs.Scan.{Scanned}
use Rattle.v_lexer.proofs.lexing.lex.Given as goal

abbrev pub invariant-loop-left : goal.invariant-loop-left
invariant-loop-left l = record { scanned : Scanned l.bytes l.left l.tokens; within : length l.left ≤ length l.bytes }

abbrev pub decreases-loop-left : goal.decreases-loop-left
decreases-loop-left l = length l.left
