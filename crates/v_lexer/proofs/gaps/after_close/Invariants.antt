use Rattle.std.proofs.Common.{◌≡◌, length}
use Rattle.v_lexer.specs.Scan.{after_close}
use Rattle.v_lexer.proofs.gaps.after_close.Given as goal

abbrev pub invariant-loop-first : goal.invariant-loop-first
invariant-loop-first l = after_close l.left ≡ after_close l.bytes

abbrev pub decreases-loop-first : goal.decreases-loop-first
decreases-loop-first l = length l.left
