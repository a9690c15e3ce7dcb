use Rattle.std.proofs.Common.{◌≡◌, length}
use Rattle.v_lexer.specs.Scan.{passes, rest_of}
use Rattle.v_lexer.proofs.classes.after.Given as goal

abbrev pub invariant-loop-first : goal.invariant-loop-first
invariant-loop-first l = rest_of (passes l.class) l.left ≡ rest_of (passes l.class) l.bytes

abbrev pub decreases-loop-first : goal.decreases-loop-first
decreases-loop-first l = length l.left
