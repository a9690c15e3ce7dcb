use Rattle.std.proofs.Common.{◌≡◌, length, map}
use Rattle.v_lexer.specs.Scan.{is_in}
use Rattle.v_lexer.proofs.words.is_in.Given as goal

abbrev pub invariant-loop-words : goal.invariant-loop-words
invariant-loop-words l = is_in (map (λ w. w.now) l.words) l.word ≡ is_in (map (λ w. w.now) l.initial.words) l.word

abbrev pub decreases-loop-words : goal.decreases-loop-words
decreases-loop-words l = length l.words
