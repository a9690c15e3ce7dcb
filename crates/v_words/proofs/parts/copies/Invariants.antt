-- What the loop over the copies keeps.
use Rattle.std.proofs.Common.{◌≡◌, ◌<◌, ◌^◌, ◌*◌}
use Rattle.v_meaning.specs.Senses.{copies}
use Rattle.v_words.proofs.parts.copies.Given as goal

abbrev pub invariant-loop-i : goal.invariant-loop-i
invariant-loop-i l = (l.word ≡ copies l.i l.width l.value) × (l.word < 2 ^ (l.i * l.width))
