use Rattle.std.proofs.Common.{◌≡◌, ◌-◌, length, take}
use Rattle.v_names.specs.Words.{AreWords}
use Rattle.v_typed.proofs.copying.copy_of.Given as goal

-- the first names, each of which is a word
abbrev pub invariant-loop-entry : goal.invariant-loop-entry
invariant-loop-entry l = (l.copy ≡ take l.number l.names) × AreWords l.copy

abbrev pub decreases-loop-entry : goal.decreases-loop-entry
decreases-loop-entry l = length l.names - l.number
