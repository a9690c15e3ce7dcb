-- So far each bit stands for less than the width.
use Rattle.std.proofs.Common.{◌≡◌, ◌<◌, ◌^◌, ℕ}
use Rattle.g_arith.proofs.shifts.stage_count.Given as goal

abbrev pub invariant-loop-count : goal.invariant-loop-count
invariant-loop-count l = record { places : l.places ≡ 2 ^ l.count; few : (k : ℕ) → k < l.count → 2 ^ k < l.width }
