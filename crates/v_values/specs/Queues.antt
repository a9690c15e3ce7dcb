-- Writes that wait, and how many of them a target makes (1364-2005, 9.2.2 and 11.4.1).
use Rattle.std.specs.Prelude.{ℕ, ◌+◌, List, [], ◌∷◌}
use Rattle.v_meaning.specs.Designs.{total}
use Rattle.v_meaning.specs.Views as view
use Rattle.v_core.specs.declared.statement.TypedTarget.{TypedTarget}
use Rattle.v_core.specs.declared.statement.TypedTarget.TheOpen.{TypedTarget-F}
use Rattle.v_core.specs.declared.statement.TypedTarget.TheOpen as t
use Rattle.v_core.specs.declared.statement.TypedTarget.TheFolds.{fold-TypedTarget}

-- the writes, in their order, and how many there is room for in all
pub record QueueValue : Type 0 where
  pub writes : List view.Write
  pub room : ℕ

-- how many writes a target makes at most: one for each part
abbrev pub write_count_step : TypedTarget-F ℕ → ℕ
write_count_step (t.Part name at low width) = 1
write_count_step (t.Select name at bits width signed index) = 1
write_count_step (t.Concat parts) = total parts

abbrev pub write_count : TypedTarget → ℕ
write_count = fold-TypedTarget ℕ write_count_step

-- how many all of several targets make
abbrev pub write_counts : List TypedTarget → ℕ
write_counts [] = 0
write_counts (x ∷ xs) = write_count x + write_counts xs
