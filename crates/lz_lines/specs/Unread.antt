-- Why a part of a text was not read.
use Rattle.std.specs.Prelude.{ℕ, ◌-◌, ◌≤◌, ⊤}
use Rattle.lz_base.specs.declared.rule.Rule.{Rule}
use Rattle.lz_base.specs.declared.fault.Stop.{Stop}
use Rattle.lz_base.specs.declared.fault.Stop.TheVariants as stop
use Rattle.lz_lines.specs.declared.unread.Unread.{Unread}
use Rattle.lz_lines.specs.declared.unread.Unread.TheVariants.{Broken, OutOfMemory}

-- the place is among so many bytes, or at their end
abbrev pub IsWithin : ℕ → Unread → Type 0
IsWithin length (Broken e) = e.left ≤ length
IsWithin length OutOfMemory = ⊤

-- the same of a whole text of so many bytes
abbrev pub stop_of : ℕ → Rule → Unread → Stop
stop_of length rule (Broken e) = stop.Fault (record { rule = rule; at = length - e.left })
stop_of length rule OutOfMemory = stop.OutOfMemory
