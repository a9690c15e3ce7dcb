-- What contracts see of the system's files and writers.
use Rattle.std.specs.Prelude.{ℕ, List, Option, None, Bool}
use Rattle.lz_base.specs.Outside.{Told}

-- whether a file is open, and how many calls have failed
pub record HostFilesValue : Type 0 where
  pub is_open : Bool
  pub faults : ℕ

-- how many calls have failed
pub record HostSinkValue : Type 0 where
  pub faults : ℕ

-- they tell no bytes under any name
abbrev pub untold : Told
untold = None

-- nor bytes that are left or written
abbrev pub unknown : Option (List ℕ)
unknown = None
