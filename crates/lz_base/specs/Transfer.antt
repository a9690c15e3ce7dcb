-- What reading a whole file answers.
use Rattle.std.specs.Prelude.{◌≡◌, ℕ, ◌+◌, ◌<◌, List, length, drop, Result, Ok, Err, Option, Some, None, ⊤}
use Rattle.lz_base.specs.Causes.{Rose}
use Rattle.lz_base.specs.Outside.{Told}
use Rattle.lz_base.specs.declared.fault.ReadEnd.{ReadEnd}
use Rattle.lz_base.specs.declared.fault.ReadEnd.TheVariants.{Fault, TooLong, OutOfMemory}

-- a fault is answered only where the count of faults rose, and every other answer leaves the count as it was
abbrev pub CausesRead : {T : Type 0} → ℕ → ℕ → Result T ReadEnd → Type 0
CausesRead before now (Ok v) = now ≡ before
CausesRead before now (Err Fault) = Rose before now
CausesRead before now (Err TooLong) = now ≡ before
CausesRead before now (Err OutOfMemory) = now ≡ before

-- where bytes are told, more than the limit stand under the name, and one more than the limit was read
abbrev pub StandsLonger : Told → List ℕ → ℕ → Option (List ℕ) → Type 0
StandsLonger None name limit rest = ⊤
StandsLonger (Some content) name limit rest =
    (bytes : List ℕ) × (content name ≡ Some bytes) × (limit < length bytes) × (rest ≡ Some (drop (limit + 1) bytes))
