-- What a reader answers: a value, a fault at a place, or that memory was wanted, which no clause ties to a cause.
use Rattle.std.specs.Prelude.{◌≡◌, Result, Ok, Err, ⊤}
use Rattle.lz_base.specs.declared.fault.Fault.{Fault}
use Rattle.lz_base.specs.declared.fault.Stop.{Stop}
use Rattle.lz_base.specs.declared.fault.Stop.TheVariants as stop

-- memory was wanted
abbrev pub IsWant : Stop → Type 0
IsWant (stop.Fault fault) = ⊥
IsWant stop.OutOfMemory = ⊤

-- want of memory aside, the answer, seen so, is this value
abbrev pub Answers : {X A : Type 0} → (X → A) → Result X Stop → A → Type 0
Answers value (Ok x) a = value x ≡ a
Answers value (Err e) a = IsWant e

-- where the answer is a fault, this holds of it
abbrev pub IfFault : {X : Type 0} → Result X Stop → (Fault → Type 0) → Type 0
IfFault (Ok x) P = ⊤
IfFault (Err (stop.Fault fault)) P = P fault
IfFault (Err stop.OutOfMemory) P = ⊤
