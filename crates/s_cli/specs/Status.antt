-- The statuses, their numbers and their lines.
use Rattle.std.specs.Prelude.{◌≡◌, ◌⊎◌, ℕ, List, [], ◌∷◌, ◌++◌, take, codes, Option, Result, Ok, Err, ⊤}
use Rattle.std.specs.Fmt.{decimal}
use Rattle.std.specs.Io.KnownBytes.{Appends}
use Rattle.lz_base.specs.Causes.{Rose}
use Rattle.lz_base.specs.Rules.{rule_text}
use Rattle.lz_base.specs.declared.fault.Fault.{Fault}
use Rattle.lz_base.specs.declared.fault.Stop.{Stop}
use Rattle.lz_base.specs.declared.fault.Stop.TheVariants as stop
use Rattle.s_cli.specs.declared.status.Status.{Status}
use Rattle.s_cli.specs.declared.status.Status.TheVariants as status

-- the number with which the program ends
abbrev pub status_code : Status → ℕ
status_code status.Ok = 0
status_code (status.Refused fault) = 1
status_code status.Usage = 2
status_code status.ReadFault = 3
status_code status.WriteFault = 4
status_code status.OutOfMemory = 5

-- as in `error: E3 at 0`
abbrev pub refusal_line : Fault → List ℕ
refusal_line fault = codes "error: " ++ rule_text fault.rule ++ codes " at " ++ decimal fault.at ++ 10 ∷ []

-- the line that a status writes to the errors
abbrev pub status_line : Status → List ℕ
status_line status.Ok = []
status_line (status.Refused fault) = refusal_line fault
status_line status.Usage = codes "error: usage" ++ 10 ∷ []
status_line status.ReadFault = codes "error: read" ++ 10 ∷ []
status_line status.WriteFault = codes "error: write" ++ 10 ∷ []
status_line status.OutOfMemory = codes "error: memory" ++ 10 ∷ []

-- The bytes went out, and no call failed; or a call failed, and a front of them went out.
abbrev pub Writes : ℕ → ℕ → Option (List ℕ) → Option (List ℕ) → List ℕ → Type 0
Writes before now old new bytes = ((now ≡ before) × Appends old new bytes) ⊎ (Rose before now × ((sent : ℕ) × Appends old new (take sent bytes)))

-- Two texts went out, and no call failed; or a call failed, and a front of each went out.
abbrev pub WritesBoth : ℕ → ℕ → Option (List ℕ) → Option (List ℕ) → List ℕ → List ℕ → Type 0
WritesBoth before now old new first second =
    ((now ≡ before) × Appends old new (first ++ second))
    ⊎ (Rose before now × ((sent : ℕ) × (more : ℕ) × Appends old new (take sent first ++ take more second)))

-- a fact for one status

abbrev pub OnDone : Status → Type 0 → Type 0
OnDone status.Ok P = P
OnDone (status.Refused fault) P = ⊤
OnDone status.Usage P = ⊤
OnDone status.ReadFault P = ⊤
OnDone status.WriteFault P = ⊤
OnDone status.OutOfMemory P = ⊤

abbrev pub OnWriteFault : Status → Type 0 → Type 0
OnWriteFault status.Ok P = ⊤
OnWriteFault (status.Refused fault) P = ⊤
OnWriteFault status.Usage P = ⊤
OnWriteFault status.ReadFault P = ⊤
OnWriteFault status.WriteFault P = P
OnWriteFault status.OutOfMemory P = ⊤

abbrev pub OnReadFault : Status → Type 0 → Type 0
OnReadFault status.Ok P = ⊤
OnReadFault (status.Refused fault) P = ⊤
OnReadFault status.Usage P = ⊤
OnReadFault status.ReadFault P = P
OnReadFault status.WriteFault P = ⊤
OnReadFault status.OutOfMemory P = ⊤

abbrev pub IfRefused : Status → (Fault → Type 0) → Type 0
IfRefused status.Ok P = ⊤
IfRefused (status.Refused fault) P = P fault
IfRefused status.Usage P = ⊤
IfRefused status.ReadFault P = ⊤
IfRefused status.WriteFault P = ⊤
IfRefused status.OutOfMemory P = ⊤

-- a fact for every status under which nothing was written: all but Ok and a fault of writing
abbrev pub OnSilent : Status → Type 0 → Type 0
OnSilent status.Ok P = ⊤
OnSilent (status.Refused fault) P = P
OnSilent status.Usage P = P
OnSilent status.ReadFault P = P
OnSilent status.WriteFault P = ⊤
OnSilent status.OutOfMemory P = P

-- a status of what stands against an output that is not made yet
abbrev pub IsFailure : Status → Type 0
IsFailure status.Ok = ⊥
IsFailure (status.Refused fault) = ⊤
IsFailure status.Usage = ⊤
IsFailure status.ReadFault = ⊤
IsFailure status.WriteFault = ⊥
IsFailure status.OutOfMemory = ⊤

-- the status of an output that goes out, or of what stands against it
abbrev pub status_of : {T : Type 0} → Result T Status → Status
status_of (Ok v) = status.Ok
status_of (Err s) = s

-- reading files fails with a fault, which is counted, or for want of memory
abbrev pub CausesTexts : {T : Type 0} → ℕ → ℕ → Result T Status → Type 0
CausesTexts before now (Ok texts) = now ≡ before
CausesTexts before now (Err status.Ok) = ⊥
CausesTexts before now (Err (status.Refused fault)) = ⊥
CausesTexts before now (Err status.Usage) = ⊥
CausesTexts before now (Err status.ReadFault) = Rose before now
CausesTexts before now (Err status.WriteFault) = ⊥
CausesTexts before now (Err status.OutOfMemory) = now ≡ before

-- the status of a fault in a text, or of memory that was wanting
abbrev pub status_by : Stop → Status
status_by (stop.Fault fault) = status.Refused fault
status_by stop.OutOfMemory = status.OutOfMemory

-- the status is this one, or memory was wanting
abbrev pub IsUnlessMemory : Status → Status → Type 0
IsUnlessMemory s expected = (s ≡ expected) ⊎ (s ≡ status.OutOfMemory)

-- the status refuses with such a fault, or memory was wanting
abbrev pub IsRefusedUnlessMemory : Status → (Fault → Type 0) → Type 0
IsRefusedUnlessMemory s P = ((fault : Fault) × P fault × (s ≡ status.Refused fault)) ⊎ (s ≡ status.OutOfMemory)
