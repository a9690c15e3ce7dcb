-- Where lines break the rule on references: the places of wrong numbers and of repeated names, in the order of the text.
-- A place is counted in bytes, from 0.
use Rattle.std.specs.Prelude.{◌≡◌, ℕ, ◌+◌, List, [], ◌∷◌, ◌++◌, length, nat_lt, if◌then◌else◌, Result, Ok, Err, ⊤}
use Rattle.lz_base.specs.declared.name.Port.{Port}
use Rattle.lz_base.specs.declared.rule.Rule.{Rule}
use Rattle.lz_base.specs.declared.fault.Stop.{Stop}
use Rattle.lz_base.specs.declared.fault.Stop.TheVariants.{Fault, OutOfMemory}
use Rattle.lz_base.specs.Names.{is_among}
use Rattle.lz_lines.specs.Fields.{field, number}
use Rattle.lz_lines.specs.Shared.{input_line}

-- Numbers that are not below a bound, in fields of which the first has its blank at this place.
abbrev pub wrong_numbers : ℕ → ℕ → List ℕ → List ℕ
wrong_numbers high at_ [] = []
wrong_numbers high at_ (n ∷ ns) = (if nat_lt n high then [] else (at_ + 1) ∷ []) ++ wrong_numbers high (at_ + length (number n)) ns

-- the place of a name that stands behind these, where it is one of them
abbrev pub wrong_name : List (List ℕ) → ℕ → List ℕ → List ℕ
wrong_name names at_ name = if is_among name names then at_ ∷ [] else []

-- Lines of inputs behind these names, of which the first begins at this place: its name stands behind `input` and a blank.
abbrev pub wrong_inputs : List (List ℕ) → ℕ → List Port → List ℕ
wrong_inputs names at_ [] = []
wrong_inputs names at_ (p ∷ ps) = wrong_name names (at_ + 6) p.name ++ wrong_inputs (names ++ p.name ∷ []) (at_ + length (input_line p)) ps

-- The line of an output that begins at this place, behind these names: its name, and numbers that are not below a bound.
abbrev pub wrong_output : List (List ℕ) → ℕ → ℕ → List ℕ → List ℕ → List ℕ
wrong_output names high at_ name ns = wrong_name names (at_ + 7) name ++ wrong_numbers high (at_ + 6 + length (field name)) ns

-- a fault breaks this rule, at the first of these places
abbrev pub IsWrong : Rule → List ℕ → Stop → Type 0
IsWrong rule places (Fault f) = (f.rule ≡ rule) × (more : List ℕ) × (places ≡ f.at ∷ more)
IsWrong rule places OutOfMemory = ⊤

-- The places are those of references that are judged up to here: none is wrong, or the fault is at the first.
abbrev pub Judges : Rule → Result ℕ Stop → ℕ → List ℕ → Type 0
Judges rule (Ok x) end_ places = (x ≡ end_) × (places ≡ [])
Judges rule (Err e) end_ places = IsWrong rule places e
