-- The one spelling of choices.
use Rattle.std.specs.Prelude.{◌≡◌, ℕ, List, [], ◌∷◌, ◌++◌, length, Bool, codes, flat_map}
use Rattle.lz_lines.specs.Fields.{Each}
use Rattle.t_choices.specs.Bits.{HasBits, choice_field}
use Rattle.t_choices.specs.Repeated.{last_line}
use Rattle.t_choices.specs.declared.choice_texts.Choices.{Choices}

-- KEY BITS
abbrev pub choice_line : List ℕ → List Bool → List ℕ
choice_line key bits = key ++ choice_field bits ++ 10 ∷ []

-- the first line, the line of the first choice, a line for each cycle, and the last line
abbrev pub choices_text : Choices → List ℕ
choices_text c = (codes "choices 1" ++ 10 ∷ []) ++ choice_line (codes "first") c.first ++ flat_map (choice_line (codes "cycle")) c.cycles ++ last_line

-- These bytes are the text of these choices, which have so many bits and cycles.
pub record IsChoices (first_bits cycle_bits count : ℕ) (choices : Choices) (bytes : List ℕ) : Type 0 where
  pub begins : HasBits first_bits choices.first
  pub fit : Each (HasBits cycle_bits) choices.cycles
  pub many : length choices.cycles ≡ count
  pub spelled : bytes ≡ choices_text choices
