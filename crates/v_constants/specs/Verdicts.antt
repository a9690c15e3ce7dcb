-- What functions answer that open a constant or miss one. No public clause names these.
use Rattle.std.specs.Prelude.{◌≡◌, ◌≤◌, ℕ, ◌*◌, List, [], ◌∷◌, Bool, true, false, not, ◌&&◌, Option, None, Some, Result, Ok, Err, ⊤}
use Rattle.std.specs.List.{list_all}
use Rattle.lz_base.specs.WordValue.{WordValue}
use Rattle.v_syntax.specs.declared.expr.Expr.{Expr}
use Rattle.v_syntax.specs.declared.expr.BinaryOperator.{BinaryOperator}
use Rattle.v_meaning.specs.Senses.{Sense, leaf, joined}
use Rattle.v_meaning.specs.declared.names.Kind.{Kind}
use Rattle.v_meaning.specs.declared.names.Kind.TheVariants.{Parameter}
use Rattle.v_meaning.specs.declared.names.Entry.{Entry}
use Rattle.v_meaning.specs.Expressions.{number_by_itself}
use Rattle.v_meaning.specs.Proper.{is_proper, is_unsized_number, is_between_1_and_128}
use Rattle.v_constants.specs.declared.body.Open.{Open}
use Rattle.v_constants.specs.declared.miss.Miss.{Miss}
use Rattle.v_constants.specs.declared.miss.Miss.TheVariants as m
use Rattle.v_constants.specs.Bodies.{sense_in, IsOpen}
use Rattle.v_constants.specs.Constants.{constant_sense}

-- a miss, but for want of memory where it is not proper
abbrev pub Misses : Bool → Miss → Type 0
Misses proper m.Improper = proper ≡ false
Misses proper m.OutOfMemory = ⊤

-- a constant that is open, of this meaning, exactly where it is proper
pub record IsOpened (proper : Bool) (s : Sense) (o : Open) : Type 0 where
  pub is_proper : proper ≡ true
  pub sense : sense_in o ≡ s
  pub kept : IsOpen o

abbrev pub Opens : Bool → Sense → Result Open Miss → Type 0
Opens proper s (Ok o) = IsOpened proper s o
Opens proper s (Err e) = Misses proper e

-- a count, exactly where the number is one
pub record IsCount (number : Option ℕ) (n : ℕ) : Type 0 where
  pub counted : number ≡ Some n
  pub has_one : 1 ≤ n
  pub within : n ≤ 128

abbrev pub Counts : Option ℕ → Result ℕ Miss → Type 0
Counts number (Ok n) = IsCount number n
Counts number (Err e) = Misses (is_between_1_and_128 number) e

-- a word of this meaning, exactly where it is proper, of which there is room for so many
pub record IsJoined (count : ℕ) (proper : Bool) (s : Sense) (word : WordValue) : Type 0 where
  pub is_proper : proper ≡ true
  pub sense : leaf word.width false (λ v. word.value) ≡ s
  pub narrow : count * word.width ≤ 128

abbrev pub Joins : ℕ → Bool → Sense → Result WordValue Miss → Type 0
Joins count proper s (Ok word) = IsJoined count proper s word
Joins count proper s (Err e) = Misses proper e

abbrev pub parameter_value : Kind → Option ℕ
parameter_value (Parameter value) = Some value
parameter_value _ = None

-- ---- operands

abbrev pub senses : List Entry → List Expr → List Sense
senses names [] = []
senses names (x ∷ xs) = constant_sense names x ∷ senses names xs

abbrev pub link_senses : List Entry → List (BinaryOperator × Expr) → List (BinaryOperator × Sense)
link_senses names [] = []
link_senses names (link ∷ links) = (link.0, constant_sense names link.1) ∷ link_senses names links

abbrev pub are_links_proper : List Entry → List (BinaryOperator × Expr) → Bool
are_links_proper names links = list_all (λ (link : BinaryOperator × Expr). is_proper names link.1) links

-- what may stand in a concatenation
abbrev pub is_part : List Entry → Expr → Bool
is_part names x = not (is_unsized_number (number_by_itself x)) && is_proper names x

-- so many copies of parts side by side
abbrev pub are_parts : List Entry → ℕ → List Expr → Bool
are_parts names count parts =
    list_all (is_part names) parts && is_between_1_and_128 (Some (count * (joined (senses names parts)).width))
