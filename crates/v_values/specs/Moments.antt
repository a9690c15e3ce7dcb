-- What the names and the sites of a module hold at a moment, and how many bits each word has.
use Rattle.std.specs.Prelude.{ℕ, ◌^◌, ◌==◌, List, Bool, true, nat_lt, slice_index}
use Rattle.std.specs.List.{list_all}
use Rattle.v_meaning.specs.Views.{View}
use Rattle.v_meaning.specs.declared.names.Kind.{Kind}
use Rattle.v_meaning.specs.declared.names.Kind.TheVariants.{Parameter, Clock, Input, Net, Combinational, Variable, Memory}
use Rattle.v_meaning.specs.declared.names.Entry.{Entry}

-- how many bits each word of a view has; all words of a memory have as many, and it has so many words
pub record Shape : Type 0 where
  pub inputs : List ℕ
  pub nets : List ℕ
  pub variables : List ℕ
  pub memories : List ℕ
  pub counts : List ℕ
  pub sites : List ℕ

pub record MomentValue : Type 0 where
  pub view : View
  pub shape : Shape

-- a memory: how many bits each of its words has, and its words
pub record MemoryValue : Type 0 where
  pub width : ℕ
  pub words : List ℕ

-- the word of a name, or each of its words, has so many bits
abbrev pub has_width : Shape → Kind → ℕ → Bool
has_width s (Parameter value) width = nat_lt value (2 ^ width)
has_width s Clock width = true
has_width s (Input k) width = slice_index s.inputs k == width
has_width s (Net k) width = slice_index s.nets k == width
has_width s (Combinational k) width = slice_index s.nets k == width
has_width s (Variable k) width = slice_index s.variables k == width
has_width s (Memory k low count) width = slice_index s.memories k == width

-- each declared name has as many bits as its word
abbrev pub fit : Shape → List Entry → Bool
fit s names = list_all (λ (e : Entry). has_width s e.kind e.width) names
