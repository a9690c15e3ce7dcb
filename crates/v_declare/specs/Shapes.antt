-- What the range of a group of names comes to, over the names before it.
use Rattle.std.specs.Prelude.{◌≡◌, ◌≤◌, ℕ, List, ◌++◌, true, Option, is_some}
use Rattle.v_syntax.specs.declared.expr.Range.{Range}
use Rattle.v_meaning.specs.declared.names.Entry.{Entry}
use Rattle.v_meaning.specs.Names.{or_zero, span}
use Rattle.v_meaning.specs.Declarations.{range_width, range_low}
use Rattle.v_declare.specs.declared.bounds.Shape.{Shape}

-- the width, the lowest bit, and whether there is a range
pub record IsShape (names : List Entry) (range : Option Range) (shape : Shape) : Type 0 where
  pub has_bit : 1 ≤ shape.width
  pub within : shape.width ≤ 128
  pub width : shape.width ≡ range_width names range
  pub low : shape.low ≡ range_low names range
  pub vector : shape.is_vector ≡ is_some range

-- It stays so behind the names that the group declares.
pub record HasShape (names : List Entry) (range : Option Range) (shape : Shape) : Type 0 where
  pub here : IsShape names range shape
  pub stays : (more : List Entry) → IsShape (names ++ more) range shape

-- a vector of these bounds
pub record IsVector (msb lsb : Option ℕ) (shape : Shape) : Type 0 where
  pub has_bit : 1 ≤ shape.width
  pub within : shape.width ≤ 128
  pub width : shape.width ≡ span (or_zero msb) (or_zero lsb)
  pub low : shape.low ≡ or_zero lsb
  pub vector : shape.is_vector ≡ true
