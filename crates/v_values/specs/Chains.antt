-- What stands before the operators of a chain.
use Rattle.std.specs.Prelude.{◌≡◌, ◌<◌, ◌^◌, ℕ, List, true}
use Rattle.v_meaning.specs.Senses.{Class, Shared, Compared, Shifted, Logical, class_of}
use Rattle.v_meaning.specs.declared.names.Entry.{Entry}
use Rattle.v_core.specs.declared.typed.Link.{Link}
use Rattle.v_core.specs.declared.typed.Typed.{Typed}
use Rattle.v_core.specs.Formed.{Formed, formed_chain, is_width, linked_by, link_forms}

-- a value of some width, behind which the operands keep to their widths
pub record Begins (form : Formed) (first : ℕ) (links : List (Link × Typed)) (names : List Entry) : Type 0 where
  pub word : is_width form.width ≡ true
  pub below : first < 2 ^ form.width
  pub kept : (formed_chain form (link_forms links) names).kept ≡ true

-- two values of widths that an operator takes
pub record Meets (x y : Formed) (link : Link) (left right : ℕ) : Type 0 where
  pub kept : (linked_by (class_of link.operator) link x y).kept ≡ true
  pub left_below : left < 2 ^ x.width
  pub right_below : right < 2 ^ y.width

-- the width that an operator works at; a logical one takes operands of any width
abbrev pub working_width : Class → ℕ → ℕ
working_width Shared width = width
working_width Compared width = width
working_width Shifted width = width
working_width Logical width = 1
