-- How many bits expressions and targets have, where that is definite, and the same counted up to 129. No public clause
-- names these.
use Rattle.std.specs.Prelude.{ℕ, List, [], ◌∷◌, ◌&&◌, if◌then◌else◌, min, max, Option, None, Some}
use Rattle.v_syntax.specs.declared.expr.Expr.{Expr}
use Rattle.v_syntax.specs.declared.expr.UnaryOperator.{UnaryOperator}
use Rattle.v_syntax.specs.declared.expr.BinaryOperator.{BinaryOperator}
use Rattle.v_syntax.specs.declared.stmt.Target.{Target}
use Rattle.v_meaning.specs.Senses.{Class, Shared, Compared, Shifted, Logical, class_of, is_through}
use Rattle.v_meaning.specs.declared.names.Kind.{Kind}
use Rattle.v_meaning.specs.declared.names.Kind.TheVariants.{Memory}
use Rattle.v_meaning.specs.declared.names.Entry.{Entry}
use Rattle.v_meaning.specs.Targets.{target_of}
use Rattle.v_meaning.specs.Names.{or_zero, span}
use Rattle.v_meaning.specs.Declarations.{constant_value}
use Rattle.v_meaning.specs.Proper.{bits_if, width_of, is_proper, is_definite, is_definite_target}

-- a number of bits that is 129 where it is greater
abbrev pub up_to_129 : Option ℕ → Option ℕ
up_to_129 None = None
up_to_129 (Some n) = Some (min n 129)

abbrev pub bits_of : List Entry → Expr → Option ℕ
bits_of names x = bits_if (is_definite names x) (width_of names x)

abbrev pub target_bits : List Entry → Target → Option ℕ
target_bits names t = bits_if (is_definite_target names t) (target_of names [] t).width

-- of a part of a vector with these bounds
abbrev pub part_bits : List Entry → Expr → Expr → Option ℕ
part_bits names msb lsb = bits_if (is_proper names msb && is_proper names lsb) (span (or_zero (constant_value names msb)) (or_zero (constant_value names lsb)))

-- what two numbers of bits make, where both are definite
abbrev pub both : (ℕ → ℕ → ℕ) → Option ℕ → Option ℕ → Option ℕ
both f (Some m) (Some n) = Some (f m n)
both f _ _ = None

abbrev pub mapped : (ℕ → ℕ) → Option ℕ → Option ℕ
mapped f None = None
mapped f (Some n) = Some (f n)

-- the width of a bit of a vector or of a word of a memory
abbrev pub select_width : Kind → ℕ → ℕ
select_width (Memory k low count) width = width
select_width kind width = 1

-- the width of what an operator makes of operands of these widths (1364-2005, 5.4.1, table 5-22)
abbrev pub width_before : UnaryOperator → ℕ → ℕ
width_before operator m = if is_through operator then m else 1

abbrev pub class_width : Class → ℕ → ℕ → ℕ
class_width Shared m n = max m n
class_width Compared m n = 1
class_width Shifted m n = m
class_width Logical m n = 1

abbrev pub width_between : BinaryOperator → ℕ → ℕ → ℕ
width_between operator = class_width (class_of operator)

-- What a list makes of the number before it, one element after another: each has a number of its own.
abbrev pub made_behind : {A : Type 0} → (A → ℕ → ℕ → ℕ) → (A → Option ℕ) → Option ℕ → List A → Option ℕ
made_behind f bits all [] = all
made_behind f bits all (x ∷ xs) = made_behind f bits (both (f x) all (bits x)) xs

-- the same, counted up to 129 at each element
abbrev pub counted_behind : {A : Type 0} → (A → ℕ → ℕ → ℕ) → (A → Option ℕ) → Option ℕ → List A → Option ℕ
counted_behind f bits all [] = all
counted_behind f bits all (x ∷ xs) = counted_behind f bits (up_to_129 (both (f x) all (up_to_129 (bits x)))) xs

-- of a chain, behind what its first operand has
abbrev pub chain_made : List Entry → Option ℕ → List (BinaryOperator × Expr) → Option ℕ
chain_made names = made_behind (λ (link : BinaryOperator × Expr). width_between link.0) (λ (link : BinaryOperator × Expr). bits_of names link.1)

abbrev pub chain_counted : List Entry → Option ℕ → List (BinaryOperator × Expr) → Option ℕ
chain_counted names = counted_behind (λ (link : BinaryOperator × Expr). width_between link.0) (λ (link : BinaryOperator × Expr). bits_of names link.1)
