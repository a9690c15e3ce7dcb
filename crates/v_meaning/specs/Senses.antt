-- What an expression means, and what each operator makes of the meanings of its operands (1364-2005, 5.1, 5.4 and 5.5).
use Rattle.std.specs.Prelude.{ℕ, zero, suc, ◌+◌, ◌-◌, ◌*◌, ◌/◌, ◌%◌, ◌^◌, ◌==◌, List, [], ◌∷◌, Bool, true, false, not, ◌&&◌, ◌||◌, if◌then◌else◌, nat_le, nat_lt, max, bit_and, bit_or, bit_xor, Option, None, Some}
use Rattle.std.specs.Bool.{xor}
use Rattle.lz_base.specs.Bits.{is_negative}
use Rattle.v_syntax.specs.declared.token.Cast.{Cast}
use Rattle.v_syntax.specs.declared.token.Cast.TheVariants as c
use Rattle.v_syntax.specs.declared.expr.UnaryOperator.{UnaryOperator}
use Rattle.v_syntax.specs.declared.expr.UnaryOperator.TheVariants as u
use Rattle.v_syntax.specs.declared.expr.BinaryOperator.{BinaryOperator}
use Rattle.v_syntax.specs.declared.expr.BinaryOperator.TheVariants as b
use Rattle.v_meaning.specs.Views.{View, no_view}

-- An own width and sign, and the value where a final width, not below the own one, and a final sign come down from where
-- the expression stands (5.4 and 5.5). Values are numbers below 2 ^ width; a signed word whose top bit is 1 stands for
-- the value less 2 ^ width.
pub record Sense : Type 0 where
  pub width : ℕ
  pub signed : Bool
  pub at : ℕ → Bool → View → ℕ

-- the value of what determines its width and sign itself (5.4.1)
abbrev pub own : Sense → View → ℕ
own x v = x.at x.width x.signed v

-- The number that an index, a bound or a count stands for; None where it is negative: where it is signed, and its top bit
-- is 1.
abbrev pub index_of : Sense → View → Option ℕ
index_of x v = if x.signed && is_negative x.width (own x v) then None else Some (own x v)

-- the number that a constant expression stands for
abbrev pub constant : Sense → Option ℕ
constant x = index_of x no_view

-- What an assignment to so many bits gives: the right side at the greater of both widths, with its own sign, cut to the
-- left width (5.4.1, 5.5 and 9.2).
abbrev pub assigned : ℕ → Sense → View → ℕ
assigned width x v = x.at (max width x.width) x.signed v % 2 ^ width

abbrev pub bit : Bool → ℕ
bit true = 1
bit false = 0

-- a value at a greater width: copies of its top bit above it where the sign that came down is signed, else zeros (5.5.2)
abbrev pub extended : ℕ → ℕ → ℕ → Bool → ℕ
extended width value to signed =
    if nat_le to width then value else (if signed && is_negative width value then value + (2 ^ to - 2 ^ width) else value)

-- what has no operands that take the final width: it is extended to it
abbrev pub leaf : ℕ → Bool → (View → ℕ) → Sense
leaf width signed value = record { width = width; signed = signed; at = λ w s v. extended width (value v) w s }

-- ---- operators between operands

-- less, as words of a width: of two signed words of which one is negative it is the less (5.1.7)
abbrev pub less : ℕ → Bool → ℕ → ℕ → Bool
less w s m n = if s && xor (is_negative w m) (is_negative w n) then is_negative w m else nat_lt m n

-- what an operator makes of two values, at a width and sign (5.1.5 to 5.1.10 and 5.1.12)
abbrev pub operation : BinaryOperator → ℕ → Bool → ℕ → ℕ → ℕ
operation b.Multiply w s m n = m * n % 2 ^ w
operation b.Add w s m n = (m + n) % 2 ^ w
operation b.Subtract w s m n = (m + (2 ^ w - n)) % 2 ^ w
operation b.ShiftLeft w s m n = m * 2 ^ n % 2 ^ w
operation b.ShiftRight w s m n = m / 2 ^ n
operation b.ShiftRightSigned w s m n = if s && is_negative w m then (m + (2 ^ n - 1) * 2 ^ w) / 2 ^ n else m / 2 ^ n
operation b.Less w s m n = bit (less w s m n)
operation b.LessEqual w s m n = bit (not (less w s n m))
operation b.Greater w s m n = bit (less w s n m)
operation b.GreaterEqual w s m n = bit (not (less w s m n))
operation b.Equal w s m n = bit (m == n)
operation b.NotEqual w s m n = bit (not (m == n))
operation b.And w s m n = bit_and m n
operation b.Xor w s m n = bit_xor m n
operation b.Xnor w s m n = 2 ^ w - 1 - bit_xor m n
operation b.Or w s m n = bit_or m n
operation b.AndAlso w s m n = bit (not (m == 0) && not (n == 0))
operation b.OrElse w s m n = bit (not (m == 0) || not (n == 0))

-- where the width and sign of an operator's operands come from (5.4.1, table 5-22)
pub data Class : Type 0 where
  Shared : Class  -- both take the final width and sign
  Compared : Class  -- both share the greater of their widths, and are signed where both are
  Shifted : Class  -- the left one takes the final width and sign, and the right one determines itself
  Logical : Class  -- both determine themselves

abbrev pub class_of : BinaryOperator → Class
class_of b.Multiply = Shared
class_of b.Add = Shared
class_of b.Subtract = Shared
class_of b.ShiftLeft = Shifted
class_of b.ShiftRight = Shifted
class_of b.ShiftRightSigned = Shifted
class_of b.Less = Compared
class_of b.LessEqual = Compared
class_of b.Greater = Compared
class_of b.GreaterEqual = Compared
class_of b.Equal = Compared
class_of b.NotEqual = Compared
class_of b.And = Shared
class_of b.Xor = Shared
class_of b.Xnor = Shared
class_of b.Or = Shared
class_of b.AndAlso = Logical
class_of b.OrElse = Logical

-- the greater width, and signed if both are (5.4.1 and 5.5.1)
abbrev pub joint_width : Sense → Sense → ℕ
joint_width x y = max x.width y.width

abbrev pub joint_sign : Sense → Sense → Bool
joint_sign x y = x.signed && y.signed

abbrev pub by_class : Class → BinaryOperator → Sense → Sense → Sense
by_class Shared op x y = record { width = joint_width x y; signed = joint_sign x y; at = λ w s v. operation op w s (x.at w s v) (y.at w s v) }
by_class Compared op x y =
    leaf 1 false (λ v. operation op (joint_width x y) (joint_sign x y) (x.at (joint_width x y) (joint_sign x y) v) (y.at (joint_width x y) (joint_sign x y) v))
by_class Shifted op x y = record { width = x.width; signed = x.signed; at = λ w s v. operation op w s (x.at w s v) (own y v) }
by_class Logical op x y = leaf 1 false (λ v. operation op 1 false (own x v) (own y v))

abbrev pub operated : BinaryOperator → Sense → Sense → Sense
operated op x y = by_class (class_of op) op x y

-- a chain associates to the left (5.1.2)
abbrev pub chained : Sense → List (BinaryOperator × Sense) → Sense
chained x [] = x
chained x (link ∷ links) = chained (operated link.0 x link.1) links

-- ---- operators before an operand

-- the exclusive or of so many low bits
abbrev pub parity : ℕ → ℕ → Bool
parity zero n = false
parity (suc w) n = xor (n % 2 == 1) (parity w (n / 2))

-- what an operator makes of a value, at a width (5.1.5, 5.1.9, 5.1.10 and 5.1.11)
abbrev pub operation_before : UnaryOperator → ℕ → ℕ → ℕ
operation_before u.Plus w n = n
operation_before u.Minus w n = (2 ^ w - n) % 2 ^ w
operation_before u.Invert w n = 2 ^ w - 1 - n
operation_before u.Not w n = bit (n == 0)
operation_before u.And w n = bit (n == 2 ^ w - 1)
operation_before u.Nand w n = bit (not (n == 2 ^ w - 1))
operation_before u.Or w n = bit (not (n == 0))
operation_before u.Nor w n = bit (n == 0)
operation_before u.Xor w n = bit (parity w n)
operation_before u.Xnor w n = bit (not (parity w n))

-- the operand takes the final width and sign; else it determines itself (5.4.1, table 5-22)
abbrev pub is_through : UnaryOperator → Bool
is_through u.Plus = true
is_through u.Minus = true
is_through u.Invert = true
is_through _ = false

abbrev pub through : Bool → UnaryOperator → Sense → Sense
through true op x = record { width = x.width; signed = x.signed; at = λ w s v. operation_before op w (x.at w s v) }
through false op x = leaf 1 false (λ v. operation_before op x.width (own x v))

abbrev pub prefixed : UnaryOperator → Sense → Sense
prefixed op x = through (is_through op) op x

-- ---- the others

-- c ? x : y, where a condition holds if its value is not 0 (5.1.13)
abbrev pub chosen : Sense → Sense → Sense → Sense
chosen c x y = record {
  width = joint_width x y;
  signed = joint_sign x y;
  at = λ w s v. if own c v == 0 then y.at w s v else x.at w s v;
}

-- two operands side by side, the left one more significant
abbrev pub beside : Sense → Sense → Sense
beside x y = leaf (x.width + y.width) false (λ v. own x v * 2 ^ y.width + own y v)

abbrev pub joined_behind : Sense → List Sense → Sense
joined_behind x [] = x
joined_behind x (y ∷ ys) = joined_behind (beside x y) ys

-- {x, y, z} is {{x, y}, z} (5.1.14)
abbrev pub joined : List Sense → Sense
joined xs = joined_behind (leaf 0 false (λ v. 0)) xs

-- so many copies of a word side by side
abbrev pub copies : ℕ → ℕ → ℕ → ℕ
copies zero width value = 0
copies (suc count) width value = value * 2 ^ (count * width) + copies count width value

abbrev pub replicated : ℕ → Sense → Sense
replicated count x = leaf (count * x.width) false (λ v. copies count x.width (own x v))

abbrev pub is_signed : Cast → Bool
is_signed c.Signed = true
is_signed c.Unsigned = false

-- $signed and $unsigned (5.5)
abbrev pub recast : Cast → Sense → Sense
recast sign x = leaf x.width (is_signed sign) (own x)
