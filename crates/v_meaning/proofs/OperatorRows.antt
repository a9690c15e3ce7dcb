-- Worked rows of operators, on operands of given widths, signs and values: own widths and signs, and values where a final
-- width and sign come down.
use Rattle.std.specs.Prelude.{◌≡◌, refl, ℕ, [], ◌∷◌, Bool, true, false, None, Some}
use mathlib.Core.Bool.{xor}
use Rattle.v_syntax.specs.declared.token.Cast.TheVariants as c
use Rattle.v_syntax.specs.declared.expr.UnaryOperator.TheVariants as u
use Rattle.v_syntax.specs.declared.expr.BinaryOperator.TheVariants as b
use Rattle.v_meaning.specs.Views.{with_bits, no_view}
use Rattle.v_meaning.specs.Senses.{Sense, leaf, own, index_of, assigned, operated, chained, prefixed, chosen, joined, replicated, recast, extended}
use Rattle.v_meaning.specs.Names.{span, within}
use Rattle.v_meaning.specs.Statements.{agree}

-- an operand of so many bits, with a sign and a value
abbrev word : ℕ → Bool → ℕ → Sense
word width signed value = leaf width signed (λ v. value)

-- ---- shifts

-- s >>> 1 of a signed s copies the sign bit, above the own width too: 8 at 4 bits gives fc at 8
arithmetic : assigned 8 (operated b.ShiftRightSigned (word 4 true 8) (word 32 true 1)) no_view ≡ 252
arithmetic = refl

-- (s + u) >>> 1 is unsigned, since u is: the sum keeps its carry at 8 bits
logical : assigned 8 (operated b.ShiftRightSigned (operated b.Add (word 4 true 15) (word 4 false 15)) (word 32 true 1)) no_view ≡ 15
logical = refl

-- an amount of the width or more leaves 0, or copies of the sign bit
far_left : own (operated b.ShiftLeft (word 4 false 15) (word 4 false 4)) no_view ≡ 0
far_left = refl

far_right : own (operated b.ShiftRightSigned (word 4 true 8) (word 4 false 9)) no_view ≡ 15
far_right = refl

-- the amount determines itself and is unsigned: -1 of two bits is 3
amount : own (operated b.ShiftRight (word 8 false 255) (word 2 true 3)) no_view ≡ 31
amount = refl

-- ---- sums, differences, products

-- a + b of 4 bits, assigned to 5
carried : assigned 5 (operated b.Add (word 4 false 15) (word 4 false 1)) no_view ≡ 16
carried = refl

-- 3 - 5 of 4 bits
borrowed : own (operated b.Subtract (word 4 false 3) (word 4 false 5)) no_view ≡ 14
borrowed = refl

negated : assigned 8 (prefixed u.Minus (word 4 true 1)) no_view ≡ 255
negated = refl

product : own (operated b.Multiply (word 4 false 7) (word 4 false 7)) no_view ≡ 1
product = refl

-- 2'd3 + 2'd1 by itself is 0, and 3'd3 + 2'd1 is 4
wraps : own (operated b.Add (word 2 false 3) (word 2 false 1)) no_view ≡ 0
wraps = refl

holds : own (operated b.Add (word 3 false 3) (word 2 false 1)) no_view ≡ 4
holds = refl

-- ---- signs

-- a | u is unsigned where u is, and then a is extended with zeros; alone it keeps its sign, whatever the left side is
alone : assigned 8 (word 4 true 8) no_view ≡ 248
alone = refl

mixed : assigned 8 (operated b.Or (word 4 true 8) (word 4 false 0)) no_view ≡ 8
mixed = refl

-- ~ at a greater width inverts the bits above too
inverted : assigned 8 (prefixed u.Invert (word 4 false 3)) no_view ≡ 252
inverted = refl

-- c ? x : y is signed where both arms are
arm : assigned 8 (chosen (word 2 false 2) (word 4 true 8) (word 6 true 0)) no_view ≡ 248
arm = refl

arm_mixed : assigned 8 (chosen (word 2 false 2) (word 4 true 8) (word 6 false 0)) no_view ≡ 8
arm_mixed = refl

recast_signed : assigned 8 (recast c.Signed (word 4 false 8)) no_view ≡ 248
recast_signed = refl

-- a cast determines its operand's width itself
recast_sum : assigned 8 (recast c.Unsigned (operated b.Add (word 4 true 15) (word 4 true 1))) no_view ≡ 0
recast_sum = refl

-- ---- comparisons

-- -1 < 1 where both are signed, not where one is unsigned
below : own (operated b.Less (word 4 true 15) (word 4 true 1)) no_view ≡ 1
unfolding xor
below = refl

not_below : own (operated b.Less (word 4 true 15) (word 4 false 1)) no_view ≡ 0
not_below = refl

-- both are extended to the greater width first
same_value : own (operated b.Equal (word 4 true 15) (word 8 true 255)) no_view ≡ 1
same_value = refl

other_value : own (operated b.Equal (word 4 true 15) (word 8 false 255)) no_view ≡ 0
other_value = refl

-- a < b < 2'sd1: the second comparison has an unsigned left operand of one bit
chain : own (chained (word 4 true 15) ((b.Less, word 4 true 0) ∷ (b.Less, word 2 true 1) ∷ [])) no_view ≡ 0
unfolding xor
chain = refl

at_least : own (operated b.GreaterEqual (word 4 true 8) (word 4 true 7)) no_view ≡ 0
unfolding xor
at_least = refl

-- ---- reductions, and truth

reduced_and : own (prefixed u.And (word 3 false 7)) no_view ≡ 1
reduced_and = refl

reduced_nor : own (prefixed u.Nor (word 3 false 0)) no_view ≡ 1
reduced_nor = refl

reduced_xor : own (prefixed u.Xor (word 4 false 11)) no_view ≡ 1
unfolding xor
reduced_xor = refl

reduced_xnor : own (prefixed u.Xnor (word 4 false 11)) no_view ≡ 0
unfolding xor
reduced_xnor = refl

exclusive : own (operated b.Xnor (word 4 false 12) (word 4 false 10)) no_view ≡ 9
exclusive = refl

both : own (operated b.AndAlso (word 4 false 2) (word 4 false 4)) no_view ≡ 1
both = refl

-- ---- concatenation

-- {2'd2, 3'd1} is 10001
side_by_side : own (joined (word 2 false 2 ∷ word 3 false 1 ∷ [])) no_view ≡ 17
side_by_side = refl

-- it is unsigned, and its parts determine themselves
joined_sign : assigned 8 (joined (word 4 true 8 ∷ [])) no_view ≡ 8
joined_sign = refl

four_times : own (replicated 4 (word 1 false 1)) no_view ≡ 15
four_times = refl

thrice : own (replicated 3 (joined (word 2 false 2 ∷ []))) no_view ≡ 42
thrice = refl

-- ---- indices, and bits of words

-- 4'sd9 stands for -7, and 4'd9 for 9
negative : index_of (word 4 true 9) no_view ≡ None
negative = refl

positive : index_of (word 4 false 9) no_view ≡ Some 9
positive = refl

-- [9:4] has the bits 4 to 9
lowest : within 4 6 (Some 4) ≡ Some 0
lowest = refl

above : within 4 6 (Some 10) ≡ None
above = refl

bits_of_range : span 9 4 ≡ 6
bits_of_range = refl

-- 1010_1010 with 11 from bit 2 up
some_bits : with_bits 2 2 3 170 ≡ 174
some_bits = refl

-- ---- case items

-- 4'sbz001 as an item of a casez over signed words of 8 bits: the z of the top bit stands for the bits above
signed_mask : agree (extended 4 8 8 true) 241 (extended 4 1 8 true) ≡ true
signed_mask = refl

-- over unsigned ones they are compared as zeros
unsigned_mask : agree (extended 4 8 8 false) 241 (extended 4 1 8 false) ≡ false
unsigned_mask = refl

unsigned_match : agree (extended 4 8 8 false) 9 (extended 4 1 8 false) ≡ true
unsigned_match = refl
