-- Which operands an operator takes at a width, and what it gives at any width.
use Rattle.std.proofs.Common.{◌≡◌, ◌<◌, ℕ, Bool, true, false, arith}
use Rattle.std.specs.Prelude.{◌^◌}
use Rattle.v_syntax.specs.declared.expr.UnaryOperator.{UnaryOperator}
use Rattle.v_syntax.specs.declared.expr.UnaryOperator.TheVariants as u
use Rattle.v_syntax.specs.declared.expr.BinaryOperator.{BinaryOperator}
use Rattle.v_syntax.specs.declared.expr.BinaryOperator.TheVariants as b
use Rattle.v_meaning.specs.Senses.{Class, Shared, Compared, Shifted, Logical, class_of, bit, is_through, operation, operation_before}
use Rattle.v_words.specs.Operands.{AreOperands}
use Rattle.v_constants.specs.Bodies.{is_shifted}

pub both_fit : (c : Class) (w left right : ℕ) → left < 2 ^ w → right < 2 ^ w → AreOperands c w left right
both_fit Shared w left right h k = (h, k)
both_fit Compared w left right h k = (h, k)
both_fit Shifted w left right h k = h
both_fit Logical w left right h k = tt

pub shift_fits : (c : Class) (w left by : ℕ) → is_shifted c ≡ true → left < 2 ^ w → AreOperands c w left by
shift_fits Shared w left by is h = absurd (cc is)
shift_fits Compared w left by is h = absurd (cc is)
shift_fits Shifted w left by is h = h
shift_fits Logical w left by is h = absurd (cc is)

-- ---- comparisons and reductions give one bit

pub bit_below : (holds : Bool) → bit holds < 2
bit_below true = omega arith
bit_below false = omega arith

pub compared_below : (op : BinaryOperator) (w : ℕ) (s : Bool) (m n : ℕ) → class_of op ≡ Compared → operation op w s m n < 2
compared_below b.Multiply w s m n is = absurd (cc is)
compared_below b.Add w s m n is = absurd (cc is)
compared_below b.Subtract w s m n is = absurd (cc is)
compared_below b.ShiftLeft w s m n is = absurd (cc is)
compared_below b.ShiftRight w s m n is = absurd (cc is)
compared_below b.ShiftRightSigned w s m n is = absurd (cc is)
compared_below b.Less w s m n is = bit_below _
compared_below b.LessEqual w s m n is = bit_below _
compared_below b.Greater w s m n is = bit_below _
compared_below b.GreaterEqual w s m n is = bit_below _
compared_below b.Equal w s m n is = bit_below _
compared_below b.NotEqual w s m n is = bit_below _
compared_below b.And w s m n is = absurd (cc is)
compared_below b.Xor w s m n is = absurd (cc is)
compared_below b.Xnor w s m n is = absurd (cc is)
compared_below b.Or w s m n is = absurd (cc is)
compared_below b.AndAlso w s m n is = absurd (cc is)
compared_below b.OrElse w s m n is = absurd (cc is)

pub reduced_below : (op : UnaryOperator) (w n : ℕ) → is_through op ≡ false → operation_before op w n < 2
reduced_below u.Plus w n is = absurd (cc is)
reduced_below u.Minus w n is = absurd (cc is)
reduced_below u.Invert w n is = absurd (cc is)
reduced_below u.Not w n is = bit_below _
reduced_below u.And w n is = bit_below _
reduced_below u.Nand w n is = bit_below _
reduced_below u.Or w n is = bit_below _
reduced_below u.Nor w n is = bit_below _
reduced_below u.Xor w n is = bit_below _
reduced_below u.Xnor w n is = bit_below _
