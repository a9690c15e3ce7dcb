-- Which operands an operator of a chain takes, and what it gives at its width.
use Rattle.std.proofs.Common.{◌≡◌, ◌≤◌, ◌<◌, refl, sym, subst, ◌&&◌, arith, ℕ, Bool, true, false}
use Rattle.std.specs.Prelude.{◌^◌, ◌==◌, nat_le}
use Rattle.std.proofs.lemmas.Bool.{leb-true, eqb-true}
use Rattle.std.proofs.Math.Nat.{pow-le-pow_right}
use Rattle.v_syntax.specs.declared.expr.BinaryOperator.{BinaryOperator}
use Rattle.v_syntax.specs.declared.expr.BinaryOperator.TheVariants as b
use Rattle.v_meaning.specs.Senses.{Class, Shared, Compared, Shifted, Logical, class_of, bit, operation}
use Rattle.v_words.specs.Operands.{AreOperands}
use Rattle.v_core.specs.declared.typed.Link.{Link}
use Rattle.v_core.specs.Formed.{Formed, has, has_at_most, is_width, linked_by}
use Rattle.v_values.specs.Chains.{Meets, working_width}
use Rattle.v_values.proofs.Tests.{first_of, second_of}

-- a value of no more bits, and one of so many
at_most_below : (w n : ℕ) (x : Formed) → has_at_most w x ≡ true → n < 2 ^ x.width → n < 2 ^ w
at_most_below w n x h below =
    let wide : x.width ≤ w = leb-true x.width w (first_of (nat_le x.width w) x.kept h) in
    omega (arith, below, pow-le-pow_right {n = 2} (omega arith) wide)

has_below : (w n : ℕ) (x : Formed) → has w x ≡ true → n < 2 ^ x.width → n < 2 ^ w
has_below w n x h below = subst (λ k. n < 2 ^ k) (eqb-true x.width w (first_of (x.width == w) x.kept h)) below

pub word_of_link : (c : Class) (l : Link) (x y : Formed) → (linked_by c l x y).kept ≡ true → is_width (working_width c l.width) ≡ true
word_of_link Shared l x y h = first_of (is_width l.width) (has_at_most l.width x) (first_of (is_width l.width && has_at_most l.width x) (has l.width y) h)
word_of_link Compared l x y h = first_of (is_width l.width) (has_at_most l.width x) (first_of (is_width l.width && has_at_most l.width x) (has l.width y) h)
word_of_link Shifted l x y h = first_of (is_width l.width) (has_at_most l.width x) (first_of (is_width l.width && has_at_most l.width x) y.kept h)
word_of_link Logical l x y h = refl

both_below : (l : Link) (x y : Formed) (m n : ℕ) → ((is_width l.width && has_at_most l.width x) && has l.width y) ≡ true → m < 2 ^ x.width → n < 2 ^ y.width →
    (m < 2 ^ l.width) × (n < 2 ^ l.width)
both_below l x y m n h p q = (
  at_most_below l.width m x (second_of (is_width l.width) (has_at_most l.width x) (first_of (is_width l.width && has_at_most l.width x) (has l.width y) h)) p,
  has_below l.width n y (second_of (is_width l.width && has_at_most l.width x) (has l.width y) h) q,
)

operands_are : (c : Class) (l : Link) (x y : Formed) (m n : ℕ) → (linked_by c l x y).kept ≡ true → m < 2 ^ x.width → n < 2 ^ y.width →
    AreOperands c (working_width c l.width) m n
operands_are Shared l x y m n h p q = both_below l x y m n h p q
operands_are Compared l x y m n h p q = both_below l x y m n h p q
operands_are Shifted l x y m n h p q =
    at_most_below l.width m x (second_of (is_width l.width) (has_at_most l.width x) (first_of (is_width l.width && has_at_most l.width x) y.kept h)) p
operands_are Logical l x y m n h p q = tt

pub operands_of_link : (l : Link) (x y : Formed) (m n : ℕ) → Meets x y l m n → AreOperands (class_of l.operator) (working_width (class_of l.operator) l.width) m n
operands_of_link l x y m n h = operands_are (class_of l.operator) l x y m n h.kept h.left_below h.right_below

-- a logical operator looks at no width
pub at_any_width : (op : BinaryOperator) (w : ℕ) (s : Bool) (m n : ℕ) → operation op (working_width (class_of op) w) s m n ≡ operation op w s m n
at_any_width b.Multiply w s m n = refl
at_any_width b.Add w s m n = refl
at_any_width b.Subtract w s m n = refl
at_any_width b.ShiftLeft w s m n = refl
at_any_width b.ShiftRight w s m n = refl
at_any_width b.ShiftRightSigned w s m n = refl
at_any_width b.Less w s m n = refl
at_any_width b.LessEqual w s m n = refl
at_any_width b.Greater w s m n = refl
at_any_width b.GreaterEqual w s m n = refl
at_any_width b.Equal w s m n = refl
at_any_width b.NotEqual w s m n = refl
at_any_width b.And w s m n = refl
at_any_width b.Xor w s m n = refl
at_any_width b.Xnor w s m n = refl
at_any_width b.Or w s m n = refl
at_any_width b.AndAlso w s m n = refl
at_any_width b.OrElse w s m n = refl

bit_below : (holds : Bool) → bit holds < 2
bit_below true = omega arith
bit_below false = omega arith

-- what an operator gives keeps to the width of what it makes
link_below : (op : BinaryOperator) (l : Link) (x y : Formed) (s : Bool) (m n : ℕ) → operation op l.width s m n < 2 ^ working_width (class_of op) l.width →
    operation op l.width s m n < 2 ^ (linked_by (class_of op) l x y).width
link_below b.Multiply l x y s m n h = h
link_below b.Add l x y s m n h = h
link_below b.Subtract l x y s m n h = h
link_below b.ShiftLeft l x y s m n h = h
link_below b.ShiftRight l x y s m n h = h
link_below b.ShiftRightSigned l x y s m n h = h
link_below b.Less l x y s m n h = bit_below _
link_below b.LessEqual l x y s m n h = bit_below _
link_below b.Greater l x y s m n h = bit_below _
link_below b.GreaterEqual l x y s m n h = bit_below _
link_below b.Equal l x y s m n h = bit_below _
link_below b.NotEqual l x y s m n h = bit_below _
link_below b.And l x y s m n h = h
link_below b.Xor l x y s m n h = h
link_below b.Xnor l x y s m n h = h
link_below b.Or l x y s m n h = h
link_below b.AndAlso l x y s m n h = bit_below _
link_below b.OrElse l x y s m n h = bit_below _

pub link_result : (op : BinaryOperator) (l : Link) (x y : Formed) (s : Bool) (m n r : ℕ) → r ≡ operation op l.width s m n → r < 2 ^ working_width (class_of op) l.width →
    r < 2 ^ (linked_by (class_of op) l x y).width
link_result op l x y s m n r is h =
    subst (λ (k : ℕ). k < 2 ^ (linked_by (class_of op) l x y).width) (sym is)
    (link_below op l x y s m n (subst (λ (k : ℕ). k < 2 ^ working_width (class_of op) l.width) is h))
