-- What the tables of one and two leaves show.
use Rattle.std.proofs.Common.{◌≡◌, ◌≤◌, ◌<◌, ◌+◌, ◌*◌, Bool, true, false, not, ◌==◌, if◌then◌else◌, refl, ap, ◌∙◌, arith}
use mathlib.Core.Bool.{xor, beq}
use Rattle.v_syntax.specs.declared.small.SmallOperator.{SmallOperator}
use Rattle.v_meaning.specs.Cycle.{operate}
use Rattle.n_cells.specs.Run.{table_bit}
use Rattle.s_flow.specs.Made.{bit_number, inverted_if, table_of}

number_small : (bit : Bool) → bit_number bit ≤ 1
number_small true = omega arith
number_small false = omega arith

one_is : (bit : Bool) → (bit_number bit == 1) ≡ bit
one_is true = refl
one_is false = refl

-- the table of four bits shows the one that the leaves choose
four_bits : (w x y z va vb : Bool) → table_bit (bit_number w + 2 * bit_number x + 4 * bit_number y + 8 * bit_number z) (bit_number va + 2 * (bit_number vb + 2 * 0))
    ≡ (if vb then (if va then z else y) else (if va then x else w))
four_bits w x y z false false = ap (λ k. k == 1) (omega (arith, number_small w)) ∙ one_is w
four_bits w x y z true false = ap (λ k. k == 1) (omega (arith, number_small w, number_small x)) ∙ one_is x
four_bits w x y z false true = ap (λ k. k == 1) (omega (arith, number_small w, number_small x, number_small y)) ∙ one_is y
four_bits w x y z true true = ap (λ k. k == 1) (omega (arith, number_small w, number_small x, number_small y, number_small z)) ∙ one_is z

chosen : (f : Bool → Bool → Bool) (va vb : Bool) → (if vb then (if va then f true true else f false true) else (if va then f true false else f false false)) ≡ f va vb
chosen f false false = refl
chosen f true false = refl
chosen f false true = refl
chosen f true true = refl

-- the table of two operands shows what the operator makes of them
pub table_of_two : (operator : SmallOperator) (a b va vb : Bool)
    → table_bit (table_of operator a b) (bit_number va + 2 * (bit_number vb + 2 * 0)) ≡ operate operator (inverted_if a va) (inverted_if b vb)
table_of_two operator a b va vb =
    let f : Bool → Bool → Bool = λ x y. operate operator (inverted_if a x) (inverted_if b y) in
    four_bits (f false false) (f true false) (f false true) (f true true) va vb ∙ chosen f va vb

-- the table of an inverter
pub table_of_one : (va : Bool) → table_bit 1 (bit_number va + 2 * 0) ≡ not va
table_of_one true = refl
table_of_one false = refl

-- the table of two leaves fits
pub table_small : (operator : SmallOperator) (a b : Bool) → table_of operator a b < 16
table_small operator a b =
    let f : Bool → Bool → Bool = λ x y. operate operator (inverted_if a x) (inverted_if b y) in
    omega (arith, number_small (f false false), number_small (f true false), number_small (f false true), number_small (f true true))

-- the exclusive or of the code
pub xor_is : (a b : Bool) → not (beq a b) ≡ xor a b
unfolding xor beq
xor_is true true = refl
xor_is true false = refl
xor_is false true = refl
xor_is false false = refl
