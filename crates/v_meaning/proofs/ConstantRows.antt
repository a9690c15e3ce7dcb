-- Worked rows of constant expressions, and of the first fault of E7.
use Rattle.std.proofs.Common.{◌≡◌, refl, ap, ◌∙◌, ℕ, List, [], ◌∷◌, ◌++◌, take, Bool, true, false, not, ◌&&◌, None, Some, codes}
use Rattle.v_syntax.specs.declared.token.Ident.{Ident}
use Rattle.v_syntax.specs.declared.expr.Number.{Number}
use Rattle.v_syntax.specs.declared.expr.Spelling.TheVariants as s
use Rattle.v_syntax.specs.declared.expr.UnaryOperator.TheVariants as u
use Rattle.v_syntax.specs.declared.expr.Expr.TheVariants as e
use Rattle.v_syntax.specs.declared.expr.Range.{Range}
use Rattle.v_meaning.specs.Senses.{constant}
use Rattle.v_meaning.specs.Expressions.{sense_of, constant_step, is_constant, number_at_top, number_by_itself}
use Rattle.v_meaning.specs.MarkRules.{place_if}
use Rattle.v_meaning.specs.Literals.{is_wrong_number}
use Rattle.v_meaning.specs.Proper.{sound_step, is_sound, is_between_1_and_128}
use Rattle.v_meaning.specs.ConstantRules.{value_fault, is_vector_range, range_faults}
use Rattle.v_meaning.proofs.Variants.{fold_number, fold_name, fold_unary, para_number}

abbrev later : Ident
later = record { name = codes "a"; at = 26 }

abbrev plain : List ℕ → Number
plain digits = record { at = 21; spelling = s.Decimal digits }

-- a name that is not declared before is no parameter
no_parameter : is_constant [] (e.Name later) ≡ false
no_parameter = fold_name (constant_step []) later

later_fault : value_fault [] (record { at = 26; expr = e.Name later }) ≡ 26 ∷ []
later_fault = ap (λ (c : Bool). place_if (not (c && is_sound [] (e.Name later))) 26) no_parameter

-- a number that has its form is proper
number_fault : (n : Number) → is_constant [] (e.Number n) ≡ true → is_wrong_number n.spelling ≡ false → value_fault [] (record { at = 21; expr = e.Number n }) ≡ []
number_fault n is right =
    ap (λ (c : Bool). place_if (not (c && is_sound [] (e.Number n))) 21) is
    ∙ ap (λ (c : Bool). place_if (not c) 21) (para_number (sound_step []) n)
    ∙ ap (λ (c : Bool). place_if (not (not c)) 21) right

-- [0:a]: the bounds come before the range itself, whose bracket stands before them
abbrev range : Range
range = record { bracket = 20; msb = record { at = 21; expr = e.Number (plain (codes "0")) }; lsb = record { at = 26; expr = e.Name later } }

bounds_first : take 1 (range_faults is_vector_range [] range) ≡ 26 ∷ []
bounds_first =
    ap (λ (places : List ℕ). take 1 (places ++ value_fault [] range.lsb ++ place_if (not (is_vector_range (constant (sense_of [] [] range.msb.expr)) (constant (sense_of [] [] range.lsb.expr)))) 20))
    (number_fault (plain (codes "0")) (fold_number (constant_step []) (plain (codes "0"))) refl)
    ∙ ap (λ (places : List ℕ). take 1 (places ++ place_if (not (is_vector_range (constant (sense_of [] [] range.msb.expr)) (constant (sense_of [] [] range.lsb.expr)))) 20)) later_fault

-- -1 is no number by itself, so it may be a part
minus_one : number_by_itself (e.Unary u.Minus (e.Number (plain (codes "1")))) ≡ None
minus_one = fold_unary number_at_top u.Minus (e.Number (plain (codes "1")))

one : number_by_itself (e.Number (plain (codes "1"))) ≡ Some (plain (codes "1"))
one = fold_number number_at_top (plain (codes "1"))

-- the value of a count by itself: 129, and 2'd3 + 2'd1, which is 0
too_many : is_between_1_and_128 (Some 129) ≡ false
too_many = refl

none_at_all : is_between_1_and_128 (Some 0) ≡ false
none_at_all = refl
