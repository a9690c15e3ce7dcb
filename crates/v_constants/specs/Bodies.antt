-- What constants are whose final width and sign are open (1364-2005, 5.4.1 and 5.5).
use Rattle.std.specs.Prelude.{◌≡◌, ◌≤◌, ℕ, ◌^◌, List, [], ◌∷◌, Bool, true, false, ◌&&◌, nat_le, nat_lt}
use Rattle.std.specs.List.{list_all}
use Rattle.v_syntax.specs.declared.expr.BinaryOperator.{BinaryOperator}
use Rattle.v_meaning.specs.Senses.{Sense, Class, Shared, Compared, Shifted, Logical, class_of, extended, operation, operation_before}
use Rattle.v_constants.specs.declared.body.Body.{Body}
use Rattle.v_constants.specs.declared.body.Body.TheOpen.{Body-F}
use Rattle.v_constants.specs.declared.body.Body.TheOpen as b
use Rattle.v_constants.specs.declared.body.Body.TheFolds.{fold-Body}
use Rattle.v_constants.specs.declared.body.Open.{Open}

-- The value where a final width and sign come down, and whether it can be had at a width.
pub record Held : Type 0 where
  pub value : ℕ → Bool → ℕ
  pub fits : ℕ → Bool

abbrev pub is_shifted : Class → Bool
is_shifted Shared = false
is_shifted Compared = false
is_shifted Shifted = true
is_shifted Logical = false

-- operators from the left, at a width and sign (5.1.2)
abbrev pub chain_value : {X : Type 0} → (X → ℕ) → ℕ → Bool → ℕ → List (BinaryOperator × X) → ℕ
chain_value value w s n [] = n
chain_value value w s n (link ∷ links) = chain_value value w s (operation link.0 w s n (value link.1)) links

abbrev pub held_step : Body-F Held → Held
held_step (b.Leaf width value) = record {
  value = λ w s. extended width value w s;
  fits = λ w. nat_le 1 width && nat_le width w && nat_lt value (2 ^ width);
}
held_step (b.Unary op x) = record { value = λ w s. operation_before op w (x.value w s); fits = x.fits }
held_step (b.Chain x links) = record {
  value = λ w s. chain_value (λ (y : Held). y.value w s) w s (x.value w s) links;
  fits = λ w. x.fits w && list_all (λ (link : BinaryOperator × Held). link.1.fits w) links;
}
held_step (b.Shifts x links) = record {
  value = λ w s. chain_value (λ (n : ℕ). n) w s (x.value w s) links;
  fits = λ w. x.fits w && list_all (λ (link : BinaryOperator × ℕ). is_shifted (class_of link.0)) links;
}

abbrev pub held : Body → Held
held = fold-Body Held held_step

-- its meaning, which looks at nothing
abbrev pub sense_in : Open → Sense
sense_in o = record { width = o.width; signed = o.signed; at = λ w s v. (held o.body).value w s }

-- It has 1 to 128 bits, and its value can be had at each final width, which is not below its own one.
pub record IsOpen (o : Open) : Type 0 where
  pub has_bit : 1 ≤ o.width
  pub within : o.width ≤ 128
  pub fits : (w : ℕ) → o.width ≤ w → (held o.body).fits w ≡ true
