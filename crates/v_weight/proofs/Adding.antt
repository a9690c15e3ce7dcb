-- The sum of two polynomials gives the sums of the weights that they give.
use Rattle.std.proofs.Common.{◌≡◌, ◌+◌, ◌*◌, ℕ, arith}
use Rattle.v_weight.specs.declared.polynomial.Polynomial.{Polynomial}
use Rattle.v_weight.specs.Saturated.{Same}
use Rattle.v_weight.specs.Polynomials.{value_at, Gives}
use Rattle.v_weight.proofs.Saturating.{same_refl, same_path, same_trans, same_sum, same_product}

together : (a b c d e f w v : ℕ) → (a + d) + (b + e) * w + (c + f) * v ≡ (a + b * w + c * v) + (d + e * w + f * v)
together a b c d e f w v = omega arith

pub gives_sum : (p q r : Polynomial) (f g : ℕ → ℕ) → Same r.fixed (p.fixed + q.fixed) → Same r.linear (p.linear + q.linear) → Same r.square (p.square + q.square) →
    Gives p f → Gives q g → Gives r (λ width. f width + g width)
gives_sum p q r f g fixed linear squared h k = record {
  at = λ w. same_trans (value_at r w) _ _
      (same_sum _ _ _ _ (same_sum _ _ _ _ fixed (same_product _ _ _ _ linear (same_refl w))) (same_product _ _ _ _ squared (same_refl (w * w))))
      (same_trans _ _ _ (same_path _ _ (together p.fixed p.linear p.square q.fixed q.linear q.square w (w * w))) (same_sum _ _ _ _ (h.at w) (k.at w)));
}
