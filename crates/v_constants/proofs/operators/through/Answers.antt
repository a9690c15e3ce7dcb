use Rattle.std.proofs.Common.{◌≡◌, ap, ◌∙◌, ℕ, true}
use Rattle.v_syntax.specs.declared.expr.UnaryOperator.{UnaryOperator}
use Rattle.v_constants.specs.declared.body.Body.{Body}
use Rattle.v_constants.specs.declared.body.Body.TheVariants as e
use Rattle.v_constants.specs.Bodies.{Held, held}
use Rattle.v_constants.proofs.BodyLaws.{held_unary}
use Rattle.v_constants.proofs.operators.through.Goals as goal

kept : (x y : Body) (op : UnaryOperator) (w : ℕ) → y ≡ x → (held x).fits w ≡ true → (held (e.Unary op y)).fits w ≡ true
kept x y op w is h = ap (λ (g : Held). g.fits w) (held_unary op y) ∙ ap (λ (z : Body). (held z).fits w) is ∙ h

pub returns-clause-kept : goal.returns-clause-kept
returns-clause-kept c = record {
  has_bit = c.requires.kept.has_bit;
  within = c.requires.kept.within;
  fits = λ w h. kept c.args.x.body _ c.args.operator w c.in_ok-new.ensures (c.requires.kept.fits w h);
}
