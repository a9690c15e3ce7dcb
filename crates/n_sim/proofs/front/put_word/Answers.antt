use Rattle.std.proofs.Common.{◌≡◌, ◌+◌, ◌-◌, ◌∙◌, suc, ap, sym, arith}
use Rattle.std.proofs.Math.ListN.{length-set}
use Rattle.std.specs.Prelude.{Bool}
use Rattle.n_sim.proofs.Words.{low_on}
use Rattle.n_sim.proofs.front.put_word.Goals as goal

pub loop-preserved : goal.loop-preserved
loop-preserved c =
    let width : c.args.word.now.width ≡ c.word.inside.width = ap (λ v. v.width) (sym c.word.view_is) in
    let one : c.word.inside.width - c.loop.counter ≡ suc (c.word.inside.width - (c.loop.counter + 1)) = omega arith in
    (omega arith, omega (arith, length-set {A = Bool}), low_on _ _ _ _ _ one (omega arith) ∙ c.loop.invariant.2)
