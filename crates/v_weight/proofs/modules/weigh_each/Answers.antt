use Rattle.std.proofs.Common.{ℕ}
use Rattle.v_weight.proofs.Saturating.{same_refl}
use Rattle.v_weight.proofs.StmtLaws.{next_in, end_in}
use Rattle.v_weight.proofs.modules.weigh_each.Goals as goal

pub loop-part-preserved : goal.loop-part-preserved
loop-part-preserved g c =
    next_in (λ x (d : ℕ). g.T.Weighs.weight_in c.args.names.now x) (g.T.Weighs.is_sound_in c.args.names.now) c.args.parts.now _ _ 0 _ _ _ c.loop-part-test.true c.part-item.is c.plus-all.ensures
    (λ sound d deep. c.in_ok-one.ensures sound) c.loop-part.invariant

pub returns : goal.returns
returns g c sound =
    end_in (λ x (d : ℕ). g.T.Weighs.weight_in c.args.names.now x) (g.T.Weighs.is_sound_in c.args.names.now) c.args.parts.now _ 0 _ c.loop-part-test.false c.loop-part.invariant sound 0 (same_refl 0)
