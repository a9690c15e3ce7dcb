use Rattle.std.proofs.Common.{ℕ}
use Rattle.v_weight.proofs.StmtLaws.{SumsIn}
use Rattle.v_weight.proofs.modules.weigh_each.Given as goal

abbrev pub invariant-loop-part : goal.invariant-loop-part
invariant-loop-part g l = SumsIn (λ x (d : ℕ). g.T.Weighs.weight_in l.names x) (g.T.Weighs.is_sound_in l.names) l.parts l.part-index 0 l.all
