use Rattle.std.proofs.Common.{arith}
use Rattle.v_weight.proofs.Saturating.{same_refl, same_path, same_trans}
use Rattle.v_weight.proofs.bounds.span.Goals as goal

pub returns-then-lsb-msb : goal.returns-then-lsb-msb
returns-then-lsb-msb c = same_path _ _ (omega arith)

pub returns-else-lsb-msb : goal.returns-else-lsb-msb
returns-else-lsb-msb c = same_trans _ _ _ (c.plus.ensures _ _ c.stopped.ensures (same_refl 1)) (same_path _ _ (omega arith))
