use Rattle.v_uses.proofs.ItemUses.{all_are}
use Rattle.v_uses.proofs.gathering.uses.Goals as goal

pub returns : goal.returns
returns c = all_are _ c.args.module.now _ c.as_slice-items.ensures c.in_ok-assigns.ensures c.in_ok-processes.ensures
