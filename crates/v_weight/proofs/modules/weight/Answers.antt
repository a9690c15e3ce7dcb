use Rattle.std.proofs.Common.{arith}
use Rattle.v_weight.proofs.ModuleLaws.{exact, whole}
use Rattle.v_weight.proofs.modules.weight.Goals as goal

pub returns : goal.returns
returns c =
    exact _ _ (omega arith)
    (whole c.args.names.now _ c.args.module.now.items _ _ _ _ c.entries.ensures c.as_slice.ensures c.weigh_declarations-declared.ensures c.in_ok-items.ensures c.plus.ensures c.requires.sound)
