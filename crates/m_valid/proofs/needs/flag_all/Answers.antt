use Rattle.std.proofs.Common.{[], rules}
use Rattle.m_valid.proofs.Flagging.{all_there, uses_told}
use Rattle.m_valid.proofs.needs.flag_all.Goals as goal

pub flag_carries-requires : goal.flag_carries-requires
flag_carries-requires c = all_there c.args.network.now _ _ c.gates.ensures.gates c.gates.ensures.backwards (search rules)

pub returns : goal.returns
returns c = λ h.
    uses_told _ c.args.network.now c.flips.result.now c.gates.result.now c.flips.ensures.flips c.gates.ensures.gates (c.flag_carries.ensures _ (c.flag_flips.ensures _ (c.flag_outputs.ensures [] h)))
