use Rattle.m_valid.proofs.Flagging.{flag_more}
use Rattle.m_valid.proofs.flags.set_flag.Goals as goal

pub returns : goal.returns
returns c = flag_more c.args.flags.now c.args.number c.requires
