use Rattle.std.proofs.Common.{length, ap, ◌∙◌}
use Rattle.m_valid.proofs.Numbering.{count_nodes}
use Rattle.m_valid.proofs.needs.missing_root.Goals as goal

pub flag_uses-requires : goal.flag_uses-requires
flag_uses-requires c = ap length c.requires ∙ count_nodes c.args.network.now
