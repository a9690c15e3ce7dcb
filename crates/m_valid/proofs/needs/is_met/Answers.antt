use Rattle.std.proofs.Common.{refl}
use Rattle.m_valid.proofs.needs.is_met.Goals as goal

pub returns : goal.returns
returns c = λ used rooted u r. rw (c.gate_met.ensures, c.is_gate.ensures, c.has_flag-used.ensures used u, c.has_flag-rooted.ensures rooted r) refl
