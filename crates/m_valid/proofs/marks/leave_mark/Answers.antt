use Rattle.m_valid.proofs.Marking.{fewer_left}
use Rattle.m_valid.proofs.marks.leave_mark.Goals as goal

pub returns-clause-fewer : goal.returns-clause-fewer
returns-clause-fewer c = λ none. fewer_left c.args.marks.now c.args.line c.args.number c.args.table c.requires none
