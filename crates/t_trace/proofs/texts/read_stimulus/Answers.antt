use Rattle.t_trace.specs.declared.texts.Stimulus.{Stimulus}
use Rattle.lz_base.specs.declared.rule.Rule.TheVariants.{T1}
use Rattle.lz_lines.proofs.Places.{unread_is, unread_only}
use Rattle.t_trace.specs.Texts.{IsStimulus}
use Rattle.t_trace.proofs.texts.read_stimulus.Goals as goal

pub returns-in-Err-clause-only : goal.returns-in-Err-clause-only
returns-in-Err-clause-only c cycles text = unread_only (IsStimulus c.args.widths.now) T1 c.args.bytes.now c.in-Err.unread c.stop.result c.stop.ensures c.in-Err.ensures cycles text

pub returns-in-Err-clause-fault : goal.returns-in-Err-clause-fault
returns-in-Err-clause-fault c = unread_is Stimulus (IsStimulus c.args.widths.now) T1 c.args.bytes.now c.in-Err.unread c.stop.result c.stop.ensures c.in-Err.ensures
