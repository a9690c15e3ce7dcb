use Rattle.lz_base.specs.declared.rule.Rule.TheVariants.{C1}
use Rattle.lz_lines.proofs.Places.{unread_is, unread_only}
use Rattle.t_choices.specs.ChoiceTexts.{IsChoices}
use Rattle.t_choices.specs.declared.choice_texts.Choices.{Choices}
use Rattle.t_choices.proofs.choice_texts.read_choices.Goals as goal

pub returns-in-Err-clause-only : goal.returns-in-Err-clause-only
returns-in-Err-clause-only c choices text = unread_only (IsChoices c.args.first_bits c.args.cycle_bits c.args.cycles) C1 c.args.bytes.now c.in-Err.unread c.stop.result c.stop.ensures c.in-Err.ensures choices text

pub returns-in-Err-clause-fault : goal.returns-in-Err-clause-fault
returns-in-Err-clause-fault c = unread_is Choices (IsChoices c.args.first_bits c.args.cycle_bits c.args.cycles) C1 c.args.bytes.now c.in-Err.unread c.stop.result c.stop.ensures c.in-Err.ensures
