use Rattle.t_choices.proofs.ChoiceFields.{no_digit, other_digit}
use Rattle.t_choices.proofs.bits.read_digit.Goals as goal

pub returns-in_default : goal.returns-in_default
returns-in_default c = no_digit c.args.bytes.now c.in_default.ensures.cases

pub returns : goal.returns
returns c = other_digit c.args.bytes.now c.in-Some.rest.now c.in-Some.byte.now c.in-Some.ensures.cases.0 c.if-byte-eq48.false c.if-byte-eq49.false
