use Rattle.std.proofs.Common.{refl, false}
use Rattle.lz_lines.specs.Fields.{IsBit, bit}
use Rattle.lz_lines.specs.Forms.{Anything}
use Rattle.lz_lines.proofs.BitFields.{no_digit, other_digit, behind_blank}
use Rattle.lz_lines.proofs.Places.{blank_breaks}
use Rattle.lz_lines.proofs.bits.read_bit.Goals as goal

pub returns-in_default-clause-reads : goal.returns-in_default-clause-reads
returns-in_default-clause-reads c = blank_breaks IsBit Anything c.args.bytes.now false (bit false) refl behind_blank c.in_default.ensures.only

pub returns-in_default-split_first-clause-reads : goal.returns-in_default-split_first-clause-reads
returns-in_default-split_first-clause-reads c = no_digit c.args.bytes.now c.in-Some.rest.now c.in-Some.ensures.found c.in_default-split_first.ensures.cases

pub returns-clause-reads : goal.returns-clause-reads
returns-clause-reads c =
    other_digit c.args.bytes.now c.in-Some.rest.now c.in-Some-split_first.left.now c.in-Some-split_first.digit.now c.in-Some.ensures.found c.in-Some-split_first.ensures.cases.0 c.if-digit-eq48.false c.if-digit-eq49.false
