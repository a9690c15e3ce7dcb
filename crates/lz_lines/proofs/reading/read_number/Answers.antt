use Rattle.std.proofs.Common.{◌<◌, ◌^◌, arith, refl}
use Rattle.lz_lines.proofs.Decimal.{number_found, number_reads}
use Rattle.lz_lines.proofs.Places.{blank_breaks}
use Rattle.lz_lines.specs.Fields.{IsNumber, number}
use Rattle.lz_lines.specs.Forms.{Parted}
use Rattle.std.specs.Fmt.{decimal}
use Rattle.lz_lines.proofs.reading.read_number.Goals as goal

pub returns-in-Some-clause-found : goal.returns-in-Some-clause-found
returns-in-Some-clause-found c =
    let fits : c.args.high < 2 ^ 128 = omega arith in
    number_found _ _ _ c.args.low c.args.high c.args.bytes.now c.in-Some.rest.now fits c.in-Some.ensures.found c.decimal.ensures

pub returns-in-Some-clause-reads : goal.returns-in-Some-clause-reads
returns-in-Some-clause-reads c =
    let fits : c.args.high < 2 ^ 128 = omega arith in
    number_reads _ _ _ c.args.low c.args.high c.args.bytes.now c.in-Some.rest.now fits c.requires.low c.requires.high c.in-Some.ensures.found c.decimal.ensures

pub returns-in-None-clause-reads : goal.returns-in-None-clause-reads
returns-in-None-clause-reads c =
    blank_breaks (IsNumber c.args.low c.args.high) Parted c.args.bytes.now c.args.low (number c.args.low) (omega arith, c.requires.high, refl) (λ n text is. (decimal n, is.2)) c.in-None.ensures.only
