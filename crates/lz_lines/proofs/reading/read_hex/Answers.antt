use Rattle.lz_lines.proofs.Hex.{hex_found, hex_reads}
use Rattle.lz_lines.proofs.Places.{blank_breaks}
use Rattle.lz_lines.specs.Fields.{IsHex, field, hex}
use Rattle.lz_lines.specs.Forms.{Anything}
use Rattle.std.proofs.Common.{refl}
use Rattle.std.proofs.lemmas.Nat.{pow_pos}
use Rattle.lz_lines.proofs.reading.read_hex.Goals as goal

pub returns-in-Some-clause-found : goal.returns-in-Some-clause-found
returns-in-Some-clause-found c = hex_found _ _ _ c.args.width c.args.bytes.now c.in-Some.rest.now c.requires.low c.in-Some.ensures.found c.hexadecimal.ensures.read

pub returns-in-Some-clause-reads : goal.returns-in-Some-clause-reads
returns-in-Some-clause-reads c = hex_reads _ _ _ c.args.width c.args.bytes.now c.in-Some.rest.now c.requires.low c.in-Some.ensures.found c.hexadecimal.ensures.read

pub returns-in-None-clause-reads : goal.returns-in-None-clause-reads
returns-in-None-clause-reads c =
    blank_breaks (IsHex c.args.width) Anything c.args.bytes.now 0 (field (hex c.args.width 0)) (pow_pos c.args.width, refl) (λ n text is. (hex c.args.width n, is.1)) c.in-None.ensures.only
