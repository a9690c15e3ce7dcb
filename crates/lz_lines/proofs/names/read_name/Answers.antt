use Rattle.std.proofs.Common.{[], ◌∷◌, refl, sym, take, drop}
use Rattle.std.proofs.lemmas.List.{take-append-drop}
use Rattle.lz_lines.proofs.NameEnds.{name_is, name_taken, name_breaks}
use Rattle.lz_lines.proofs.Places.{blank_breaks}
use Rattle.lz_lines.specs.Fields.{IsNameField, field}
use Rattle.lz_lines.specs.Forms.{Parted}
use Rattle.lz_lines.proofs.names.read_name.Goals as goal

pub returns-in_default-clause-reads : goal.returns-in_default-clause-reads
returns-in_default-clause-reads c = blank_breaks IsNameField Parted c.args.bytes.now (97 ∷ []) (field (97 ∷ [])) (refl, refl) (λ name text is. (name, is.1)) c.in_default.ensures.only

pub returns-then-not-begins_name-clause-reads : goal.returns-then-not-begins_name-clause-reads
returns-then-not-begins_name-clause-reads c = name_breaks c.args.bytes.now c.in-Some.rest.now c.in-Some.ensures.found (sym c.if-not-begins_name.ensures)

pub returns-clause-reads : goal.returns-clause-reads
returns-clause-reads c =
    let bytes = c.in-Some.rest.now in
    let n = c.name_length.result in
    rw (c.split_at.ensures.front, c.split_at.ensures.back)
    (name_taken c.args.bytes.now bytes (take n bytes) (drop n bytes) c.in-Some.ensures.found (name_is bytes n (sym c.if-not-begins_name.ensures) c.name_length.ensures.name c.name_length.ensures.end) (sym (take-append-drop n bytes)) c.name_length.ensures.end)
