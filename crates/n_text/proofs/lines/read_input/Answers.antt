use Rattle.std.proofs.Common.{Some}
use Rattle.lz_lines.specs.Fields.{IsNameField, IsNumber}
use Rattle.lz_lines.specs.Forms.{Anything, Parted}
use Rattle.lz_lines.proofs.Forms.{after_breaks, after_obtains, after_start, after_then, then_broken}
use Rattle.lz_lines.proofs.Standing.{ended_parted, hand_broken, hand_on, some_ended}
use Rattle.n_cells.specs.declared.format.Format.TheVariants as format_
use Rattle.n_text.specs.declared.line.Key.TheVariants as key
use Rattle.n_text.specs.declared.line.Line.TheVariants as line
use Rattle.n_text.specs.Grammar as g
use Rattle.n_text.specs.Grammar.{Tail}
use Rattle.n_text.proofs.Standing as standing
use Rattle.n_text.proofs.lines.read_input.Goals as goal

pub returns-in_err-name : goal.returns-in_err-name
returns-in_err-name c =
    hand_on _ _ _ _ _ _ _ _ _ _ c.from_residual.result c.read_name_copy.result _ c.from_residual.ensures.1 c.in_err-name.was c.read_name_copy.ensures
    (λ l b. then_broken IsNameField Parted g.InputWidth Anything standing.width_some (λ a v text behind is d. standing.width_parted a v text behind is) b)

pub returns-in_err-width : goal.returns-in_err-width
returns-in_err-width c =
    let name = c.in_ok-name.name in
    let one = after_then IsNameField Parted g.InputWidth (after_start (Tail format_.Two key.Input) Anything c.args.bytes.now) (λ a v text behind is d. standing.width_parted a v text behind is) c.in_ok-name.ensures in
    hand_broken _ _ _ _ _ c.from_residual-in_err-width.result _ c.from_residual-in_err-width.ensures.1
    (after_breaks one (then_broken (IsNumber 1 128) Parted (g.InputEnd name) Anything (λ a text is. some_ended (Some (line.Input (record { name = name; width = a })))) (λ a v text behind is d. ended_parted (Some (line.Input (record { name = name; width = a }))) v text behind is) c.in_err-width.ensures.reads))

pub returns : goal.returns
returns c =
    let name = c.in_ok-name.name in
    let one = after_then IsNameField Parted g.InputWidth (after_start (Tail format_.Two key.Input) Anything c.args.bytes.now) (λ a v text behind is d. standing.width_parted a v text behind is) c.in_ok-name.ensures in
    let two = after_then (IsNumber 1 128) Parted (g.InputEnd name) one (λ a v text behind is d. ended_parted (Some (line.Input (record { name = name; width = a }))) v text behind is) c.in_ok-width.ensures.reads in
    after_obtains _ _ c.end_line.result two c.end_line.ensures.reads
