use Rattle.std.proofs.Common.{Some}
use Rattle.lz_lines.specs.Fields.{IsNameField}
use Rattle.lz_lines.specs.Forms.{Anything, Parted}
use Rattle.lz_lines.proofs.Forms.{then_broken, then_obtains}
use Rattle.lz_lines.proofs.Standing.{ended_parted, hand_on, some_ended}
use Rattle.n_text.specs.declared.line.Line.TheVariants as line
use Rattle.n_text.specs.Grammar as g
use Rattle.n_text.proofs.lines.read_clock.Goals as goal

pub returns-in_err-name : goal.returns-in_err-name
returns-in_err-name c =
    hand_on _ _ _ _ _ _ _ _ _ _ c.from_residual.result c.read_name_copy.result _ c.from_residual.ensures.1 c.in_err-name.was c.read_name_copy.ensures
    (λ l b. then_broken IsNameField Parted g.ClockEnd Anything (λ a text is. some_ended (Some (line.Clock a))) (λ a v text behind is d. ended_parted (Some (line.Clock a)) v text behind is) b)

pub returns : goal.returns
returns c =
    then_obtains IsNameField Parted g.ClockEnd Anything _ _ c.end_line.result (λ a v text behind is d. ended_parted (Some (line.Clock a)) v text behind is) c.in_ok-name.ensures c.end_line.ensures.reads
