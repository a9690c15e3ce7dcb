use Rattle.std.proofs.Common.{Some}
use Rattle.lz_lines.specs.Fields.{AreNumbers, IsBit, IsNameField, IsNumber, greatest}
use Rattle.lz_lines.specs.Forms.{Anything, EndNumbers, Parted}
use Rattle.lz_lines.proofs.Forms.{after_breaks, after_obtains, after_start, after_then, then_broken, then_obtains}
use Rattle.lz_lines.proofs.Standing.{ended_parted, hand_broken, hand_on, some_ended}
use Rattle.g_net.specs.declared.network.Gate.TheVariants as gate
use Rattle.g_text.specs.declared.line.Key.TheVariants as key
use Rattle.g_text.specs.declared.line.Line.TheVariants as line
use Rattle.g_text.specs.Grammar as g
use Rattle.g_text.specs.Grammar.{IsLiteral, Pair, Tail}
use Rattle.g_text.proofs.Standing as standing
use Rattle.g_text.proofs.lines.read_flip.Goals as goal

pub returns-in_err-first : goal.returns-in_err-first
returns-in_err-first c =
    hand_broken _ _ _ _ _ c.from_residual.result _ c.from_residual.ensures.1 (then_broken IsBit Anything g.FlipPair Anything standing.flip_some (λ a v text behind is d. tt) c.in_err-first.ensures.reads)

pub returns-in_err-pair : goal.returns-in_err-pair
returns-in_err-pair c =
    let first = c.in_ok-first.first in
    let one = after_then IsBit Anything g.FlipPair (after_start (Tail key.Flip) Anything c.args.bytes.now) (λ a v text behind is d. tt) c.in_ok-first.ensures.reads in
    hand_on _ _ _ _ _ _ _ _ _ _ c.from_residual-in_err-pair.result c.read_pair.result _ c.from_residual-in_err-pair.ensures.1 c.in_err-pair.was c.read_pair.ensures
    (λ l b. after_breaks one (then_broken Pair Parted (g.FlipEnd first) Anything (λ p text is. some_ended (Some (line.Flip (record { first = first; literal = p.0; enable = p.1 })))) (λ p v text behind is d. ended_parted (Some (line.Flip (record { first = first; literal = p.0; enable = p.1 }))) v text behind is) b))

pub returns : goal.returns
returns c =
    let first = c.in_ok-first.first in
    let one = after_then IsBit Anything g.FlipPair (after_start (Tail key.Flip) Anything c.args.bytes.now) (λ a v text behind is d. tt) c.in_ok-first.ensures.reads in
    let two = after_then Pair Parted (g.FlipEnd first) one (λ p v text behind is d. ended_parted (Some (line.Flip (record { first = first; literal = p.0; enable = p.1 }))) v text behind is) c.in_ok-pair.ensures in
    after_obtains _ _ c.end_line.result two c.end_line.ensures.reads
