use Rattle.std.proofs.Common.{Some}
use Rattle.lz_lines.specs.Fields.{AreNumbers, IsBit, IsNameField, IsNumber, greatest}
use Rattle.lz_lines.specs.Forms.{Anything, EndNumbers, Parted}
use Rattle.lz_lines.proofs.Forms.{after_breaks, after_obtains, after_start, after_then, then_broken, then_obtains}
use Rattle.lz_lines.proofs.Standing.{ended_parted, hand_broken, hand_on, some_ended}
use Rattle.g_net.specs.declared.network.Gate.TheVariants as gate
use Rattle.g_text.specs.declared.line.Key.TheVariants as key
use Rattle.g_text.specs.declared.line.Line.TheVariants as line
use Rattle.g_text.specs.Grammar as g
use Rattle.g_text.specs.Grammar.{IsLiteral, Pair, Tail}
use Rattle.g_text.proofs.Standing as standing
use Rattle.g_text.proofs.lines.read_line.Goals as goal
use Rattle.lz_lines.specs.Keywords.{OneOf}
use Rattle.g_text.specs.Keys.{key_word}

pub returns-in_err-key : goal.returns-in_err-key
returns-in_err-key c =
    hand_broken _ _ _ _ _ c.from_residual.result _ c.from_residual.ensures.1
    (then_broken (OneOf key_word key.End c.args.keys.now) Anything Tail Anything (λ k text is. standing.tail_some k) (λ a v text behind is d. tt) c.in_err-key.ensures.reads)

pub returns : goal.returns
returns c = then_obtains (OneOf key_word key.End c.args.keys.now) Anything Tail Anything _ _ c.read_tail.result (λ a v text behind is d. tt) c.in_ok-key.ensures.reads c.read_tail.ensures
