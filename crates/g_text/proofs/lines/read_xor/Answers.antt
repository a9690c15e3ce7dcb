use Rattle.std.proofs.Common.{Some}
use Rattle.lz_lines.specs.Fields.{AreNumbers, IsBit, IsNameField, IsNumber, greatest}
use Rattle.lz_lines.specs.Forms.{Anything, EndNumbers, Parted}
use Rattle.lz_lines.proofs.Forms.{after_breaks, after_obtains, after_start, after_then, then_broken, then_obtains}
use Rattle.lz_lines.proofs.Standing.{ended_parted, hand_broken, hand_on, some_ended}
use Rattle.g_net.specs.declared.network.Gate.TheVariants as gate
use Rattle.g_text.specs.declared.line.Key.TheVariants as key
use Rattle.g_text.specs.declared.line.Line.TheVariants as line
use Rattle.g_text.specs.Grammar as g
use Rattle.g_text.specs.Grammar.{IsLiteral, Pair, Tail}
use Rattle.g_text.proofs.Standing as standing
use Rattle.g_text.proofs.lines.read_xor.Goals as goal

pub returns-in_err-pair : goal.returns-in_err-pair
returns-in_err-pair c =
    hand_on _ _ _ _ _ _ _ _ _ _ c.from_residual.result c.read_pair.result _ c.from_residual.ensures.1 c.in_err-pair.was c.read_pair.ensures
    (λ l b. then_broken Pair Parted g.XorEnd Anything (λ p text is. some_ended (Some (line.Gate (gate.Xor p.0 p.1)))) (λ p v text behind is d. ended_parted (Some (line.Gate (gate.Xor p.0 p.1))) v text behind is) b)

pub returns : goal.returns
returns c =
    then_obtains Pair Parted g.XorEnd Anything _ _ c.end_line.result (λ p v text behind is d. ended_parted (Some (line.Gate (gate.Xor p.0 p.1))) v text behind is) c.in_ok-pair.ensures c.end_line.ensures.reads
