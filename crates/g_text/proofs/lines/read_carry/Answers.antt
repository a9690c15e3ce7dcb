use Rattle.std.proofs.Common.{Some}
use Rattle.lz_lines.specs.Fields.{AreNumbers, IsBit, IsNameField, IsNumber, greatest}
use Rattle.lz_lines.specs.Forms.{Anything, EndNumbers, Parted}
use Rattle.lz_lines.proofs.Forms.{after_breaks, after_obtains, after_start, after_then, then_broken, then_obtains}
use Rattle.lz_lines.proofs.Standing.{ended_parted, hand_broken, hand_on, some_ended}
use Rattle.g_net.specs.declared.network.Gate.TheVariants as gate
use Rattle.g_text.specs.declared.line.Key.TheVariants as key
use Rattle.g_text.specs.declared.line.Line.TheVariants as line
use Rattle.g_text.specs.Grammar as g
use Rattle.g_text.specs.Grammar.{IsLiteral, Pair, Tail}
use Rattle.g_text.proofs.Standing as standing
use Rattle.g_text.proofs.lines.read_carry.Goals as goal

pub returns-in_err-a : goal.returns-in_err-a
returns-in_err-a c =
    hand_broken _ _ _ _ _ c.from_residual.result _ c.from_residual.ensures.1
    (then_broken IsLiteral Parted g.CarryPair Anything standing.carry_some (λ a v text behind is d. standing.pair_parted (g.CarryEnd a) v text behind is) c.in_err-a.ensures.reads)

pub returns-in_err-pair : goal.returns-in_err-pair
returns-in_err-pair c =
    let a = c.in_ok-a.a in
    let one = after_then IsLiteral Parted g.CarryPair (after_start (Tail key.Carry) Anything c.args.bytes.now) (λ a v text behind is d. standing.pair_parted (g.CarryEnd a) v text behind is) c.in_ok-a.ensures.reads in
    hand_on _ _ _ _ _ _ _ _ _ _ c.from_residual-in_err-pair.result c.read_pair.result _ c.from_residual-in_err-pair.ensures.1 c.in_err-pair.was c.read_pair.ensures
    (λ l b. after_breaks one (then_broken Pair Parted (g.CarryEnd a) Anything (λ p text is. some_ended (Some (line.Gate (gate.Carry a p.0 p.1)))) (λ p v text behind is d. ended_parted (Some (line.Gate (gate.Carry a p.0 p.1))) v text behind is) b))

pub returns : goal.returns
returns c =
    let a = c.in_ok-a.a in
    let one = after_then IsLiteral Parted g.CarryPair (after_start (Tail key.Carry) Anything c.args.bytes.now) (λ a v text behind is d. standing.pair_parted (g.CarryEnd a) v text behind is) c.in_ok-a.ensures.reads in
    let two = after_then Pair Parted (g.CarryEnd a) one (λ p v text behind is d. ended_parted (Some (line.Gate (gate.Carry a p.0 p.1))) v text behind is) c.in_ok-pair.ensures in
    after_obtains _ _ c.end_line.result two c.end_line.ensures.reads
