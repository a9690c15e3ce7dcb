use Rattle.std.proofs.Common.{Some}
use Rattle.lz_lines.specs.Fields.{AreNumbers, IsBit, IsNameField, IsNumber, greatest}
use Rattle.lz_lines.specs.Forms.{Anything, EndNumbers, Parted}
use Rattle.lz_lines.proofs.Forms.{after_breaks, after_obtains, after_start, after_then, then_broken, then_obtains}
use Rattle.lz_lines.proofs.Standing.{ended_parted, hand_broken, hand_on, some_ended}
use Rattle.g_net.specs.declared.network.Gate.TheVariants as gate
use Rattle.g_text.specs.declared.line.Key.TheVariants as key
use Rattle.g_text.specs.declared.line.Line.TheVariants as line
use Rattle.g_text.specs.Grammar as g
use Rattle.g_text.specs.Grammar.{IsLiteral, Pair, Tail}
use Rattle.g_text.proofs.Standing as standing
use Rattle.g_text.proofs.lines.read_pair.Goals as goal
use Rattle.std.proofs.Common.{[], refl}
use Rattle.lz_lines.specs.Forms.{Done}
use Rattle.lz_lines.proofs.Forms.{after_takes, done_takes}

pub returns-in_err-a : goal.returns-in_err-a
returns-in_err-a c =
    hand_broken _ _ _ _ _ c.from_residual.result _ c.from_residual.ensures.1 (then_broken IsLiteral Parted g.PairEnd Parted standing.pair_some (λ a v text behind is d. standing.pair_follows a v text behind is) c.in_err-a.ensures.reads)

pub returns-in_err-b : goal.returns-in_err-b
returns-in_err-b c =
    let a = c.in_ok-a.a in
    let one = after_then IsLiteral Parted g.PairEnd (after_start Pair Parted c.args.bytes.now) (λ a v text behind is d. standing.pair_follows a v text behind is) c.in_ok-a.ensures.reads in
    hand_broken _ _ _ _ _ c.from_residual-in_err-b.result _ c.from_residual-in_err-b.ensures.1
    (after_breaks one (then_broken IsLiteral Parted (λ b. Done (a, b)) Parted (λ b text is. ((a, b), [], (refl, refl))) (λ b v text behind is d. standing.done_parted (a, b) v text behind is d) c.in_err-b.ensures.reads))

pub returns : goal.returns
returns c =
    let a = c.in_ok-a.a in
    let one = after_then IsLiteral Parted g.PairEnd (after_start Pair Parted c.args.bytes.now) (λ a v text behind is d. standing.pair_follows a v text behind is) c.in_ok-a.ensures.reads in
    let two = after_then IsLiteral Parted (λ b. Done (a, b)) one (λ b v text behind is d. standing.done_parted (a, b) v text behind is d) c.in_ok-b.ensures.reads in
    after_takes two (done_takes Parted (a, c.in_ok-b.b) c.in_ok-b.rest.now)
