use Rattle.std.proofs.Common.{Some}
use Rattle.lz_lines.specs.Fields.{IsBit}
use Rattle.lz_lines.specs.Forms.{Anything, Parted}
use Rattle.lz_lines.proofs.Forms.{after_breaks, after_obtains, after_start, after_then, then_broken}
use Rattle.lz_lines.proofs.Standing.{ended_parted, hand_broken, hand_on, some_ended}
use Rattle.n_text.specs.declared.line.Key.TheVariants as key
use Rattle.n_text.specs.declared.line.Line.TheVariants as line
use Rattle.n_text.specs.Grammar as g
use Rattle.n_text.specs.Grammar.{IsEnable, IsNet, Tail}
use Rattle.n_text.proofs.Standing as standing
use Rattle.n_text.proofs.lines.read_flop.Goals as goal

pub returns-in_err-first : goal.returns-in_err-first
returns-in_err-first c =
    hand_broken _ _ _ _ _ c.from_residual.result _ c.from_residual.ensures.1
    (then_broken IsBit Anything (g.FlopNet c.args.format) Anything (standing.net_some c.args.format) (λ a v text behind is d. tt) c.in_err-first.ensures.reads)

pub returns-in_err-net : goal.returns-in_err-net
returns-in_err-net c =
    let format = c.args.format in
    let first = c.in_ok-first.first in
    let one = after_then IsBit Anything (g.FlopNet format) (after_start (Tail format key.Flop) Anything c.args.bytes.now) (λ a v text behind is d. tt) c.in_ok-first.ensures.reads in
    hand_broken _ _ _ _ _ c.from_residual-in_err-net.result _ c.from_residual-in_err-net.ensures.1
    (after_breaks one (then_broken IsNet Parted (g.FlopEnable format first) Anything (standing.enable_some format first) (λ a v text behind is d. standing.enable_parted format first a v text behind is) c.in_err-net.ensures.reads))

pub returns-in_err-enable : goal.returns-in_err-enable
returns-in_err-enable c =
    let format = c.args.format in
    let first = c.in_ok-first.first in
    let net = c.in_ok-net.net in
    let one = after_then IsBit Anything (g.FlopNet format) (after_start (Tail format key.Flop) Anything c.args.bytes.now) (λ a v text behind is d. tt) c.in_ok-first.ensures.reads in
    let two = after_then IsNet Parted (g.FlopEnable format first) one (λ a v text behind is d. standing.enable_parted format first a v text behind is) c.in_ok-net.ensures.reads in
    hand_on _ _ _ _ _ _ _ _ _ _ c.from_residual-in_err-enable.result c.read_enable.result _ c.from_residual-in_err-enable.ensures.1 c.in_err-enable.was c.read_enable.ensures
    (λ l b. after_breaks two (then_broken (IsEnable format) Parted (g.FlopEnd first net) Anything (λ a text is. some_ended (Some (line.Flop (record { first = first; net = net; enable = a })))) (λ a v text behind is d. ended_parted (Some (line.Flop (record { first = first; net = net; enable = a }))) v text behind is) b))

pub returns : goal.returns
returns c =
    let format = c.args.format in
    let first = c.in_ok-first.first in
    let net = c.in_ok-net.net in
    let one = after_then IsBit Anything (g.FlopNet format) (after_start (Tail format key.Flop) Anything c.args.bytes.now) (λ a v text behind is d. tt) c.in_ok-first.ensures.reads in
    let two = after_then IsNet Parted (g.FlopEnable format first) one (λ a v text behind is d. standing.enable_parted format first a v text behind is) c.in_ok-net.ensures.reads in
    let three = after_then (IsEnable format) Parted (g.FlopEnd first net) two (λ a v text behind is d. ended_parted (Some (line.Flop (record { first = first; net = net; enable = a }))) v text behind is) c.in_ok-enable.ensures in
    after_obtains _ _ c.end_line.result three c.end_line.ensures.reads
