use Rattle.std.proofs.Common.{Some, subst}
use Rattle.lz_lines.specs.Forms.{Anything, Ended, Obtains, Parted}
use Rattle.lz_lines.proofs.Forms.{after_breaks, after_obtains, after_start, after_then, then_broken}
use Rattle.lz_lines.proofs.Standing.{ended_parted, hand_broken, some_ended}
use Rattle.n_cells.specs.declared.format.Format.TheVariants as format_
use Rattle.n_cells.specs.declared.netlist.Stored.{Stored}
use Rattle.n_cells.specs.declared.netlist.Stored.TheVariants as stored
use Rattle.n_text.specs.declared.line.Key.TheVariants as key
use Rattle.n_text.specs.declared.line.Line.TheVariants as line
use Rattle.n_text.specs.Grammar as g
use Rattle.n_text.specs.Grammar.{IsNet, Tail}
use Rattle.n_text.proofs.Standing as standing
use Rattle.n_text.proofs.lines.read_carry.Goals as goal

pub returns-in_err-a : goal.returns-in_err-a
returns-in_err-a c =
    hand_broken _ _ _ _ _ c.from_residual.result _ c.from_residual.ensures.1
    (then_broken IsNet Parted g.CarrySecond Anything standing.second_some (λ a v text behind is d. standing.net_parted (g.CarryLast a) v text behind is) c.in_err-a.ensures.reads)

pub returns-in_err-b : goal.returns-in_err-b
returns-in_err-b c =
    let x = c.in_ok-a.a in
    let one = after_then IsNet Parted g.CarrySecond (after_start (Tail format_.Two key.Carry) Anything c.args.bytes.now) (λ a v text behind is d. standing.net_parted (g.CarryLast a) v text behind is) c.in_ok-a.ensures.reads in
    hand_broken _ _ _ _ _ c.from_residual-in_err-b.result _ c.from_residual-in_err-b.ensures.1
    (after_breaks one (then_broken IsNet Parted (g.CarryLast x) Anything (standing.last_some x) (λ a v text behind is d. standing.net_parted (g.CarryEnd x a) v text behind is) c.in_err-b.ensures.reads))

pub returns-in_err-c : goal.returns-in_err-c
returns-in_err-c c =
    let x = c.in_ok-a.a in
    let y = c.in_ok-b.b in
    let one = after_then IsNet Parted g.CarrySecond (after_start (Tail format_.Two key.Carry) Anything c.args.bytes.now) (λ a v text behind is d. standing.net_parted (g.CarryLast a) v text behind is) c.in_ok-a.ensures.reads in
    let two = after_then IsNet Parted (g.CarryLast x) one (λ a v text behind is d. standing.net_parted (g.CarryEnd x a) v text behind is) c.in_ok-b.ensures.reads in
    hand_broken _ _ _ _ _ c.from_residual-in_err-c.result _ c.from_residual-in_err-c.ensures.1
    (after_breaks two (then_broken IsNet Parted (g.CarryEnd x y) Anything (λ a text is. some_ended (Some (line.Cell (stored.Carry x y a)))) (λ a v text behind is d. ended_parted (Some (line.Cell (stored.Carry x y a))) v text behind is) c.in_err-c.ensures.reads))

pub returns : goal.returns
returns c =
    let x = c.in_ok-a.a in
    let y = c.in_ok-b.b in
    let one = after_then IsNet Parted g.CarrySecond (after_start (Tail format_.Two key.Carry) Anything c.args.bytes.now) (λ a v text behind is d. standing.net_parted (g.CarryLast a) v text behind is) c.in_ok-a.ensures.reads in
    let two = after_then IsNet Parted (g.CarryLast x) one (λ a v text behind is d. standing.net_parted (g.CarryEnd x a) v text behind is) c.in_ok-b.ensures.reads in
    let three = after_then IsNet Parted (g.CarryEnd x y) two (λ a v text behind is d. ended_parted (Some (line.Cell (stored.Carry x y a))) v text behind is) c.in_ok-c.ensures.reads in
    after_obtains _ _ c.end_line.result three (subst (λ (s : Stored). Obtains (Ended (Some (line.Cell s))) Anything (λ r. r.0) (λ r. r.1.now) c.in_ok-c.rest.now c.end_line.result) c.carry.ensures c.end_line.ensures.reads)
