use Rattle.std.proofs.Common.{◌≡◌, ◌<◌, ◌≤◌, ◌+◌, ◌∙◌, [], length, drop, arith, refl}
use Rattle.std.proofs.lemmas.List.{drop_all}
use Rattle.n_cells.specs.Netlist.{nets_of}
use Rattle.n_sim.specs.Gates.{kind_cell}
use Rattle.n_sim.proofs.Walks.{item_next, reach_room, reach_there, reach_on, walk_on, walk_ends, zero_kept}
use Rattle.n_sim.proofs.cell.put_cells.Goals as goal

pub loop-gate-init : goal.loop-gate-init
loop-gate-init c = (record { left = c.requires.room; there = c.requires.there; some = c.requires.some }, refl, c.requires.zero, refl)

pub put_cell-next-requires-clause-room : goal.put_cell-next-requires-clause-room
put_cell-next-requires-clause-room c =
    let lt : c.loop-gate.gate-index < length c.args.gates.now = omega arith in
    let here = item_next c.args.gates.now c.loop-gate.gate-index c.gate-item.result (kind_cell c.gate.inside.kind) c.gate-item.is c.gate.view_is lt in
    omega (arith, c.loop-gate.invariant.1, reach_room _ _ _ _ _ here c.loop-gate.invariant.0)

pub put_cell-next-requires-clause-there : goal.put_cell-next-requires-clause-there
put_cell-next-requires-clause-there c =
    let lt : c.loop-gate.gate-index < length c.args.gates.now = omega arith in
    let here = item_next c.args.gates.now c.loop-gate.gate-index c.gate-item.result (kind_cell c.gate.inside.kind) c.gate-item.is c.gate.view_is lt in
    reach_there _ _ _ _ _ here c.loop-gate.invariant.0

pub put_cell-next-requires-clause-some : goal.put_cell-next-requires-clause-some
put_cell-next-requires-clause-some c = c.loop-gate.invariant.0.some

pub put_cell-next-requires-clause-zero : goal.put_cell-next-requires-clause-zero
put_cell-next-requires-clause-zero c = c.loop-gate.invariant.2

pub loop-gate-preserved : goal.loop-gate-preserved
loop-gate-preserved c =
    let lt : c.loop-gate.gate-index < length c.args.gates.now = omega arith in
    let here = item_next c.args.gates.now c.loop-gate.gate-index c.gate-item.result (kind_cell c.gate.inside.kind) c.gate-item.is c.gate.view_is lt in
    let room : c.loop-gate.next + nets_of (kind_cell c.gate.inside.kind) ≤ length c.args.nets.now = reach_room _ _ _ _ _ here c.loop-gate.invariant.0 in (
      reach_on _ _ _ _ _ _ here c.loop-gate.invariant.0 c.put_cell-next.ensures.next,
      omega arith,
      zero_kept c.loop-gate.nets _ _ c.loop-gate.next _ c.loop-gate.invariant.0.some (omega arith) (omega arith) c.put_cell-next.ensures.values ∙ c.loop-gate.invariant.2,
      walk_on _ _ _ _ _ _ _ _ _ here c.loop-gate.invariant.0 c.put_cell-next.ensures.values c.loop-gate.invariant.3,
    )

pub returns : goal.returns
returns c =
    let none : drop c.loop-gate.gate-index c.args.gates.now ≡ [] = drop_all c.loop-gate.gate-index c.args.gates.now c.loop-gate-test.false in
    walk_ends _ _ _ _ _ none c.loop-gate.invariant.0 c.loop-gate.invariant.1 c.loop-gate.invariant.3
