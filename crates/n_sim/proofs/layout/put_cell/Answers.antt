use Rattle.std.proofs.Common.{◌+◌, ◌∷◌, ◌++◌, [], length, take, map, ap, subst, ◌∙◌, arith}
use Rattle.n_cells.specs.declared.netlist.Stored.TheVariants.{Lut, Carry}
use Rattle.n_cells.specs.Run.{index_of, table_bit}
use Rattle.n_sim.specs.Steps.{Holds, place_at}
use Rattle.n_sim.proofs.Places.{at_below, cell_there, computes_carry, computes_lut}
use Rattle.lz_base.proofs.Lists.{take_next}
use Rattle.n_sim.proofs.layout.put_cell.Goals as goal

pub put_lut-requires-clause-there : goal.put_lut-requires-clause-there
put_lut-requires-clause-there c =
    rw c.as_slice-places.ensures
    (cell_there c.args.first c.args.index c.args.netlist.now c.args.laid.now.steps c.args.laid.now.places (Lut c.in-Lut.leaves.now c.in-Lut.table) c.requires.formed c.requires.first c.requires.before c.in-Lut.ensures.cell)

pub place_of-a-requires : goal.place_of-a-requires
place_of-a-requires c =
    let there =
    cell_there c.args.first c.args.index c.args.netlist.now c.args.laid.now.steps c.args.laid.now.places (Carry c.in-Carry.a c.in-Carry.b c.in-Carry.c) c.requires.formed c.requires.first c.requires.before c.in-Carry.ensures.cell in
    rw c.as_slice-places.ensures there.0

pub place_of-b-requires : goal.place_of-b-requires
place_of-b-requires c =
    let there =
    cell_there c.args.first c.args.index c.args.netlist.now c.args.laid.now.steps c.args.laid.now.places (Carry c.in-Carry.a c.in-Carry.b c.in-Carry.c) c.requires.formed c.requires.first c.requires.before c.in-Carry.ensures.cell in
    rw c.as_slice-places.ensures there.1

pub place_of-c-requires : goal.place_of-c-requires
place_of-c-requires c =
    let there =
    cell_there c.args.first c.args.index c.args.netlist.now c.args.laid.now.steps c.args.laid.now.places (Carry c.in-Carry.a c.in-Carry.b c.in-Carry.c) c.requires.formed c.requires.first c.requires.before c.in-Carry.ensures.cell in
    rw c.as_slice-places.ensures there.2

pub put_carry-requires-clause-a_there : goal.put_carry-requires-clause-a_there
put_carry-requires-clause-a_there c =
    rw (c.place_of-a.ensures, c.as_slice-places.ensures) (at_below (c.args.first + length c.args.laid.now.steps) c.args.laid.now.places c.in-Carry.a (omega (arith, c.requires.first)) c.requires.before.there)

pub put_carry-requires-clause-b_there : goal.put_carry-requires-clause-b_there
put_carry-requires-clause-b_there c =
    rw (c.place_of-b.ensures, c.as_slice-places.ensures) (at_below (c.args.first + length c.args.laid.now.steps) c.args.laid.now.places c.in-Carry.b (omega (arith, c.requires.first)) c.requires.before.there)

pub put_carry-requires-clause-c_there : goal.put_carry-requires-clause-c_there
put_carry-requires-clause-c_there c =
    rw (c.place_of-c.ensures, c.as_slice-places.ensures) (at_below (c.args.first + length c.args.laid.now.steps) c.args.laid.now.places c.in-Carry.c (omega (arith, c.requires.first)) c.requires.before.there)

pub returns-in_ok-push-in-Lut : goal.returns-in_ok-push-in-Lut
returns-in_ok-push-in-Lut c =
    let cells = c.args.netlist.now.cells in
    let i = c.args.index in
    computes_lut c.args.first c.args.laid.now.steps c.put_lut.new.steps c.args.laid.now.places c.push.new.self c.in-Lut.leaves.now c.in_ok-place-in-Lut.place c.in-Lut.table (take i cells) (take (i + 1) cells)
    (omega (arith, c.requires.first)) c.requires.before c.in_ok-place-in-Lut.ensures.extends
    (subst (λ l. Holds c.args.first c.put_lut.new.steps c.in_ok-place-in-Lut.place (λ values. table_bit c.in-Lut.table (index_of values (map (place_at l) c.in-Lut.leaves.now)))) c.as_slice-places.ensures c.in_ok-place-in-Lut.ensures.holds)
    c.in_ok-push-in-Lut.ensures.ok
    (take_next cells i (Lut c.in-Lut.leaves.now c.in-Lut.table) c.in-Lut.ensures.cell)

pub returns-in_ok-push-in-Carry-2 : goal.returns-in_ok-push-in-Carry-2
returns-in_ok-push-in-Carry-2 c =
    let cells = c.args.netlist.now.cells in
    let i = c.args.index in
    let places = c.args.laid.now.places in
    computes_carry c.args.first c.args.laid.now.steps c.put_carry.new.steps places c.push-in-Carry-2.new.self c.in-Carry.a c.in-Carry.b c.in-Carry.c c.place_of-a.result c.place_of-b.result c.place_of-c.result
    c.in_ok-sum-in-Carry.sum c.in_ok-sum-in-Carry.carry (take i cells) (take (i + 1) cells) (omega (arith, c.requires.first))
    (c.place_of-a.ensures ∙ ap (λ l. place_at l c.in-Carry.a) c.as_slice-places.ensures)
    (c.place_of-b.ensures ∙ ap (λ l. place_at l c.in-Carry.b) c.as_slice-places.ensures)
    (c.place_of-c.ensures ∙ ap (λ l. place_at l c.in-Carry.c) c.as_slice-places.ensures)
    c.requires.before c.in_ok-sum-in-Carry.ensures.extends c.in_ok-sum-in-Carry.ensures.sum c.in_ok-sum-in-Carry.ensures.carry
    (c.in_ok-push-in-Carry-2.ensures.ok ∙ ap (λ l. l ++ c.in_ok-sum-in-Carry.carry ∷ []) c.in_ok-push-in-Carry.ensures.ok)
    (take_next cells i (Carry c.in-Carry.a c.in-Carry.b c.in-Carry.c) c.in-Carry.ensures.cell)
