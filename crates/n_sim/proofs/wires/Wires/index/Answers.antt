use Rattle.std.proofs.Common.{◌≤◌, ◌∙◌, length, take, ap, sym, subst, arith, length-take}
use Rattle.n_cells.specs.Netlist.{AllBelow}
use Rattle.n_cells.specs.Run.{index_of}
use Rattle.n_sim.proofs.Cells.{filled_below, index_filled, index_fits}
use Rattle.n_sim.proofs.wires.Wires.index.Goals as goal

pub index_at-requires : goal.index_at-requires
index_at-requires c =
    filled_below (length c.args.values.now) c.self.inside.count c.self.inside.nets c.requires.some c.self.invariant.1
    (subst (AllBelow (length c.args.values.now)) (sym c.self.view_is) c.requires.there)

pub returns-clause-index : goal.returns-clause-index
returns-clause-index c =
    c.index_at.ensures ∙ index_filled c.args.values.now c.self.inside.count c.self.inside.nets c.requires.zero c.self.invariant.1 ∙ ap (index_of c.args.values.now) c.self.view_is

pub returns-clause-small : goal.returns-clause-small
returns-clause-small c =
    let few : length (take c.self.inside.count c.self.inside.nets) ≤ 6 = omega (arith, length-take c.self.inside.count c.self.inside.nets, c.self.invariant.0) in
    omega (arith, c.index_at.ensures, index_filled c.args.values.now c.self.inside.count c.self.inside.nets c.requires.zero c.self.invariant.1, index_fits c.args.values.now (take c.self.inside.count c.self.inside.nets) few)
