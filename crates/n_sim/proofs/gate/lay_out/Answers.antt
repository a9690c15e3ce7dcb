use Rattle.std.proofs.Common.{◌++◌, ◌∷◌, [], ap, sym, ◌∙◌, take}
use Rattle.n_cells.specs.Cell.{stored_of}
use Rattle.n_sim.specs.Gates.{kind_cell}
use Rattle.lz_base.proofs.Lists.{take_next}
use Rattle.n_sim.proofs.gate.lay_out.Goals as goal

pub loop-i-preserved : goal.loop-i-preserved
loop-i-preserved c =
    c.in_ok-push.ensures.ok
    ∙ ap (λ l. l ++ kind_cell c.in_ok-kind_of.field-0 ∷ []) c.loop-i.invariant
    ∙ ap (λ x. take c.loop-i.i c.args.netlist.now.cells ++ x ∷ []) c.in_ok-kind_of.ensures
    ∙ sym (take_next c.args.netlist.now.cells c.loop-i.i (stored_of c.cell.result) c.cell.ensures.cell)
