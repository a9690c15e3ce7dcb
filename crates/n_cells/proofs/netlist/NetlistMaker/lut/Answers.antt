use Rattle.n_cells.specs.Views.{lines_value}
use Rattle.n_cells.proofs.Lines.{begun_cell}
use Rattle.n_cells.proofs.netlist.NetlistMaker.lut.Goals as goal

pub invariant_of-self-2 : goal.invariant_of-self-2
invariant_of-self-2 c =
    rw (c.in_ok-push.ensures.ok, c.new-leaves.ensures)
    (begun_cell (lines_value c.self.inside.lines) _ _ c.self.view_is c.self.invariant c.requires.no_output (c.requires.few, c.requires.fits) c.requires.there)
