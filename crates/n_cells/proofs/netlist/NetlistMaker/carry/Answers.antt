use Rattle.n_cells.specs.Views.{lines_value}
use Rattle.n_cells.proofs.Lines.{begun_cell}
use Rattle.n_cells.proofs.netlist.NetlistMaker.carry.Goals as goal

pub invariant_of-self-2 : goal.invariant_of-self-2
invariant_of-self-2 c =
    rw c.in_ok-push.ensures.ok
    (begun_cell (lines_value c.self.inside.lines) _ _ c.self.view_is c.self.invariant c.requires.no_output tt (c.requires.a_there, c.requires.b_there, c.requires.c_there))
