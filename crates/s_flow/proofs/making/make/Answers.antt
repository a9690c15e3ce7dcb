use Rattle.std.proofs.Common.{◌≡◌, ◌∙◌, length, subst}
use Rattle.n_cells.specs.Netlist.{IsWellFormed}
use Rattle.n_cells.specs.Run.{first_state}
use Rattle.s_flow.specs.Made.{netlist_of}
use Rattle.s_flow.proofs.Follow.{realised}
use Rattle.s_flow.proofs.making.make.Goals as goal

pub returns-clause-realises : goal.returns-clause-realises
returns-clause-realises c =
    let formed : IsWellFormed (netlist_of c.args.small.now) = subst IsWellFormed c.in_ok-netlist.ensures.is c.in_ok-netlist.ensures.formed in
    rw c.in_ok-netlist.ensures.is (realised c.args.small.now c.requires c.one_valuation.ensures formed
    (λ cycles. c.machine_lasts.ensures.lasts (netlist_of c.args.small.now) (first_state (netlist_of c.args.small.now)) cycles formed (c.machine_lasts.ensures.begins (netlist_of c.args.small.now))))
