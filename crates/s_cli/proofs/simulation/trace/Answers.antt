use Rattle.std.proofs.Common.{ℕ, Vec}
use Rattle.std.specs.declared.alloc.Global.{Global}
use Rattle.s_cli.specs.Simulation.{IsSimulation, ShowsRun}
use Rattle.s_cli.proofs.Simulated.{refused_second, simn_refused, simulated}
use Rattle.s_cli.proofs.simulation.trace.Goals as goal

pub returns-in-Err : goal.returns-in-Err
returns-in-Err c = λ a b is other.
    simn_refused (λ (v : Vec ℕ Global). IsSimulation ShowsRun a b v.items) a b c.in-Err.stop (refused_second _ _ c.in_ok-netlist.netlist c.in-Err.stop c.in_ok-netlist.ensures c.in-Err.ensures.drives a b is other)

pub returns : goal.returns
returns c = λ a b is other.
    simulated ShowsRun _ _ c.in_ok-netlist.netlist c.in-Ok.stimulus c.in_ok-trace.trace.cycles c.in_ok-print_trace.field-0.items c.in_ok-netlist.ensures c.in-Ok.ensures.drives
    c.in_ok-trace.ensures c.in_ok-print_trace.ensures a b is other
