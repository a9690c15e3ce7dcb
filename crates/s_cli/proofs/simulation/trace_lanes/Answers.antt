use Rattle.std.proofs.Common.{ℕ, Vec}
use Rattle.std.specs.declared.alloc.Global.{Global}
use Rattle.s_cli.specs.Simulation.{IsSimulation, ShowsStreams}
use Rattle.s_cli.proofs.Simulated.{refused_second, lanes_refused, simulated}
use Rattle.s_cli.proofs.simulation.trace_lanes.Goals as goal

pub returns-in-Err : goal.returns-in-Err
returns-in-Err c = λ a b is other.
    lanes_refused (λ (v : Vec ℕ Global). IsSimulation (ShowsStreams c.args.count) a b v.items) c.args.count a b c.in-Err.stop (refused_second _ _ c.in_ok-netlist.netlist c.in-Err.stop c.in_ok-netlist.ensures c.in-Err.ensures.drives a b is other)

pub returns : goal.returns
returns c = λ a b is other.
    simulated (ShowsStreams c.args.count) _ _ c.in_ok-netlist.netlist c.in-Ok.stimulus c.in_ok-trace.trace.cycles c.in_ok-print_trace.field-0.items c.in_ok-netlist.ensures c.in-Ok.ensures.drives
    c.in_ok-trace.ensures c.in_ok-print_trace.ensures a b is other
