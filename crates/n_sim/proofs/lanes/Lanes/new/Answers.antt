use Rattle.std.proofs.Common.{map, ap, ◌∙◌}
use Rattle.n_cells.specs.declared.netlist.Flop.{Flop}
use Rattle.n_sim.specs.Lanes.{stream}
use Rattle.n_sim.proofs.Streams.{first_lanes}
use Rattle.n_sim.proofs.lanes.Lanes.new.Goals as goal

pub returns-clause-state : goal.returns-clause-state
returns-clause-state c = λ j h. ap (stream j) c.in_ok-state.ensures ∙ first_lanes j c.flops.result.now h ∙ ap (map (λ (f : Flop). f.first)) c.flops.ensures.flops
