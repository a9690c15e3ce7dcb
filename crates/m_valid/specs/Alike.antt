-- The netlist that a proposal makes of a network does in a cycle what the network does.
use Rattle.std.specs.Prelude.{◌≡◌, List, Bool}
use Rattle.lz_base.specs.WordValue.{WordValue}
use Rattle.n_cells.specs.Run as cells
use Rattle.n_cells.specs.Walk.{walked}
use Rattle.g_net.specs.declared.proposal.Line.{Line}
use Rattle.g_net.specs.Network.{NetworkValue}
use Rattle.g_net.specs.Run as network
use Rattle.m_valid.specs.Assembly.{assembled}

-- Where the network's nodes have these values, the values of the netlist's nets, which come out one after another for the
-- words at the inputs and the bits in the flip-flops, show the same words at the outputs, and the flip-flops hold the same
-- bits behind the edge.
pub record DoesAlike (n : NetworkValue) (lines : List Line) (inputs : List WordValue) (state values : List Bool) : Type 0 where
  pub shown : cells.shown (assembled n lines) (walked (assembled n lines) inputs state) ≡ network.shown n values
  pub next : cells.next_state (assembled n lines) state (walked (assembled n lines) inputs state) ≡ network.next_state n state values
