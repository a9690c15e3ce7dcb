use Rattle.g_net.specs.Network.{node_count}
use Rattle.g_net.specs.Views.{network_value}
use Rattle.g_net.proofs.Lines.{some_literals, few_literals, literals_there}
use Rattle.g_net.proofs.network.Network.output_literals.Goals as goal

pub returns-clause-low : goal.returns-clause-low
returns-clause-low c =
    rw c.as_slice-2.ensures (some_literals c.self.inside.outputs _ _ c.self.invariant.formed.lines.outputs (rw c.as_slice.ensures at c.output_at-output.ensures))

pub returns-clause-high : goal.returns-clause-high
returns-clause-high c =
    rw c.as_slice-2.ensures (few_literals c.self.inside.outputs _ _ c.self.invariant.formed.lines.outputs (rw c.as_slice.ensures at c.output_at-output.ensures))

pub returns-clause-there : goal.returns-clause-there
returns-clause-there c =
    rw (c.as_slice-2.ensures, ← c.self.view_is)
    (literals_there (node_count (network_value c.self.inside)) c.self.inside.outputs _ _ c.self.invariant.formed.outputs (rw c.as_slice.ensures at c.output_at-output.ensures))
