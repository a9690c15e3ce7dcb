-- What a network whose gates can be found keeps, and what it finds.
use Rattle.std.specs.Prelude.{◌≡◌, ℕ, List, length, slice_get, Bool, Option, None, Some}
use Rattle.g_net.specs.declared.network.Gate.{Gate}
use Rattle.g_net.specs.Grown.{Grows}
use Rattle.g_net.specs.Network.{NetworkValue, IsWellFormed, node_count, source_bits}
use Rattle.g_net.specs.Walk.{node_of, values_of}
use Rattle.g_rules.specs.declared.applying.Outcome.{Outcome}
use Rattle.g_rules.specs.declared.shapes.Shape.{Shape}
use Rattle.g_rules.specs.Applying.{AreWithin, outcome_literals, outcome_value}
use Rattle.g_rules.specs.Shapes.{shape_literals, shape_value}
use Rattle.g_build.specs.declared.part.Part.TheInside as part
use Rattle.g_build.specs.Indexing.{Indexes}

-- the network is well formed, and its index is that of its gates
pub record IsIndexed (p : part.Inside) : Type 0 where
  pub formed : IsWellFormed p.network
  pub indexes : Indexes p.index p.network.gates

-- no gate is equal to this one, or one that is has this first node
abbrev pub Finds : NetworkValue → Gate → Option ℕ → Type 0
Finds n gate None = (index : ℕ) → slice_get n.gates index ≡ Some gate → ⊥
Finds n gate (Some node) = (index : ℕ) × (slice_get n.gates index ≡ Some gate) × (node ≡ node_of n index)

-- What is left of a shape has the shape's value, also once more gates have come, and speaks of no nodes but those that are
-- there.
pub record IsLeft (n : NetworkValue) (s : Shape) (o : Outcome) : Type 0 where
  pub value : (later : NetworkValue) (sources : List Bool) → Grows n later → IsWellFormed later → length sources ≡ source_bits later
      → outcome_value (values_of later sources) o ≡ shape_value (values_of later sources) s
  pub there : AreWithin (node_count n) (shape_literals s) → AreWithin (node_count n) (outcome_literals o)
