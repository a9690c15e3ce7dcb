-- Where the gates of a network stand: by what they are, and by node. Among the nodes of the gates, which come behind all
-- others, each has a place, counted from 0.
use Rattle.std.specs.Prelude.{◌≡◌, ℕ, ◌+◌, ◌-◌, List, [], ◌∷◌, ◌++◌, Bool, if◌then◌else◌, Option, None, Some, nat_lt, slice_index_or}
use Rattle.indexmap.specs.IndexMap.{get}
use Rattle.g_net.specs.contracts.network.GatePartialEq.TheImpl as derived
use Rattle.g_net.specs.declared.network.Gate.{Gate}
use Rattle.g_net.specs.declared.network.Gate.TheVariants.{And, Xor, Carry}
use Rattle.g_net.specs.Network.{NetworkValue, nodes_of, first_gate}
use Rattle.g_rules.specs.declared.shapes.Shape.{Shape}
use Rattle.g_rules.specs.declared.shapes.Shape.TheVariants as shape
use Rattle.g_build.specs.declared.index.Index.{Index}

-- whether two gates are equal
abbrev pub is_same : Gate → Gate → Bool
is_same = derived.ghosts.eq

-- the place of the first of these gates that is equal to this one, where the first gate's place is `next`
abbrev pub first_place : ℕ → List Gate → Gate → Option ℕ
first_place next [] gate = None
first_place next (g ∷ gs) gate = if is_same g gate then Some next else first_place (next + nodes_of g) gs gate

-- the index of a gate, at each of its places
abbrev pub owned : ℕ → Gate → List ℕ
owned index (And a b) = index ∷ []
owned index (Xor a b) = index ∷ []
owned index (Carry a b c) = index ∷ index ∷ []

-- the index of the gate at each place, where the first gate has this index
abbrev pub owners_of : ℕ → List Gate → List ℕ
owners_of index [] = []
owners_of index (g ∷ gs) = owned index g ++ owners_of (index + 1) gs

-- each gate is found at the place of the first that is equal, and each place's gate is known
pub record Indexes (index : Index) (gates : List Gate) : Type 0 where
  pub found : (gate : Gate) → get is_same index.places gate ≡ first_place 0 gates gate
  pub owned : index.owners.items ≡ owners_of 0 gates

-- the `and` or `xor` gate that this is
abbrev pub shape_of : Gate → Option Shape
shape_of (And a b) = Some (shape.And a b)
shape_of (Xor a b) = Some (shape.Xor a b)
shape_of (Carry a b c) = None

abbrev pub gate_of : Shape → Gate
gate_of (shape.And a b) = And a b
gate_of (shape.Xor a b) = Xor a b

-- the `and` or `xor` gate at each place
abbrev pub shapes_of : List Gate → List (Option Shape)
shapes_of [] = []
shapes_of (And a b ∷ gs) = Some (shape.And a b) ∷ shapes_of gs
shapes_of (Xor a b ∷ gs) = Some (shape.Xor a b) ∷ shapes_of gs
shapes_of (Carry a b c ∷ gs) = None ∷ None ∷ shapes_of gs

-- the `and` or `xor` gate at a node
abbrev pub shape_at : NetworkValue → ℕ → Option Shape
shape_at n node = if nat_lt node (first_gate n) then None else slice_index_or (shapes_of n.gates) (node - first_gate n) None
