-- What rules leave of a shape over a network has the shape's value there, and later.
use Rattle.std.proofs.Common.{◌≡◌, ◌≤◌, ℕ, ◌+◌, zero, suc, List, [], ◌∷◌, length, slice_get, Bool, false, Option, None, Some, refl, sym, subst, ◌∙◌, arith, nat_lt}
use Rattle.g_net.specs.declared.network.Gate.{Gate}
use Rattle.g_net.specs.declared.network.Gate.TheVariants.{And, Xor, Carry}
use Rattle.g_net.specs.Grown.{Grows, StandsAt}
use Rattle.g_net.specs.Network.{NetworkValue, IsWellFormed, ReadsBelow, ReadBackwards, nodes_of, gate_nodes, first_gate, node_count, source_bits}
use Rattle.g_net.specs.Run.{GateHolds}
use Rattle.lz_circuit.specs.Values.{value_at}
use Rattle.g_net.specs.Walk.{node_of, values_of}
use Rattle.g_rules.specs.declared.applying.Outcome.{Outcome}
use Rattle.g_rules.specs.declared.shapes.Shape.{Shape}
use Rattle.g_rules.specs.declared.shapes.Shape.TheVariants as shape
use Rattle.g_rules.specs.Applying.{AreWithin, IsOutcome}
use Rattle.g_rules.specs.Keeps.{HasGate}
use Rattle.g_rules.specs.Shapes.{shape_literals, shape_value, operand_literals}
use Rattle.g_build.specs.Indexing.{gate_of, shape_at}
use Rattle.g_build.specs.Parts.{IsLeft}
use Rattle.g_build.proofs.Indexing.{shape_found}

-- the laws of networks
abbrev Stand : Type 0
Stand = (n : NetworkValue) (i : ℕ) (g : Gate) → IsWellFormed n → slice_get n.gates i ≡ Some g → StandsAt n (node_of n i) g

abbrev Stay : Type 0
Stay = (old new : NetworkValue) (i : ℕ) (g : Gate) → Grows old new → slice_get old.gates i ≡ Some g → (slice_get new.gates i ≡ Some g) × (node_of new i ≡ node_of old i)

shape_holds : (values : List Bool) (node : ℕ) (s : Shape) → GateHolds values node (gate_of s) → value_at values node ≡ shape_value values s
shape_holds values node (shape.And a b) h = h
shape_holds values node (shape.Xor a b) h = h

has_gate : (values : List Bool) (node : ℕ) (o : Option Shape) → ((s : Shape) → o ≡ Some s → value_at values node ≡ shape_value values s) → HasGate values node o
has_gate values node None f = tt
has_gate values node (Some s) f = f s refl

-- each gate that was there has its value, also once more gates have come
gate_stays : Stand → Stay → (n later : NetworkValue) (sources : List Bool) (node : ℕ) (s : Shape) → Grows n later → IsWellFormed later → length sources ≡ source_bits later
    → shape_at n node ≡ Some s → value_at (values_of later sources) node ≡ shape_value (values_of later sources) s
gate_stays stand stay n later sources node s grows formed many is =
    let r = shape_found n node s (nat_lt node (first_gate n)) refl is in
    let there = stay n later r.0 (gate_of s) grows r.1 in
    subst (λ k. value_at (values_of later sources) k ≡ shape_value (values_of later sources) s) (there.1 ∙ sym r.2)
    (shape_holds (values_of later sources) (node_of later r.0) s (stand later r.0 (gate_of s) formed there.0 sources many))

reads_wider : (a b : ℕ) (g : Gate) → a ≤ b → ReadsBelow a g → ReadsBelow b g
reads_wider a b (And x y) le h = (omega (arith, h.0), omega (arith, h.1))
reads_wider a b (Xor x y) le h = (omega (arith, h.0), omega (arith, h.1))
reads_wider a b (Carry x y z) le h = (omega (arith, h.0), omega (arith, h.1), omega (arith, h.2))

reads_there : (next high : ℕ) (gs : List Gate) (i : ℕ) (g : Gate) → ReadBackwards next gs → next + gate_nodes gs ≤ high → slice_get gs i ≡ Some g → ReadsBelow high g
reads_there next high [] i g h le is = cc
reads_there next high (d ∷ gs) zero g h le is =
    let same : d ≡ g = cc in
    subst (ReadsBelow high) same (reads_wider next high d (omega (arith, le)) h.0)
reads_there next high (d ∷ gs) (suc i) g h le is = reads_there (next + nodes_of d) high gs i g h.1 (omega (arith, le)) is

literals_within : (count : ℕ) (s : Shape) → ReadsBelow count (gate_of s) → AreWithin count (shape_literals s)
literals_within count (shape.And a b) h = (h.0, (h.1, tt))
literals_within count (shape.Xor a b) h = (h.0, (h.1, tt))

operands_within : (count : ℕ) (o : Option Shape) → ((s : Shape) → o ≡ Some s → AreWithin count (shape_literals s)) → AreWithin count (operand_literals o)
operands_within count None f = tt
operands_within count (Some s) f = f s refl

pub is_left : Stand → Stay → ((n : NetworkValue) (sources : List Bool) → value_at (values_of n sources) 0 ≡ false) → (n : NetworkValue) (s : Shape) (o : Outcome) → IsWellFormed n → IsOutcome (shape_at n) s o
    → IsLeft n s o
is_left stand stay zeroth n s o formed is = record {
  value = λ later sources grows fine many. is.value (values_of later sources)
      (zeroth later sources, λ node. has_gate (values_of later sources) node (shape_at n node) (λ t at. gate_stays stand stay n later sources node t grows fine many at));
  there = λ within. is.within (node_count n) (omega arith)
      (λ node below. operands_within (node_count n) (shape_at n node) (λ t at.
      let r = shape_found n node t (nat_lt node (first_gate n)) refl at in
      literals_within (node_count n) t (reads_there (first_gate n) (node_count n) n.gates r.0 (gate_of t) formed.gates (omega arith) r.1)))
      within;
}
