-- The nodes of a network are as many as it says, and read nodes before them.
use Rattle.std.proofs.Common.{◌≡◌, ◌<◌, ◌+◌, ℕ, zero, suc, List, [], ◌∷◌, ◌++◌, length, true, arith, refl, subst, length-append, flat_map, replicate}
use Rattle.std.proofs.lemmas.List.{length-replicate}
use Rattle.lz_base.specs.declared.name.Port.{Port}
use Rattle.lz_circuit.specs.Lines.{port_bits}
use Rattle.g_net.specs.declared.network.Flip.{Flip}
use Rattle.g_net.specs.declared.network.Gate.{Gate}
use Rattle.g_net.specs.declared.network.Gate.TheVariants as gate
use Rattle.g_net.specs.Network as network
use Rattle.g_net.specs.Network.{NetworkValue, IsWellFormed, ReadBackwards, first_gate, node_count}
use Rattle.m_valid.specs.declared.nodes.Node.{Node}
use Rattle.m_valid.specs.declared.nodes.Node.TheVariants.{Constant, Source}
use Rattle.m_valid.specs.Nodes.{input_nodes, flip_nodes, gate_nodes, nodes_of, node_at, is_gate, ReadsBefore, AllReadBefore}

-- a gate's number is that of a node
pub gate_within : (nodes : List Node) (number : ℕ) → is_gate (node_at nodes number) ≡ true → number < length nodes
gate_within [] number e = cc
gate_within (x ∷ xs) zero e = omega arith
gate_within (x ∷ xs) (suc number) e = omega (arith, gate_within xs number e)

input_count : (ps : List Port) → length (flat_map input_nodes ps) ≡ port_bits ps
input_count [] = refl
input_count (p ∷ ps) = omega (arith, length-append (replicate p.width Source) (flat_map input_nodes ps), length-replicate p.width Source, input_count ps)

flip_count : (fs : List Flip) → length (flat_map flip_nodes fs) ≡ length fs
flip_count [] = refl
flip_count (f ∷ fs) = omega (arith, flip_count fs)

gate_count : (gs : List Gate) → length (flat_map gate_nodes gs) ≡ network.gate_nodes gs
gate_count [] = refl
gate_count (gate.And a b ∷ gs) = omega (arith, gate_count gs)
gate_count (gate.Xor a b ∷ gs) = omega (arith, gate_count gs)
gate_count (gate.Carry a b c ∷ gs) = omega (arith, gate_count gs)

pub count_nodes : (n : NetworkValue) → length (nodes_of n) ≡ node_count n
count_nodes n =
    omega (
      arith,
      length-append (flat_map input_nodes n.inputs ++ flat_map flip_nodes n.flips) (flat_map gate_nodes n.gates),
      length-append (flat_map input_nodes n.inputs) (flat_map flip_nodes n.flips),
      input_count n.inputs,
      flip_count n.flips,
      gate_count n.gates,
    )

pub front_count : (n : NetworkValue) → 1 + length (flat_map input_nodes n.inputs ++ flat_map flip_nodes n.flips) ≡ first_gate n
front_count n = omega (arith, length-append (flat_map input_nodes n.inputs) (flat_map flip_nodes n.flips), input_count n.inputs, flip_count n.flips)

-- the nodes of gates, of which the first has this number, read nodes before them
gates_before : (next : ℕ) (gs : List Gate) (k : ℕ) → ReadBackwards next gs → ReadsBefore (next + k) (node_at (flat_map gate_nodes gs) k)
gates_before next [] k h = tt
gates_before next (gate.And a b ∷ gs) zero h = (omega (arith, h.0.0), omega (arith, h.0.1))
gates_before next (gate.And a b ∷ gs) (suc k) h =
    let at : next + 1 + k ≡ next + suc k = omega arith in
    subst (λ m. ReadsBefore m (node_at (flat_map gate_nodes gs) k)) at (gates_before (next + 1) gs k h.1)
gates_before next (gate.Xor a b ∷ gs) zero h = (omega (arith, h.0.0), omega (arith, h.0.1))
gates_before next (gate.Xor a b ∷ gs) (suc k) h =
    let at : next + 1 + k ≡ next + suc k = omega arith in
    subst (λ m. ReadsBefore m (node_at (flat_map gate_nodes gs) k)) at (gates_before (next + 1) gs k h.1)
gates_before next (gate.Carry a b c ∷ gs) zero h = tt
gates_before next (gate.Carry a b c ∷ gs) (suc zero) h = tt
gates_before next (gate.Carry a b c ∷ gs) (suc (suc k)) h =
    let at : next + 2 + k ≡ next + suc (suc k) = omega arith in
    subst (λ m. ReadsBefore m (node_at (flat_map gate_nodes gs) k)) at (gates_before (next + 2) gs k h.1)

-- in front of them come sources, which read none
sources_before : (front : ℕ) (xs : List Node) (more : List Node) → ((k : ℕ) → ReadsBefore (front + length xs + k) (node_at more k)) → ((k m : ℕ) → ReadsBefore m (node_at xs k))
    → (k : ℕ) → ReadsBefore (front + k) (node_at (xs ++ more) k)
sources_before front [] more h none k =
    let at : front + 0 + k ≡ front + k = omega arith in
    subst (λ m. ReadsBefore m (node_at more k)) at (h k)
sources_before front (x ∷ xs) more h none zero = none zero (front + zero)
sources_before front (x ∷ xs) more h none (suc k) =
    let at : front + 1 + k ≡ front + suc k = omega arith in
    subst (λ m. ReadsBefore m (node_at (xs ++ more) k)) at
    (sources_before (front + 1) xs more
    (λ j. let e : front + length (x ∷ xs) + j ≡ front + 1 + length xs + j = omega arith in subst (λ m. ReadsBefore m (node_at more j)) e (h j))
    (λ j m. none (suc j) m) k)

no_reads : (xs ys : List Node) → ((k m : ℕ) → ReadsBefore m (node_at xs k)) → ((k m : ℕ) → ReadsBefore m (node_at ys k)) → (k m : ℕ) → ReadsBefore m (node_at (xs ++ ys) k)
no_reads [] ys f g k m = g k m
no_reads (x ∷ xs) ys f g zero m = f zero m
no_reads (x ∷ xs) ys f g (suc k) m = no_reads xs ys (λ j i. f (suc j) i) g k m

sources_read_none : (count k m : ℕ) → ReadsBefore m (node_at (replicate count Source) k)
sources_read_none zero k m = tt
sources_read_none (suc count) zero m = tt
sources_read_none (suc count) (suc k) m = sources_read_none count k m

inputs_read_none : (ps : List Port) (k m : ℕ) → ReadsBefore m (node_at (flat_map input_nodes ps) k)
inputs_read_none [] k m = tt
inputs_read_none (p ∷ ps) k m = no_reads (replicate p.width Source) (flat_map input_nodes ps) (sources_read_none p.width) (inputs_read_none ps) k m

flips_read_none : (fs : List Flip) (k m : ℕ) → ReadsBefore m (node_at (flat_map flip_nodes fs) k)
flips_read_none [] k m = tt
flips_read_none (f ∷ fs) zero m = tt
flips_read_none (f ∷ fs) (suc k) m = flips_read_none fs k m

pub all_before : (n : NetworkValue) → IsWellFormed n → AllReadBefore (nodes_of n)
all_before n formed zero = tt
all_before n formed (suc k) =
    let front = flat_map input_nodes n.inputs ++ flat_map flip_nodes n.flips in
    let gates = flat_map gate_nodes n.gates in
    let long : 1 + length front ≡ first_gate n = omega (arith, length-append (flat_map input_nodes n.inputs) (flat_map flip_nodes n.flips), input_count n.inputs, flip_count n.flips) in
    let at : 1 + k ≡ suc k = omega arith in
    subst (λ m. ReadsBefore m (node_at (front ++ gates) k)) at
    (sources_before 1 front gates
    (λ j. let e : first_gate n + j ≡ 1 + length front + j = omega (arith, long) in subst (λ m. ReadsBefore m (node_at gates j)) e (gates_before (first_gate n) n.gates j formed.gates))
    (no_reads (flat_map input_nodes n.inputs) (flat_map flip_nodes n.flips) (inputs_read_none n.inputs) (flips_read_none n.flips)) k)

-- node 0 is the constant, and no other
abbrev NoConstant : List Node → Type 0
NoConstant xs = (k : ℕ) → k < length xs → node_at xs k ≡ Constant → ⊥

none_joined : (xs ys : List Node) → NoConstant xs → NoConstant ys → NoConstant (xs ++ ys)
none_joined [] ys f g k lt e = g k lt e
none_joined (x ∷ xs) ys f g zero lt e = f zero (omega arith) e
none_joined (x ∷ xs) ys f g (suc k) lt e = none_joined xs ys (λ j h. f (suc j) (omega (arith, h))) g k (omega (arith, lt)) e

none_sources : (count : ℕ) → NoConstant (replicate count Source)
none_sources zero k lt e = absurd (omega arith)
none_sources (suc count) zero lt e = cc
none_sources (suc count) (suc k) lt e = none_sources count k (omega (arith, lt)) e

none_inputs : (ps : List Port) → NoConstant (flat_map input_nodes ps)
none_inputs [] k lt e = absurd (omega arith)
none_inputs (p ∷ ps) k lt e = none_joined (replicate p.width Source) (flat_map input_nodes ps) (none_sources p.width) (none_inputs ps) k lt e

none_flips : (fs : List Flip) → NoConstant (flat_map flip_nodes fs)
none_flips [] k lt e = absurd (omega arith)
none_flips (f ∷ fs) zero lt e = cc
none_flips (f ∷ fs) (suc k) lt e = none_flips fs k (omega (arith, lt)) e

none_gates : (gs : List Gate) → NoConstant (flat_map gate_nodes gs)
none_gates [] k lt e = absurd (omega arith)
none_gates (gate.And a b ∷ gs) zero lt e = cc
none_gates (gate.And a b ∷ gs) (suc k) lt e = none_gates gs k (omega (arith, lt)) e
none_gates (gate.Xor a b ∷ gs) zero lt e = cc
none_gates (gate.Xor a b ∷ gs) (suc k) lt e = none_gates gs k (omega (arith, lt)) e
none_gates (gate.Carry a b c ∷ gs) zero lt e = cc
none_gates (gate.Carry a b c ∷ gs) (suc zero) lt e = cc
none_gates (gate.Carry a b c ∷ gs) (suc (suc k)) lt e = none_gates gs k (omega (arith, lt)) e

pub not_constant : (n : NetworkValue) (k : ℕ) → 0 < k → k < length (nodes_of n) → node_at (nodes_of n) k ≡ Constant → ⊥
not_constant n zero some lt e = absurd (omega arith)
not_constant n (suc k) some lt e =
    none_joined (flat_map input_nodes n.inputs ++ flat_map flip_nodes n.flips) (flat_map gate_nodes n.gates)
    (none_joined (flat_map input_nodes n.inputs) (flat_map flip_nodes n.flips) (none_inputs n.inputs) (none_flips n.flips)) (none_gates n.gates) k (omega (arith, lt)) e
