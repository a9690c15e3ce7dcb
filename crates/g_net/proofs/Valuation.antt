-- The values that come out node after node: they stay where gates come behind, each gate's equation holds of them, and
-- they are the one valuation of a network.
use Rattle.std.proofs.Common.{◌≡◌, ◌==◌, ◌<◌, ◌≤◌, ◌/◌, ◌%◌, ℕ, ◌+◌, ◌*◌, zero, suc, List, [], ◌∷◌, ◌++◌, length, take, get_or, Bool, true, false, not, refl, sym, ap, subst, ◌∙◌, arith, below_more, add-one, append_assoc, append-nil, length-append, add-zero, Some, slice_get}
use mathlib.Core.Bool.{xor}
use Rattle.std.proofs.lemmas.List.{get_or_append_left, get_or-append-add}
use Rattle.std.proofs.Math.Seq.{take-append_seam}
use Rattle.lz_base.specs.Bits.{words_bits}
use Rattle.lz_base.specs.Ports.{FitPorts}
use Rattle.lz_base.specs.WordValue.{WordValue}
use Rattle.lz_circuit.specs.Values.{value_at}
use Rattle.lz_circuit.proofs.Lines.{bits_fit}
use Rattle.lz_circuit.proofs.Values.{Agree, front_agrees, whole_agrees}
use Rattle.g_net.specs.declared.network.Gate.{Gate}
use Rattle.g_net.specs.declared.network.Gate.TheVariants.{And, Xor, Carry}
use Rattle.g_net.specs.Grown.{Grows, KeepsValues, StandsAt}
use Rattle.g_net.specs.Network.{NetworkValue, IsWellFormed, ReadsBelow, ReadBackwards, gate_nodes, nodes_of, first_gate, node_count, source_bits}
use Rattle.g_net.specs.Run.{IsValuation, GateHolds, GatesHold, literal_value}
use Rattle.g_net.proofs.Lines.{formed_gate}
use Rattle.g_net.specs.Walk.{gate_values, all_values, values_of, node_of}

length_gate : (vs : List Bool) (g : Gate) → length (gate_values vs g) ≡ nodes_of g
length_gate vs (And a b) = refl
length_gate vs (Xor a b) = refl
length_gate vs (Carry a b c) = refl

walk_append : (vs : List Bool) (gs hs : List Gate) → all_values vs (gs ++ hs) ≡ all_values (all_values vs gs) hs
unfolding all_values
walk_append vs [] hs = refl
walk_append vs (g ∷ gs) hs = walk_append (vs ++ gate_values vs g) gs hs

pub length_walk : (vs : List Bool) (gs : List Gate) → length (all_values vs gs) ≡ length vs + gate_nodes gs
unfolding all_values
length_walk vs [] = omega arith
length_walk vs (g ∷ gs) = omega (arith, length_walk (vs ++ gate_values vs g) gs, length-append vs (gate_values vs g), length_gate vs g)

-- the values before the gates stay
walk_keeps : (vs : List Bool) (gs : List Gate) → Agree (all_values vs gs) vs (length vs)
unfolding all_values
walk_keeps vs [] k h = refl
walk_keeps vs (g ∷ gs) k h =
    walk_keeps (vs ++ gate_values vs g) gs k (omega (arith, length-append vs (gate_values vs g)))
    ∙ get_or_append_left vs (gate_values vs g) false k h

literal_same : (a b : List Bool) (high l : ℕ) → Agree a b high → l / 2 < high → literal_value a l ≡ literal_value b l
literal_same a b high l same h = ap (xor (l % 2 == 1)) (same (l / 2) h)

-- a gate gives the same values over values that agree on what it reads
gate_same : (a b : List Bool) (high : ℕ) (g : Gate) → Agree a b high → ReadsBelow high g → gate_values a g ≡ gate_values b g
gate_same a b high (And x y) same is = rw (literal_same a b high x same is.0, literal_same a b high y same is.1) refl
gate_same a b high (Xor x y) same is = rw (literal_same a b high x same is.0, literal_same a b high y same is.1) refl
gate_same a b high (Carry x y z) same is =
    rw (literal_same a b high x same is.0, literal_same a b high y same is.1, literal_same a b high z same is.2) refl

-- a gate's equation holds where its nodes have the values that it gives
holds_by : (vs : List Bool) (node : ℕ) (g : Gate) → ((k : ℕ) → k < nodes_of g → value_at vs (node + k) ≡ get_or (gate_values vs g) k false) → GateHolds vs node g
holds_by vs node (And a b) at = ap (value_at vs) (sym (add-zero node)) ∙ at 0 (omega arith)
holds_by vs node (Xor a b) at = ap (value_at vs) (sym (add-zero node)) ∙ at 0 (omega arith)
holds_by vs node (Carry a b c) at = (ap (value_at vs) (sym (add-zero node)) ∙ at 0 (omega arith), at 1 (omega arith))

-- and where it holds they have these values
values_by : (vs : List Bool) (node : ℕ) (g : Gate) → GateHolds vs node g → (k : ℕ) → k < nodes_of g → value_at vs (node + k) ≡ get_or (gate_values vs g) k false
values_by vs node (And a b) h zero lt = ap (value_at vs) (add-zero node) ∙ h
values_by vs node (And a b) h (suc k) lt = absurd (omega arith)
values_by vs node (Xor a b) h zero lt = ap (value_at vs) (add-zero node) ∙ h
values_by vs node (Xor a b) h (suc k) lt = absurd (omega arith)
values_by vs node (Carry a b c) h zero lt = ap (value_at vs) (add-zero node) ∙ h.0
values_by vs node (Carry a b c) h (suc zero) lt = h.1
values_by vs node (Carry a b c) h (suc (suc k)) lt = absurd (omega arith)

-- the first gate of a walk, whose nodes come right behind the values before
first_holds : (vs : List Bool) (g : Gate) (gs : List Gate) → ReadsBelow (length vs) g → GateHolds (all_values (vs ++ gate_values vs g) gs) (length vs) g
first_holds vs g gs reads =
    let new : List Bool = vs ++ gate_values vs g in
    let all : List Bool = all_values new gs in
    let long : length new ≡ length vs + nodes_of g = length-append vs (gate_values vs g) ∙ ap (λ k. length vs + k) (length_gate vs g) in
    let old : Agree all vs (length vs) = λ k h. walk_keeps new gs k (omega (arith, long)) ∙ get_or_append_left vs (gate_values vs g) false k h in
    holds_by all (length vs) g (λ k h.
    walk_keeps new gs (length vs + k) (omega (arith, long))
    ∙ get_or-append-add vs (gate_values vs g) k false
    ∙ ap (λ l. get_or l k false) (sym (gate_same all vs (length vs) g old reads)))

-- each gate's equation holds of the values that come out one after another
walk_holds : (vs : List Bool) (next : ℕ) (gs : List Gate) → length vs ≡ next → ReadBackwards next gs → GatesHold (all_values vs gs) next gs
unfolding all_values
walk_holds vs next [] at reads = tt
walk_holds vs next (g ∷ gs) at reads =
    let long : length (vs ++ gate_values vs g) ≡ next + nodes_of g = length-append vs (gate_values vs g) ∙ ap (λ k. length vs + k) (length_gate vs g) ∙ ap (λ k. k + nodes_of g) at in
    (rw (← at) (first_holds vs g gs (rw at reads.0)), walk_holds (vs ++ gate_values vs g) (next + nodes_of g) gs long reads.1)

-- the gate of each index among gates that hold
holds_there : (vs : List Bool) (next : ℕ) (gs : List Gate) (i : ℕ) (g : Gate) → GatesHold vs next gs → slice_get gs i ≡ Some g → GateHolds vs (next + gate_nodes (take i gs)) g
holds_there vs next [] i g h is = cc
holds_there vs next (d ∷ gs) zero g h is =
    let same : d ≡ g = cc in
    rw (← same, add-zero next) h.0
holds_there vs next (d ∷ gs) (suc i) g h is =
    let e : next + (nodes_of d + gate_nodes (take i gs)) ≡ next + nodes_of d + gate_nodes (take i gs) = omega arith in
    rw e (holds_there vs (next + nodes_of d) gs i g h.1 is)

nodes_there : (gs : List Gate) (i : ℕ) (g : Gate) → slice_get gs i ≡ Some g → gate_nodes (take i gs) + nodes_of g ≤ gate_nodes gs
nodes_there [] i g is = cc
nodes_there (d ∷ gs) zero g is =
    let same : d ≡ g = cc in
    rw (← same) (omega arith)
nodes_there (d ∷ gs) (suc i) g is = omega (arith, nodes_there gs i g is)

pub gate_stands : (n : NetworkValue) (i : ℕ) (g : Gate) → IsWellFormed n → slice_get n.gates i ≡ Some g → StandsAt n (node_of n i) g
gate_stands n i g fine is = λ sources many.
    holds_there (values_of n sources) (first_gate n) n.gates i g (walk_holds (false ∷ sources) (first_gate n) n.gates (omega (arith, many)) fine.gates) is

pub gate_there : (n : NetworkValue) (i : ℕ) (g : Gate) → slice_get n.gates i ≡ Some g → node_of n i + nodes_of g ≤ node_count n
gate_there n i g is = omega (arith, nodes_there n.gates i g is)

-- the gate that came last
last_there : (gs : List Gate) (g : Gate) → slice_get (gs ++ g ∷ []) (length gs) ≡ Some g
last_there [] g = refl
last_there (d ∷ gs) g = last_there gs g

last_stands : (n : NetworkValue) (g : Gate) → IsWellFormed (record n { gates = n.gates ++ g ∷ [] }) → StandsAt (record n { gates = n.gates ++ g ∷ [] }) (node_count n) g
last_stands n g fine =
    let front : take (length n.gates) (n.gates ++ g ∷ []) ≡ n.gates = take-append_seam n.gates (g ∷ []) in
    subst (λ node. StandsAt (record n { gates = n.gates ++ g ∷ [] }) node g) (ap (λ l. first_gate n + gate_nodes l) front) (
    gate_stands (record n { gates = n.gates ++ g ∷ [] }) (length n.gates) g fine (last_there n.gates g))

-- a gate that is added stands at the node that came next
pub added_stands : (n m : NetworkValue) (gs : List Gate) (g : Gate) (node : ℕ) → n ≡ m → gs ≡ n.gates ++ g ∷ [] → node ≡ node_count m → IsWellFormed n → m.outputs ≡ [] → ReadsBelow (node_count m) g
    → StandsAt (record n { gates = gs }) node g
added_stands n m gs g node e is at fine none reads = rw (is, at, ← e) (last_stands n g (formed_gate n m g e fine none reads))

-- it is the gate behind those that were there
pub added_place : (n m : NetworkValue) (gs : List Gate) (g : Gate) (node : ℕ) → n ≡ m → gs ≡ n.gates ++ g ∷ [] → node ≡ node_count m → node ≡ node_of (record n { gates = gs }) (length m.gates)
added_place n m gs g node e is at =
    let front : take (length n.gates) (n.gates ++ g ∷ []) ≡ n.gates = take-append_seam n.gates (g ∷ []) in
    at ∙ sym (ap node_count e) ∙ ap (λ l. first_gate n + gate_nodes l) (sym front) ∙ ap (λ l. first_gate n + gate_nodes (take (length n.gates) l)) (sym is)
    ∙ ap (λ (k : NetworkValue). first_gate n + gate_nodes (take (length k.gates) gs)) e

-- where gates come behind, no literal that was there has another value
pub grown_keeps : (old new : NetworkValue) → Grows old new → KeepsValues old new
grown_keeps old new g = λ sources literal many h.
    let front : List Bool = false ∷ sources in
    let before : List Bool = all_values front old.gates in
    ap (λ (n : NetworkValue). literal_value (all_values front n.gates) literal) g.grown
    ∙ ap (λ vs. literal_value vs literal) (walk_append front old.gates g.more)
    ∙ literal_same (all_values before g.more) before (length before) literal (walk_keeps before g.more) (omega (arith, length_walk front old.gates, many))

pub added_keeps : (n m : NetworkValue) (gs : List Gate) (g : Gate) → n ≡ m → gs ≡ n.gates ++ g ∷ [] → KeepsValues m (record n { gates = gs })
added_keeps n m gs g e is = grown_keeps m (record n { gates = gs }) (record {
  more = g ∷ [];
  grown = ap (λ l. record n { gates = l }) is ∙ ap (λ (k : NetworkValue). record k { gates = k.gates ++ g ∷ [] }) e;
})

xor_even : (b : Bool) → xor false b ≡ b
unfolding xor
xor_even false = refl
xor_even true = refl

xor_odd : (b : Bool) → xor true b ≡ not b
unfolding xor
xor_odd false = refl
xor_odd true = refl

-- the two literals of a node
pub even_literal : (vs : List Bool) (node : ℕ) → literal_value vs (2 * node) ≡ value_at vs node
even_literal vs node =
    let half : 2 * node / 2 ≡ node = omega arith in
    let low : 2 * node % 2 ≡ 0 = omega arith in
    rw (half, low) (xor_even (value_at vs node))

pub odd_literal : (vs : List Bool) (node : ℕ) → literal_value vs (2 * node + 1) ≡ not (value_at vs node)
odd_literal vs node =
    let half : (2 * node + 1) / 2 ≡ node = omega arith in
    let low : (2 * node + 1) % 2 ≡ 1 = omega arith in
    rw (half, low) (xor_odd (value_at vs node))

-- there are as many values as nodes
pub length_values : (n : NetworkValue) (sources : List Bool) → length sources ≡ source_bits n → length (values_of n sources) ≡ node_count n
length_values n sources many = omega (arith, length_walk (false ∷ sources) n.gates, many)

pub constant_first : (n : NetworkValue) (sources : List Bool) → value_at (values_of n sources) 0 ≡ false
constant_first n sources = walk_keeps (false ∷ sources) n.gates 0 (omega arith)

pub source_there : (n : NetworkValue) (sources : List Bool) (k : ℕ) → k < length sources → value_at (values_of n sources) (k + 1) ≡ get_or sources k false
source_there n sources k h = walk_keeps (false ∷ sources) n.gates (k + 1) (omega arith) ∙ ap (value_at (false ∷ sources)) (add-one k)

-- gates that stood before others came behind stand where they stood
front_there : (gs hs : List Gate) (i : ℕ) (g : Gate) → slice_get gs i ≡ Some g → (slice_get (gs ++ hs) i ≡ Some g) × (take i (gs ++ hs) ≡ take i gs)
front_there [] hs i g is = cc
front_there (d ∷ gs) hs zero g is = (is, refl)
front_there (d ∷ gs) hs (suc i) g is =
    let rest = front_there gs hs i g is in
    (rest.0, ap (λ l. d ∷ l) rest.1)

pub grown_stands : (old new : NetworkValue) (i : ℕ) (g : Gate) → Grows old new → slice_get old.gates i ≡ Some g → (slice_get new.gates i ≡ Some g) × (node_of new i ≡ node_of old i)
grown_stands old new i g grows is =
    let there = front_there old.gates grows.more i g is in
    rw grows.grown (there.0, ap (λ l. first_gate old + gate_nodes l) there.1)

nodes_append : (gs hs : List Gate) → gate_nodes (gs ++ hs) ≡ gate_nodes gs + gate_nodes hs
nodes_append [] hs = omega arith
nodes_append (g ∷ gs) hs = omega (arith, nodes_append gs hs)

pub grown_longer : (old new : NetworkValue) → Grows old new → node_count old ≤ node_count new
grown_longer old new g = rw g.grown (omega (arith, nodes_append old.gates g.more))

pub grown_itself : (n : NetworkValue) → Grows n n
grown_itself n = record { more = []; grown = ap (λ l. record n { gates = l }) (sym (append-nil n.gates)) }

pub grown_further : (a b c : NetworkValue) → Grows a b → Grows b c → Grows a c
grown_further a b c f g = record {
  more = f.more ++ g.more;
  grown = g.grown ∙ ap (λ (n : NetworkValue). record n { gates = n.gates ++ g.more }) f.grown ∙ ap (λ l. record a { gates = l }) (append_assoc a.gates f.more g.more);
}

-- values that agree up to a node, and on the nodes that come next
agree_more : (a b : List Bool) (next more : ℕ) → Agree a b next → ((j : ℕ) → j < more → value_at a (next + j) ≡ value_at b (next + j)) → Agree a b (next + more)
agree_more a b next zero same new = λ k h. same k (omega arith)
agree_more a b next (suc more) same new =
    let less = agree_more a b next more same (λ j h. new j (omega arith)) in
    let one = below_more (λ k. value_at a k ≡ value_at b k) (next + more) less (new more (omega arith)) in
    λ k h. one k (omega arith)

-- two valuations that agree below the first gate's node agree on the nodes of the gates
gates_same : (a b : List Bool) (next : ℕ) (gs : List Gate) → ReadBackwards next gs → GatesHold a next gs → GatesHold b next gs → Agree a b next → Agree a b (next + gate_nodes gs)
gates_same a b next [] fine ha hb same = λ k h. same k (omega arith)
gates_same a b next (g ∷ gs) fine ha hb same =
    let here : Agree a b (next + nodes_of g) = agree_more a b next (nodes_of g) same (λ j h.
    values_by a next g ha.0 j h ∙ ap (λ l. get_or l j false) (gate_same a b next g same fine.0) ∙ sym (values_by b next g hb.0 j h)) in
    let all = gates_same a b (next + nodes_of g) gs fine.1 ha.1 hb.1 here in
    λ k h. all k (omega arith)

-- at most one
pub valuation_same : (n : NetworkValue) (inputs : List WordValue) (state a b : List Bool) → IsWellFormed n → IsValuation n inputs state a → IsValuation n inputs state b → a ≡ b
valuation_same n inputs state a b fine va vb =
    let first = first_gate n in
    whole_agrees a b (node_count n) va.count vb.count (
    gates_same a b first n.gates fine.gates va.gates vb.gates (front_agrees a b (false ∷ words_bits inputs ++ state) first va.front vb.front))

pub sources_fit : (n : NetworkValue) (inputs : List WordValue) (state : List Bool) → FitPorts n.inputs inputs → length state ≡ length n.flips → length (words_bits inputs ++ state) ≡ source_bits n
sources_fit n inputs state fit bits = omega (arith, length-append (words_bits inputs) state, bits_fit n.inputs inputs fit, bits)

-- the values before the gates come first
walk_splits : (vs : List Bool) (gs : List Gate) → (more : List Bool) × (all_values vs gs ≡ vs ++ more)
unfolding all_values
walk_splits vs [] = ([], sym (append-nil vs))
walk_splits vs (g ∷ gs) =
    let rest = walk_splits (vs ++ gate_values vs g) gs in
    (gate_values vs g ++ rest.0, rest.1 ∙ append_assoc vs (gate_values vs g) rest.0)

-- at least one
pub valuation_there : (n : NetworkValue) (inputs : List WordValue) (state : List Bool) → IsWellFormed n → FitPorts n.inputs inputs → length state ≡ length n.flips
    → IsValuation n inputs state (values_of n (words_bits inputs ++ state))
valuation_there n inputs state fine fit bits =
    let sources = words_bits inputs ++ state in
    let many : length sources ≡ source_bits n = sources_fit n inputs state fit bits in
    let long : length (false ∷ sources) ≡ first_gate n = omega (arith, many) in
    let rest = walk_splits (false ∷ sources) n.gates in
    record {
      count = length_values n sources many;
      front = rw (rest.1, ← long) (take-append_seam (false ∷ sources) rest.0);
      gates = walk_holds (false ∷ sources) (first_gate n) n.gates long fine.gates;
    }
