-- A network with one more line.
use Rattle.std.proofs.Common.{◌≡◌, ℕ, zero, suc, ◌+◌, List, [], ◌∷◌, ◌++◌, length, map, take, drop, slice_get, get_or, ◌<◌, Option, None, Some, arith, ap, refl, sym, subst, ◌∙◌, append_assoc, append-nil, add-one}
use Rattle.std.specs.Option.{option_map, option_to_list}
use Rattle.std.proofs.lemmas.List.{length-map, map-append}
use Rattle.lz_base.specs.declared.name.Port.{Port}
use Rattle.lz_base.specs.Names.{IsName, IsNew, AreDistinct}
use Rattle.lz_lines.specs.Fields.{Each}
use Rattle.lz_base.proofs.Lists.{drop_next, item_or, take_next}
use Rattle.lz_lines.proofs.Referring.{distinct_new}
use Rattle.g_net.specs.declared.network.Flip.{Flip}
use Rattle.g_net.specs.declared.network.Gate.{Gate}
use Rattle.g_net.specs.declared.network.Output.{Output}
use Rattle.lz_circuit.specs.Lines.{HaveWidths}
use Rattle.g_net.specs.Network.{NetworkValue, FlipsBelow, ReadBackwards, gate_nodes, names_of, node_count, nodes_of, with_literals}
use Rattle.g_text.specs.Form.{IsPort}
use Rattle.g_text.specs.Raw.{bare, begun}

-- the names that are to come are distinct, so the next is new
pub next_new : {X : Type 0} (name : X → List ℕ) (names : List (List ℕ)) (xs : List X) (i : ℕ) (x : X) → slice_get xs i ≡ Some x → AreDistinct (names ++ map name (drop i xs)) → IsNew (name x) names
next_new name names xs i x there h = distinct_new names (map name (drop (i + 1) xs)) (name x) (subst (λ ys. AreDistinct (names ++ map name ys)) (drop_next xs i x there) h)

pub next_distinct : {X : Type 0} (name : X → List ℕ) (names more : List (List ℕ)) (xs : List X) (i : ℕ) (x : X) → slice_get xs i ≡ Some x → more ≡ names ++ name x ∷ [] → AreDistinct (names ++ map name (drop i xs))
    → AreDistinct (more ++ map name (drop (i + 1) xs))
next_distinct name names more xs i x there e h =
    subst AreDistinct (sym (append_assoc names (name x ∷ []) (map name (drop (i + 1) xs))) ∙ ap (λ (l : List (List ℕ)). l ++ map name (drop (i + 1) xs)) (sym e))
    (subst (λ ys. AreDistinct (names ++ map name ys)) (drop_next xs i x there) h)

pub names_input : (n : NetworkValue) (p : Port) → n.outputs ≡ [] → names_of (record n { inputs = n.inputs ++ p ∷ [] }) ≡ names_of n ++ p.name ∷ []
names_input n p e = at n.outputs e
  where
    at : (outs : List Output) → outs ≡ [] → option_to_list n.clock ++ map (λ (q : Port). q.name) (n.inputs ++ p ∷ []) ++ map (λ (q : Output). q.name) outs
        ≡ (option_to_list n.clock ++ map (λ (q : Port). q.name) n.inputs ++ map (λ (q : Output). q.name) outs) ++ p.name ∷ []
    at [] e =
        append-nil (option_to_list n.clock ++ map (λ (q : Port). q.name) (n.inputs ++ p ∷ [])) ∙ ap (λ (l : List (List ℕ)). option_to_list n.clock ++ l) (map-append (λ (q : Port). q.name) n.inputs (p ∷ []))
        ∙ sym (append_assoc (option_to_list n.clock) (map (λ (q : Port). q.name) n.inputs) (p.name ∷ []))
        ∙ ap (λ (l : List (List ℕ)). l ++ p.name ∷ []) (sym (append-nil (option_to_list n.clock ++ map (λ (q : Port). q.name) n.inputs)))
    at (q ∷ qs) e = cc

pub names_output : (n : NetworkValue) (o : Output) → names_of (record n { outputs = n.outputs ++ o ∷ [] }) ≡ names_of n ++ o.name ∷ []
names_output n o =
    let front = option_to_list n.clock ++ map (λ (q : Port). q.name) n.inputs in
    ap (λ (l : List (List ℕ)). front ++ l) (map-append (λ (q : Output). q.name) n.outputs (o ∷ [])) ∙ sym (append_assoc front (map (λ (q : Output). q.name) n.outputs) (o.name ∷ []))

gates_sum : (gs : List Gate) (g : Gate) → gate_nodes (gs ++ g ∷ []) ≡ gate_nodes gs + nodes_of g
gates_sum [] g = omega arith
gates_sum (h ∷ hs) g = omega (arith, gates_sum hs g)

pub count_gate : (n : NetworkValue) (g : Gate) → node_count (record n { gates = n.gates ++ g ∷ [] }) ≡ node_count n + nodes_of g
count_gate n g = omega (arith, gates_sum n.gates g)

-- one more of those that are to come
pub gates_made : (first met after : NetworkValue) (gates : List Gate) (i : ℕ) (d : Gate) → i < length gates → met ≡ record first { gates = first.gates ++ take i gates }
    → after ≡ record met { gates = met.gates ++ get_or gates i d ∷ [] } → after ≡ record first { gates = first.gates ++ take (i + 1) gates }
gates_made first met after gates i d within m a =
    let g = get_or gates i d in
    a ∙ ap (λ (n : NetworkValue). record n { gates = n.gates ++ g ∷ [] }) m
    ∙ ap (λ (l : List Gate). record first { gates = l }) (append_assoc first.gates (take i gates) (g ∷ []) ∙ ap (λ (l : List Gate). first.gates ++ l) (sym (take_next gates i g (item_or gates i d within))))

pub backwards_next : (met after : NetworkValue) (gates : List Gate) (i : ℕ) (d : Gate) → i < length gates → after ≡ record met { gates = met.gates ++ get_or gates i d ∷ [] }
    → ReadBackwards (node_count met) (drop i gates) → ReadBackwards (node_count after) (drop (i + 1) gates)
backwards_next met after gates i d within a h =
    let g = get_or gates i d in
    let here : ReadBackwards (node_count met) (g ∷ drop (i + 1) gates) = subst (λ (gs : List Gate). ReadBackwards (node_count met) gs) (drop_next gates i g (item_or gates i d within)) h in
    let count : node_count after ≡ node_count met + nodes_of g = ap node_count a ∙ count_gate met g in
    subst (λ k. ReadBackwards k (drop (i + 1) gates)) (sym count) here.1

-- the literals of the flip-flop at an index are set
flips_set : (fs : List Flip) (i : ℕ) (f : Flip) → slice_get fs i ≡ Some f → with_literals (take i fs ++ map begun (drop i fs)) i f.literal f.enable ≡ take (i + 1) fs ++ map begun (drop (i + 1) fs)
flips_set [] i f there = cc
flips_set (g ∷ fs) zero f there = let e : g ≡ f = cc in rw e refl
flips_set (g ∷ fs) (suc i) f there = rw (add-one (suc i)) (ap (λ l. g ∷ l) (flips_set fs i f there ∙ (λ k. take (add-one i k) fs ++ map begun (drop (add-one i k) fs))))

flips_count : (fs : List Flip) (i : ℕ) → length (take i fs ++ map begun (drop i fs)) ≡ length fs
flips_count [] zero = refl
flips_count [] (suc i) = refl
flips_count (f ∷ fs) zero = length-map (f ∷ fs) begun
flips_count (f ∷ fs) (suc i) = ap suc (flips_count fs i)

pub flips_made : (first met after : NetworkValue) (fs : List Flip) (i : ℕ) (d : Flip) → i < length fs → met ≡ record first { flips = take i fs ++ map begun (drop i fs) }
    → after ≡ record met { flips = with_literals met.flips i (get_or fs i d).literal (get_or fs i d).enable } → after ≡ record first { flips = take (i + 1) fs ++ map begun (drop (i + 1) fs) }
flips_made first met after fs i d within m a =
    let f = get_or fs i d in
    a ∙ ap (λ (n : NetworkValue). record n { flips = with_literals n.flips i f.literal f.enable }) m ∙ ap (λ (l : List Flip). record first { flips = l }) (flips_set fs i f (item_or fs i d within))

pub set_count : (first after : NetworkValue) (fs : List Flip) (i : ℕ) → first.flips ≡ map begun fs → after ≡ record first { flips = take i fs ++ map begun (drop i fs) } → node_count after ≡ node_count first
set_count first after fs i begun_ a =
    let one : length first.flips ≡ length fs = ap (λ (l : List Flip). length l) begun_ ∙ length-map fs begun in
    ap node_count a ∙ omega (arith, one, flips_count fs i)

pub below_next : (count : ℕ) (fs : List Flip) (i : ℕ) → FlipsBelow count (drop i fs) → FlipsBelow count (drop (i + 1) fs)
below_next count [] i h = rw (add-one i) tt
below_next count (f ∷ fs) zero h = h.2
below_next count (f ∷ fs) (suc i) h = rw (add-one (suc i)) (subst (λ k. FlipsBelow count (drop k fs)) (add-one i) (below_next count fs i h))

-- no line but the model's and the clock's
new_front : (x : List ℕ) (a b : List (List ℕ)) → IsNew x (a ++ b) → IsNew x a
new_front x [] b h = tt
new_front x (y ∷ ys) b h = (h.0, new_front x ys b h.1)

front_distinct : (a b : List (List ℕ)) → AreDistinct (a ++ b) → AreDistinct a
front_distinct [] b h = tt
front_distinct (x ∷ a) b h = (new_front x a b h.0, front_distinct a b h.1)

pub start_names : (m raw : NetworkValue) (ports : List Port) (name : List ℕ) → m ≡ record (bare name) { clock = raw.clock } → ports ≡ raw.inputs → AreDistinct (names_of raw)
    → AreDistinct (names_of m ++ map (λ (p : Port). p.name) ports)
start_names m raw ports name e f h =
    let clock : names_of m ≡ option_to_list raw.clock = ap names_of e ∙ append-nil (option_to_list raw.clock ++ []) ∙ append-nil (option_to_list raw.clock) in
    let front : AreDistinct (option_to_list raw.clock ++ map (λ (p : Port). p.name) raw.inputs) =
    front_distinct (option_to_list raw.clock ++ map (λ (p : Port). p.name) raw.inputs) (map (λ (o : Output). o.name) raw.outputs) h in
    subst (λ (l : List (List ℕ)). AreDistinct (l ++ map (λ (p : Port). p.name) ports)) (sym clock)
    (subst (λ (ps : List Port). AreDistinct (option_to_list raw.clock ++ map (λ (p : Port). p.name) ps)) (sym f) front)

-- an output whose name and literals are read
pub whole_output : (os : List Output) (i : ℕ) (name literals : List ℕ) → option_map (λ (o : Output). o.name) (slice_get os i) ≡ Some name → option_map (λ (o : Output). o.literals) (slice_get os i) ≡ Some literals
    → slice_get os i ≡ Some (record { name = name; literals = literals })
whole_output os i name literals named has = at (slice_get os i) named has
  where
    at : (found : Option Output) → option_map (λ (o : Output). o.name) found ≡ Some name → option_map (λ (o : Output). o.literals) found ≡ Some literals → found ≡ Some (record { name = name; literals = literals })
    at None named has = cc
    at (Some o) named has = let e : o.name ≡ name = cc in let f : o.literals ≡ literals = cc in λ k. Some (record { name = e k; literals = f k })

-- ports with widths and names are those of a text
pub ports_are : (ps : List Port) → HaveWidths ps → Each (λ (p : Port). IsName p.name) ps → Each IsPort ps
ports_are [] widths named = tt
ports_are (p ∷ ps) widths named = ((named.0, widths.0, widths.1), ports_are ps widths.2 named.1)
