-- What is assembled of a network shows what the network shows, and goes on as it does.
use Rattle.std.proofs.Common.{◌≡◌, ◌<◌, ◌≤◌, ◌+◌, ◌/◌, ◌==◌, ◌||◌, ◌⊎◌, ℕ, zero, suc, List, [], ◌∷◌, ◌++◌, flat_map, length, map, get_or, Bool, true, false, not, Option, None, Some, if◌then◌else◌, refl, ap, sym, ◌∙◌, arith, length-append, inl, inr}
use Rattle.std.proofs.lemmas.Bool.Decides.{nat_tests}
use Rattle.std.proofs.lemmas.List.{get_or-append-add}
use Rattle.lz_base.specs.Bits.{word_of, words_bits}
use Rattle.lz_base.specs.WordValue.{WordValue}
use Rattle.lz_circuit.specs.Values.{value_at}
use Rattle.n_cells.specs.Run as cells
use Rattle.n_cells.specs.declared.netlist.Stored.TheVariants as stored
use Rattle.g_net.specs.declared.network.Flip.{Flip}
use Rattle.g_net.specs.declared.network.Gate.{Gate}
use Rattle.g_net.specs.declared.network.Gate.TheVariants as gate
use Rattle.g_net.specs.declared.network.Output.{Output}
use Rattle.g_net.specs.declared.proposal.Line.{Line}
use Rattle.g_net.specs.Network as net
use Rattle.g_net.specs.Network.{NetworkValue, IsWellFormed, FlipsBelow, OutputsBelow, ReadBackwards, first_gate, node_count, source_bits}
use Rattle.g_net.specs.Run as network
use Rattle.g_net.specs.Run.{GatesHold, literal_value}
use Rattle.m_valid.specs.declared.nodes.Node.{Node}
use Rattle.m_valid.specs.declared.nodes.Node.TheVariants.{Constant, And, Xor}
use Rattle.m_valid.specs.declared.verdict.Verdict.TheVariants.{Valid}
use Rattle.m_valid.specs.Nodes.{nodes_of, node_at, is_gate, input_nodes, flip_nodes, gate_nodes}
use Rattle.m_valid.specs.Assembly.{is_inverted, Assembled, sources, numbers, with_inverter, with_inverters, net_of, nets_of, line_of, with_root, with_sum, with_gates, after_flips, flops_of, after_outputs, output_nets}
use Rattle.m_valid.specs.Alike.{DoesAlike}
use Rattle.m_valid.specs.Validity.{verdict, uses_of, is_among, roots_of, carry_uses, flip_uses, output_uses, half}
use Rattle.m_valid.proofs.Assembling.{has_net, shown_by, Shows, Keeps, IsUsable, keeps_itself, keeps_on, inverter_shows, inverter_keeps, inverters_keep, net_shown, net_there, nets_shown, past_node, root_more, sum_more, usable_later}
use Rattle.m_valid.proofs.Cutting.{equations_hold, Equations, table_shows}
use Rattle.m_valid.proofs.Granting.{granted, IsGranted, no_line, root_of_line}
use Rattle.m_valid.proofs.Numbering.{count_nodes, front_count}
use Rattle.m_valid.proofs.Lists.{eq_true}
use Rattle.m_valid.proofs.Plainly.{Suffix}

-- a gate that is a root, and one that is none
root_or_none : (n : NetworkValue) (lines : List Line) (values front : List Bool) (m : Assembled) (o : Option Line) → IsGranted n lines → Equations (nodes_of n) values → Shows (nodes_of n) (roots_of lines) values front m
    → is_gate (node_at (nodes_of n) (length m.nets)) ≡ true → line_of lines (length m.nets) ≡ o → Shows (nodes_of n) (roots_of lines) values front (with_root m o)
root_or_none n lines values front m None g q h gate is =
    past_node (nodes_of n) (roots_of lines) values front m h
    (ap (λ b. not b || is_among (length m.nets) (roots_of lines)) gate ∙ no_line lines (length m.nets) is)
root_or_none n lines values front m (Some l) g q h gate is =
    let at : l.root ≡ length m.nets = root_of_line lines (length m.nets) l is in
    root_more (nodes_of n) (roots_of lines) values front m l h at
    (λ k leaf. omega (arith, at, (g.leaves (length m.nets) l is k leaf).1))
    (λ k leaf. (g.leaves (length m.nets) l is k leaf).0)
    (table_shows (nodes_of n) l values q (g.covered (length m.nets) l is) (g.table (length m.nets) l is))

pub root_length : (m : Assembled) (o : Option Line) → length (with_root m o).nets ≡ length m.nets + 1
root_length m None = length-append m.nets (0 ∷ [])
root_length m (Some l) = length-append m.nets (m.next ∷ [])

sum_length : (nodes : List Node) (roots : List ℕ) (values front : List Bool) (m : Assembled) (a b c : ℕ) → Shows nodes roots values front m → length (with_sum m a b c).nets ≡ length m.nets + 2
sum_length nodes roots values front m a b c h =
    let before = with_inverters m (a ∷ b ∷ c ∷ []) in
    length-append before.nets (before.next ∷ (before.next + 1) ∷ []) ∙ ap (λ ns. length ns + 2) (inverters_keep nodes roots values front m (a ∷ b ∷ c ∷ []) h).1.nets

first_here : (k : ℕ) (more : List ℕ) → is_among k (k ∷ more) ≡ true
first_here k more = ap (λ b. b || is_among k more) (eq_true k k refl)

or_later : (b c : Bool) → c ≡ true → (b || c) ≡ true
or_later true c e = refl
or_later false c e = e

behind : (k x : ℕ) (more : List ℕ) → is_among k more ≡ true → is_among k (x ∷ more) ≡ true
behind k x more e = or_later (x == k) (is_among k more) e

suffix_at : (nodes : List Node) (number k : ℕ) (x : Node) (xs : List Node) → Suffix nodes number (x ∷ xs) → Suffix nodes (number + 1) xs
suffix_at nodes number k x xs s j = let at : number + 1 + j ≡ number + suc j = omega arith in ap (node_at nodes) at ∙ s (suc j)

here_at : (nodes : List Node) (number : ℕ) (x : Node) (xs : List Node) → Suffix nodes number (x ∷ xs) → node_at nodes number ≡ x
here_at nodes number x xs s = let at : number ≡ number + 0 = omega arith in ap (node_at nodes) at ∙ s 0

-- gate by gate
pub gates_show : (n : NetworkValue) (lines : List Line) (values front : List Bool) → IsGranted n lines → Equations (nodes_of n) values → value_at values 0 ≡ false
    → (gs : List Gate) (m : Assembled) (number : ℕ) → length m.nets ≡ number → Shows (nodes_of n) (roots_of lines) values front m → Suffix (nodes_of n) number (flat_map gate_nodes gs) → GatesHold values number gs
    → ReadBackwards number gs → ((k : ℕ) → is_among k (flat_map carry_uses gs) ≡ true → has_net (nodes_of n) (roots_of lines) k ≡ true) → Shows (nodes_of n) (roots_of lines) values front (with_gates lines m gs)
gates_show n lines values front g q zeroth [] m number at h s e r u = h
gates_show n lines values front g q zeroth (gate.And a b ∷ gs) m number at h s e r u =
    let o = line_of lines (length m.nets) in
    let gate : is_gate (node_at (nodes_of n) (length m.nets)) ≡ true = ap (λ k. is_gate (node_at (nodes_of n) k)) at ∙ ap is_gate (here_at (nodes_of n) number (And a b) (flat_map gate_nodes gs) s) in
    gates_show n lines values front g q zeroth gs (with_root m o) (number + 1) (root_length m o ∙ ap (λ k. k + 1) at) (root_or_none n lines values front m o g q h gate refl)
    (suffix_at (nodes_of n) number 0 (And a b) (flat_map gate_nodes gs) s) e.1 r.1 u
gates_show n lines values front g q zeroth (gate.Xor a b ∷ gs) m number at h s e r u =
    let o = line_of lines (length m.nets) in
    let gate : is_gate (node_at (nodes_of n) (length m.nets)) ≡ true = ap (λ k. is_gate (node_at (nodes_of n) k)) at ∙ ap is_gate (here_at (nodes_of n) number (Xor a b) (flat_map gate_nodes gs) s) in
    gates_show n lines values front g q zeroth gs (with_root m o) (number + 1) (root_length m o ∙ ap (λ k. k + 1) at) (root_or_none n lines values front m o g q h gate refl)
    (suffix_at (nodes_of n) number 0 (Xor a b) (flat_map gate_nodes gs) s) e.1 r.1 u
gates_show n lines values front g q zeroth (gate.Carry a b c ∷ gs) m number at h s e r u =
    let rest = flat_map carry_uses gs in
    let ua : IsUsable (nodes_of n) (roots_of lines) m a = record { visited = omega (arith, r.0.0, at); has = u (half a) (first_here (half a) (half b ∷ half c ∷ rest)) } in
    let ub : IsUsable (nodes_of n) (roots_of lines) m b = record { visited = omega (arith, r.0.1, at); has = u (half b) (behind (half b) (half a) (half b ∷ half c ∷ rest) (first_here (half b) (half c ∷ rest))) } in
    let uc : IsUsable (nodes_of n) (roots_of lines) m c =
    record { visited = omega (arith, r.0.2, at); has = u (half c) (behind (half c) (half a) (half b ∷ half c ∷ rest) (behind (half c) (half b) (half c ∷ rest) (first_here (half c) rest))) } in
    gates_show n lines values front g q zeroth gs (with_sum m a b c) (number + 2) (sum_length (nodes_of n) (roots_of lines) values front m a b c h ∙ ap (λ k. k + 2) at)
    (sum_more (nodes_of n) (roots_of lines) values front m a b c zeroth h ua ub uc (ap (value_at values) at ∙ e.0.0) (ap (λ k. value_at values (k + 1)) at ∙ e.0.1))
    (λ j. let on : number + 2 + j ≡ number + suc (suc j) = omega arith in ap (node_at (nodes_of n)) on ∙ s (suc (suc j))) e.1 r.1
    (λ k is. u k (behind k (half a) (half b ∷ half c ∷ rest) (behind k (half b) (half c ∷ rest) (behind k (half c) rest is))))

-- the constants, the inputs and the flip-flops
pub numbers_length : (from count : ℕ) → length (numbers from count) ≡ count
numbers_length from zero = refl
numbers_length from (suc count) = ap suc (numbers_length (from + 1) count)

pub numbers_at : (from count j : ℕ) → j < count → get_or (numbers from count) j 0 ≡ from + j
numbers_at from zero j lt = absurd (omega arith)
numbers_at from (suc count) zero lt = omega arith
numbers_at from (suc count) (suc j) lt = numbers_at (from + 1) count j (omega (arith, lt)) ∙ omega arith

pub sources_show : (n : NetworkValue) (roots : List ℕ) (values bits : List Bool) → length bits ≡ source_bits n → value_at values 0 ≡ false
    → ((k : ℕ) → k < length bits → value_at values (k + 1) ≡ get_or bits k false) → Shows (nodes_of n) roots values (false ∷ true ∷ bits) (sources n)
sources_show n roots values bits many zeroth from = record {
  count = omega (arith, many);
  one = refl;
  two = omega arith;
  there = λ k lt. source_there k lt;
  equal = λ k lt has. source_equal k lt;
}
  where
    source_there : (k : ℕ) → k < length (sources n).nets → get_or (sources n).nets k 0 < (sources n).next
    source_there zero lt = omega arith
    source_there (suc j) lt = let within : j < source_bits n = omega (arith, lt, numbers_length 2 (source_bits n)) in omega (arith, numbers_at 2 (source_bits n) j within, within)

    source_equal : (k : ℕ) → k < length (sources n).nets → value_at (false ∷ true ∷ bits) (get_or (sources n).nets k 0) ≡ value_at values k
    source_equal zero lt = sym zeroth
    source_equal (suc j) lt =
        let within : j < source_bits n = omega (arith, lt, numbers_length 2 (source_bits n)) in
        let at : 2 + j ≡ suc (suc j) = omega arith in
        let on : j + 1 ≡ suc j = omega arith in
        ap (value_at (false ∷ true ∷ bits)) (numbers_at 2 (source_bits n) j within ∙ at) ∙ sym (from j (omega (arith, within, many))) ∙ ap (value_at values) on

-- the flip-flops
pub flips_keep : (nodes : List Node) (roots : List ℕ) (values front : List Bool) (m : Assembled) (fs : List Flip) → Shows nodes roots values front m → Shows nodes roots values front (after_flips m fs) × Keeps front m (after_flips m fs)
flips_keep nodes roots values front m [] h = (h, keeps_itself front m)
flips_keep nodes roots values front m (f ∷ fs) h =
    let m1 = with_inverter m f.literal in
    let h1 = inverter_shows nodes roots values front m f.literal h in
    let m2 = with_inverter m1 f.enable in
    let h2 = inverter_shows nodes roots values front m1 f.enable h1 in
    let rest = flips_keep nodes roots values front m2 fs h2 in (
      rest.0,
      keeps_on front m m1 (after_flips m2 fs) (inverter_keeps nodes roots values front m f.literal h)
          (keeps_on front m1 m2 (after_flips m2 fs) (inverter_keeps nodes roots values front m1 f.enable h1) rest.1),
    )

-- the nodes of these numbers were visited, and have a net
abbrev pub AllUsable : List Node → List ℕ → Assembled → List ℕ → Type 0
AllUsable nodes roots m uses = (k : ℕ) → is_among k uses ≡ true → (k < length m.nets) × (has_net nodes roots k ≡ true)

usable_of : (nodes : List Node) (roots : List ℕ) (m : Assembled) (uses : List ℕ) (literal : ℕ) → AllUsable nodes roots m uses → is_among (half literal) uses ≡ true → IsUsable nodes roots m literal
usable_of nodes roots m uses literal u is = record { visited = (u (half literal) is).0; has = (u (half literal) is).1 }

all_later : (nodes : List Node) (roots : List ℕ) (front : List Bool) (a b : Assembled) (uses : List ℕ) → Keeps front a b → AllUsable nodes roots a uses → AllUsable nodes roots b uses
all_later nodes roots front a b uses k u i is = (omega (arith, (u i is).0, ap length k.nets), (u i is).1)

pub flops_go : (nodes : List Node) (roots : List ℕ) (values front : List Bool) (m later : Assembled) (fs : List Flip) (bits : List Bool) → value_at values 0 ≡ false → Shows nodes roots values front m
    → AllUsable nodes roots m (flat_map flip_uses fs) → Keeps front (after_flips m fs) later
    → cells.after_edge (shown_by front later) (flops_of m fs) bits ≡ network.after_edge values fs bits
flops_go nodes roots values front m later [] bits zeroth h u k = refl
flops_go nodes roots values front m later (f ∷ fs) [] zeroth h u k = refl
flops_go nodes roots values front m later (f ∷ fs) (bit ∷ bits) zeroth h u k =
    let rest = flat_map flip_uses fs in
    let m1 = with_inverter m f.literal in
    let h1 = inverter_shows nodes roots values front m f.literal h in
    let k1 = inverter_keeps nodes roots values front m f.literal h in
    let m2 = with_inverter m1 f.enable in
    let h2 = inverter_shows nodes roots values front m1 f.enable h1 in
    let k2 = inverter_keeps nodes roots values front m1 f.enable h1 in
    let after = flips_keep nodes roots values front m2 fs h2 in
    let whole = keeps_on front m2 (after_flips m2 fs) later after.1 k in
    let taken : IsUsable nodes roots m f.literal = usable_of nodes roots m (half f.literal ∷ half f.enable ∷ rest) f.literal u (first_here (half f.literal) (half f.enable ∷ rest)) in
    let enable : IsUsable nodes roots m1 f.enable =
    usable_later nodes roots front m m1 f.enable k1
    (usable_of nodes roots m (half f.literal ∷ half f.enable ∷ rest) f.enable u (behind (half f.enable) (half f.literal) (half f.enable ∷ rest) (first_here (half f.enable) rest))) in
    let ed : value_at (shown_by front later) (net_of m f.literal) ≡ literal_value values f.literal =
    (keeps_on front m1 m2 later k2 whole).same (net_of m f.literal) (net_there nodes roots values front m f.literal h taken) ∙ net_shown nodes roots values front m f.literal zeroth h taken in
    let ee : value_at (shown_by front later) (net_of m1 f.enable) ≡ literal_value values f.enable =
    whole.same (net_of m1 f.enable) (net_there nodes roots values front m1 f.enable h1 enable) ∙ net_shown nodes roots values front m1 f.enable zeroth h1 enable in
    let first : (if value_at (shown_by front later) (net_of m1 f.enable) then value_at (shown_by front later) (net_of m f.literal) else bit) ≡ (if literal_value values f.enable then literal_value values f.literal else bit) =
    ap (λ (t : Bool). if t then value_at (shown_by front later) (net_of m f.literal) else bit) ee ∙ ap (λ (d : Bool). if literal_value values f.enable then d else bit) ed in
    ap (λ b. b ∷ cells.after_edge (shown_by front later) (flops_of m2 fs) bits) first
    ∙ ap (λ bs. (if literal_value values f.enable then literal_value values f.literal else bit) ∷ bs)
    (flops_go nodes roots values front m2 later fs bits zeroth h2
    (all_later nodes roots front m m2 rest (keeps_on front m m1 m2 k1 k2) (λ i is. u i (behind i (half f.literal) (half f.enable ∷ rest) (behind i (half f.enable) rest is)))) k)

-- the outputs
pub outputs_keep : (nodes : List Node) (roots : List ℕ) (values front : List Bool) (m : Assembled) (os : List Output) → Shows nodes roots values front m → Shows nodes roots values front (after_outputs m os) × Keeps front m (after_outputs m os)
outputs_keep nodes roots values front m [] h = (h, keeps_itself front m)
outputs_keep nodes roots values front m (o ∷ os) h =
    let here = inverters_keep nodes roots values front m o.literals h in
    let rest = outputs_keep nodes roots values front (with_inverters m o.literals) os here.0 in
    (rest.0, keeps_on front m (with_inverters m o.literals) (after_outputs (with_inverters m o.literals) os) here.1 rest.1)

literal_among : (ls : List ℕ) (more : List ℕ) (k : ℕ) → k < length ls → is_among (half (get_or ls k 0)) (map half ls ++ more) ≡ true
literal_among [] more k lt = absurd (omega arith)
literal_among (l ∷ ls) more zero lt = first_here (half l) (map half ls ++ more)
literal_among (l ∷ ls) more (suc k) lt = behind (half (get_or ls k 0)) (half l) (map half ls ++ more) (literal_among ls more k (omega (arith, lt)))

behind_all : (k : ℕ) (xs more : List ℕ) → is_among k more ≡ true → is_among k (xs ++ more) ≡ true
behind_all k [] more e = e
behind_all k (x ∷ xs) more e = behind k x (xs ++ more) (behind_all k xs more e)

pub outputs_show : (nodes : List Node) (roots : List ℕ) (values front : List Bool) (m later : Assembled) (os : List Output) → value_at values 0 ≡ false → Shows nodes roots values front m
    → AllUsable nodes roots m (flat_map output_uses os) → Keeps front (after_outputs m os) later
    → map (λ nets. word_of (map (value_at (shown_by front later)) nets)) (output_nets m os) ≡ map (λ (o : Output). word_of (map (literal_value values) o.literals)) os
outputs_show nodes roots values front m later [] zeroth h u k = refl
outputs_show nodes roots values front m later (o ∷ os) zeroth h u k =
    let rest = flat_map output_uses os in
    let next = with_inverters m o.literals in
    let here = inverters_keep nodes roots values front m o.literals h in
    let after = outputs_keep nodes roots values front next os here.0 in
    let whole = keeps_on front next (after_outputs next os) later after.1 k in
    let first : map (value_at (shown_by front later)) (nets_of m o.literals) ≡ map (literal_value values) o.literals =
    nets_shown nodes roots values front m later o.literals zeroth h
    (λ i lt. usable_of nodes roots m (map half o.literals ++ rest) (get_or o.literals i 0) u (literal_among o.literals rest i lt)) whole in
    ap (λ bs. word_of bs ∷ map (λ nets. word_of (map (value_at (shown_by front later)) nets)) (output_nets next os)) first
    ∙ ap (λ ws. word_of (map (literal_value values) o.literals) ∷ ws)
    (outputs_show nodes roots values front next later os zeroth here.0 (all_later nodes roots front m next rest here.1 (λ i is. u i (behind_all i (map half o.literals) rest is))) k)

-- so many nodes are visited
pub inverter_nets : (m : Assembled) (literal : ℕ) → (with_inverter m literal).nets ≡ m.nets
inverter_nets m literal = by_test (is_inverted literal) m (record { nets = m.nets; cells = m.cells ++ stored.Lut (get_or m.nets (literal / 2) 0 ∷ []) 1 ∷ []; next = m.next + 1 }) refl
  where
    by_test : (t : Bool) (m x : Assembled) → x.nets ≡ m.nets → (if t then x else m).nets ≡ m.nets
    by_test true m x e = e
    by_test false m x e = refl

pub sum_nets : (m : Assembled) (a b c : ℕ) → length (with_sum m a b c).nets ≡ length m.nets + 2
sum_nets m a b c =
    let before = with_inverters m (a ∷ b ∷ c ∷ []) in
    length-append before.nets (before.next ∷ (before.next + 1) ∷ [])
    ∙ ap (λ ns. length ns + 2) (inverter_nets (with_inverter (with_inverter m a) b) c ∙ inverter_nets (with_inverter m a) b ∙ inverter_nets m a)

pub visited_all : (lines : List Line) (gs : List Gate) (m : Assembled) → length (with_gates lines m gs).nets ≡ length m.nets + net.gate_nodes gs
visited_all lines [] m = omega arith
visited_all lines (gate.And a b ∷ gs) m = omega (arith, visited_all lines gs (with_root m (line_of lines (length m.nets))), root_length m (line_of lines (length m.nets)))
visited_all lines (gate.Xor a b ∷ gs) m = omega (arith, visited_all lines gs (with_root m (line_of lines (length m.nets))), root_length m (line_of lines (length m.nets)))
visited_all lines (gate.Carry a b c ∷ gs) m = omega (arith, visited_all lines gs (with_sum m a b c), sum_nets m a b c)

-- nodes that are used are there
or_parts : (a b : Bool) → (a || b) ≡ true → (a ≡ true) ⊎ (b ≡ true)
or_parts true b e = inl refl
or_parts false b e = inr e

means : (a b : ℕ) → (a == b) ≡ true → a ≡ b
means a b e = grind (arith, nat_tests)

either_part : (k : ℕ) (xs ys : List ℕ) → is_among k (xs ++ ys) ≡ true → (is_among k xs ≡ true) ⊎ (is_among k ys ≡ true)
either_part k [] ys e = inr e
either_part k (x ∷ xs) ys e = elim (or_parts (x == k) (is_among k (xs ++ ys)) e) [
  | inl t ↦ inl (ap (λ b. b || is_among k xs) t)
  | inr t ↦ (elim (either_part k xs ys t) [ inl s ↦ inl (behind k x xs s) | inr s ↦ inr s ])
]

one_of : (k x : ℕ) (more : List ℕ) → is_among k (x ∷ more) ≡ true → (x ≡ k) ⊎ (is_among k more ≡ true)
one_of k x more e = elim (or_parts (x == k) (is_among k more) e) [
  | inl t ↦ inl (means x k t)
  | inr t ↦ inr t
]

flips_below : (count : ℕ) (fs : List Flip) (k : ℕ) → FlipsBelow count fs → is_among k (flat_map flip_uses fs) ≡ true → k < count
flips_below count [] k h e = cc
flips_below count (f ∷ fs) k h e = elim (one_of k (half f.literal) (half f.enable ∷ flat_map flip_uses fs) e) [
  | inl at ↦ omega (arith, at, h.0)
  | inr t ↦ (elim (one_of k (half f.enable) (flat_map flip_uses fs) t) [
    | inl at ↦ omega (arith, at, h.1)
    | inr s ↦ flips_below count fs k h.2 s
  ])
]

literals_below : (count : ℕ) (ls : List ℕ) (k : ℕ) → ((i : ℕ) → i < length ls → get_or ls i 0 / 2 < count) → is_among k (map half ls) ≡ true → k < count
literals_below count [] k h e = cc
literals_below count (l ∷ ls) k h e = elim (one_of k (half l) (map half ls) e) [
  | inl at ↦ omega (arith, at, h 0 (omega arith))
  | inr t ↦ literals_below count ls k (λ i lt. h (suc i) (omega (arith, lt))) t
]

outputs_below : (count : ℕ) (os : List Output) (k : ℕ) → OutputsBelow count os → is_among k (flat_map output_uses os) ≡ true → k < count
outputs_below count [] k h e = cc
outputs_below count (o ∷ os) k h e = elim (either_part k (map half o.literals) (flat_map output_uses os) e) [
  | inl t ↦ literals_below count o.literals k h.0 t
  | inr t ↦ outputs_below count os k h.1 t
]

carries_below : (next high : ℕ) (gs : List Gate) (k : ℕ) → ReadBackwards next gs → next + net.gate_nodes gs ≤ high → is_among k (flat_map carry_uses gs) ≡ true → k < high
carries_below next high [] k h le e = cc
carries_below next high (gate.And a b ∷ gs) k h le e = carries_below (next + 1) high gs k h.1 (omega (arith, le)) e
carries_below next high (gate.Xor a b ∷ gs) k h le e = carries_below (next + 1) high gs k h.1 (omega (arith, le)) e
carries_below next high (gate.Carry a b c ∷ gs) k h le e = elim (one_of k (half a) (half b ∷ half c ∷ flat_map carry_uses gs) e) [
  | inl at ↦ omega (arith, at, h.0.0, le)
  | inr t ↦ (elim (one_of k (half b) (half c ∷ flat_map carry_uses gs) t) [
    | inl at ↦ omega (arith, at, h.0.1, le)
    | inr s ↦ (elim (one_of k (half c) (flat_map carry_uses gs) s) [
      | inl at ↦ omega (arith, at, h.0.2, le)
      | inr r ↦ carries_below (next + 2) high gs k h.1 (omega (arith, le)) r
    ])
  ])
]

front_part : (k : ℕ) (xs ys : List ℕ) → is_among k xs ≡ true → is_among k (xs ++ ys) ≡ true
front_part k [] ys e = cc
front_part k (x ∷ xs) ys e = elim (or_parts (x == k) (is_among k xs) e) [
  | inl t ↦ ap (λ b. b || is_among k (xs ++ ys)) t
  | inr t ↦ behind k x (xs ++ ys) (front_part k xs ys t)
]

-- behind the sources come the nodes of the gates
past_front : (xs ys : List Node) (k : ℕ) → node_at (xs ++ ys) (length xs + k) ≡ node_at ys k
past_front xs ys k = get_or-append-add xs ys k Constant

gates_suffix : (n : NetworkValue) → Suffix (nodes_of n) (first_gate n) (flat_map gate_nodes n.gates)
gates_suffix n k =
    let front = flat_map input_nodes n.inputs ++ flat_map flip_nodes n.flips in
    let at : first_gate n + k ≡ suc (length front + k) = omega (arith, front_count n) in
    ap (node_at (nodes_of n)) at ∙ past_front front (flat_map gate_nodes n.gates) k

-- in a cycle the assembled netlist shows and keeps what the network does
pub same_cycle : (n : NetworkValue) (lines : List Line) (most : ℕ) (inputs : List WordValue) (state values : List Bool) → most ≤ 6 → verdict n lines most ≡ Valid → IsWellFormed n
    → length (words_bits inputs ++ state) ≡ source_bits n → length values ≡ node_count n → value_at values 0 ≡ false
    → ((k : ℕ) → k < length (words_bits inputs ++ state) → value_at values (k + 1) ≡ get_or (words_bits inputs ++ state) k false)
    → GatesHold values (first_gate n) n.gates → DoesAlike n lines inputs state values
same_cycle n lines most inputs state values small valid formed many count zeroth from holds =
    let bits = words_bits inputs ++ state in
    let front = false ∷ true ∷ bits in
    let roots = roots_of lines in
    let nodes = nodes_of n in
    let g = granted n lines most small valid in
    let q = equations_hold n values count zeroth holds in
    let begin = sources_show n roots values bits many zeroth from in
    let long : length (sources n).nets ≡ first_gate n = omega (arith, numbers_length 2 (source_bits n)) in
    let below : (k : ℕ) → is_among k (uses_of n) ≡ true → k < length nodes = λ k is.
    let total = count_nodes n in
    elim (either_part k (flat_map output_uses n.outputs ++ flat_map flip_uses n.flips) (flat_map carry_uses n.gates) is) [
      | inl t ↦ (elim (either_part k (flat_map output_uses n.outputs) (flat_map flip_uses n.flips) t) [
        | inl s ↦ omega (arith, total, outputs_below (node_count n) n.outputs k formed.outputs s)
        | inr s ↦ omega (arith, total, flips_below (node_count n) n.flips k formed.flips s)
      ])
      | inr t ↦ omega (arith, total, carries_below (first_gate n) (node_count n) n.gates k formed.gates (omega arith) t)
    ] in
    let used : (k : ℕ) → is_among k (uses_of n) ≡ true → has_net nodes roots k ≡ true = λ k is. g.used k (below k is) is in
    let m = with_gates lines (sources n) n.gates in
    let shows = gates_show n lines values front g q zeroth n.gates (sources n) (first_gate n) long begin (gates_suffix n) holds formed.gates
    (λ k is. used k (behind_all k (flat_map output_uses n.outputs ++ flat_map flip_uses n.flips) (flat_map carry_uses n.gates) is)) in
    let all : length m.nets ≡ node_count n = visited_all lines n.gates (sources n) ∙ ap (λ k. k + net.gate_nodes n.gates) long in
    let flip_usable : AllUsable nodes roots m (flat_map flip_uses n.flips) = λ k is.
    let among : is_among k (uses_of n) ≡ true =
    front_part k (flat_map output_uses n.outputs ++ flat_map flip_uses n.flips) (flat_map carry_uses n.gates) (behind_all k (flat_map output_uses n.outputs) (flat_map flip_uses n.flips) is) in
    (omega (arith, all, count_nodes n, below k among), used k among) in
    let output_usable : AllUsable nodes roots m (flat_map output_uses n.outputs) = λ k is.
    let among : is_among k (uses_of n) ≡ true =
    front_part k (flat_map output_uses n.outputs ++ flat_map flip_uses n.flips) (flat_map carry_uses n.gates) (front_part k (flat_map output_uses n.outputs) (flat_map flip_uses n.flips) is) in
    (omega (arith, all, count_nodes n, below k among), used k among) in
    let flips = flips_keep nodes roots values front m n.flips shows in
    let outputs = outputs_keep nodes roots values front (after_flips m n.flips) n.outputs flips.0 in
    let later = after_outputs (after_flips m n.flips) n.outputs in
    record {
      shown = outputs_show nodes roots values front (after_flips m n.flips) later n.outputs zeroth flips.0
          (all_later nodes roots front m (after_flips m n.flips) (flat_map output_uses n.outputs) flips.1 output_usable) (keeps_itself front later);
      next = flops_go nodes roots values front m later n.flips state zeroth shows flip_usable outputs.1;
    }
