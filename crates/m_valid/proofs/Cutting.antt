-- A valid line's table shows its root's value, where its leaves have theirs.
use Rattle.std.proofs.Common.{◌≡◌, ◌<◌, ◌≤◌, ◌+◌, ◌*◌, ◌/◌, ◌%◌, ◌^◌, ◌==◌, ◌&&◌, ◌||◌, ℕ, zero, suc, List, [], ◌∷◌, ◌++◌, flat_map, replicate, length, map, Bool, true, false, Option, None, Some, if◌then◌else◌, refl, ap, sym, ◌∙◌, arith, length-append}
use Rattle.std.specs.Bool.{xor}
use Rattle.std.proofs.lemmas.Bool.Decides.{nat_tests}
use Rattle.std.proofs.Math.Nat.{pow-suc}
use Rattle.lz_circuit.specs.Values.{value_at}
use Rattle.n_cells.specs.Run.{table_bit, index_of}
use Rattle.lz_base.specs.declared.name.Port.{Port}
use Rattle.g_net.specs.declared.network.Flip.{Flip}
use Rattle.g_net.specs.declared.network.Gate.{Gate}
use Rattle.g_net.specs.declared.network.Gate.TheVariants as gate
use Rattle.g_net.specs.declared.proposal.Line.{Line}
use Rattle.g_net.specs.Network.{NetworkValue, first_gate, node_count}
use Rattle.g_net.specs.Run.{GatesHold}
use Rattle.m_valid.specs.declared.nodes.Node.{Node}
use Rattle.m_valid.specs.declared.nodes.Node.TheVariants.{Constant, Source, And, Xor}
use Rattle.m_valid.specs.Nodes.{nodes_of, node_at, is_source, input_nodes, flip_nodes, gate_nodes}
use Rattle.m_valid.specs.Validity.{is_among, goes_down, ends_in, steps_from, operation, literal_of, assigned, or_else, cone_value, is_covered, has_table, root_value}
use Rattle.m_valid.proofs.Bits.{agree_at, low_bit}
use Rattle.m_valid.proofs.Numbering.{count_nodes, front_count}
use Rattle.m_valid.proofs.Plainly.{leaf_assigned, is_false}

-- each node but the sources has the value of its operation
abbrev pub Equations : List Node → List Bool → Type 0
Equations nodes values = (k : ℕ) → is_source (node_at nodes k) ≡ false → value_at values k ≡ operation (value_at values) (node_at nodes k)

-- an assignment gives the leaves their values
abbrev pub Assigns : List ℕ → ℕ → List Bool → Type 0
Assigns leaves i values = (k : ℕ) (b : Bool) → assigned leaves i k ≡ Some b → b ≡ value_at values k

first_part : (a b : Bool) → (a && b) ≡ true → a ≡ true
first_part true b e = refl
first_part false b e = cc

second_part : (a b : Bool) → (a && b) ≡ true → b ≡ true
second_part true b e = e
second_part false b e = cc

-- operands that are gone down to have the same values
same_operation : (f g h : ℕ → Bool) (x : Node) → goes_down f x ≡ true → ((k : ℕ) → f k ≡ true → g k ≡ h k) → operation g x ≡ operation h x
same_operation f g h Constant e s = refl
same_operation f g h Source e s = refl
same_operation f g h (And a b) e s =
    ap (λ x. xor (a % 2 == 1) x && literal_of g b) (s (a / 2) (first_part (f (a / 2)) (f (b / 2)) e)) ∙ ap (λ x. literal_of h a && xor (b % 2 == 1) x) (s (b / 2) (second_part (f (a / 2)) (f (b / 2)) e))
same_operation f g h (Xor a b) e s =
    ap (λ x. xor (xor (a % 2 == 1) x) (literal_of g b)) (s (a / 2) (first_part (f (a / 2)) (f (b / 2)) e)) ∙ ap (λ x. xor (literal_of h a) (xor (b % 2 == 1) x)) (s (b / 2) (second_part (f (a / 2)) (f (b / 2)) e))

no_source : (f : ℕ → Bool) (x : Node) → goes_down f x ≡ true → is_source x ≡ false
no_source f Constant e = refl
no_source f Source e = cc
no_source f (And a b) e = refl
no_source f (Xor a b) e = refl

no_leaf : (a b : Bool) → (a || b) ≡ true → a ≡ false → b ≡ true
no_leaf true b e f = cc
no_leaf false b e f = e

-- one node, where those below have their values
one_node : (o : Option Bool) (below whole : Bool) → ((b : Bool) → o ≡ Some b → b ≡ whole) → (o ≡ None → below ≡ whole) → or_else o below ≡ whole
one_node None below whole f g = g refl
one_node (Some b) below whole f g = f b refl

-- the value of a cone is the node's
pub cone_values : (nodes : List Node) (leaves : List ℕ) (i : ℕ) (values : List Bool) → Equations nodes values → Assigns leaves i values → (steps number : ℕ) → ends_in nodes leaves steps number ≡ true
    → cone_value nodes (assigned leaves i) steps number ≡ value_at values number
unfolding ends_in cone_value
cone_values nodes leaves i values h g zero number e = cc
cone_values nodes leaves i values h g (suc steps) number e =
    one_node (assigned leaves i number) (operation (cone_value nodes (assigned leaves i) steps) (node_at nodes number)) (value_at values number) (λ b is. g number b is) (λ none.
    let free : is_among number leaves ≡ false = is_false (is_among number leaves) (λ leaf. leaf_assigned leaves i number leaf none) in
    let down : goes_down (ends_in nodes leaves steps) (node_at nodes number) ≡ true = no_leaf (is_among number leaves) (goes_down (ends_in nodes leaves steps) (node_at nodes number)) e free in
    same_operation (ends_in nodes leaves steps) (cone_value nodes (assigned leaves i) steps) (value_at values) (node_at nodes number) down (λ k ends. cone_values nodes leaves i values h g steps k ends)
    ∙ sym (h number (no_source (ends_in nodes leaves steps) (node_at nodes number) down)))

-- the number that the leaves' values make
odd_bit : (b : Bool) (n : ℕ) → (((if b then 1 else 0) + 2 * n) % 2 == 1) ≡ b
odd_bit false n = grind (arith, nat_tests)
odd_bit true n = grind (arith, nat_tests)

half_bit : (b : Bool) (n : ℕ) → ((if b then 1 else 0) + 2 * n) / 2 ≡ n
half_bit false n = omega arith
half_bit true n = omega arith

assigned_first : (values : List Bool) (leaf k i : ℕ) (t : Bool) (rest : Option Bool) (b : Bool) → (leaf == k) ≡ t → (t ≡ true → leaf ≡ k) → (i % 2 == 1) ≡ value_at values leaf → (if t then Some (i % 2 == 1) else rest) ≡ Some b
    → (rest ≡ Some b → b ≡ value_at values k) → b ≡ value_at values k
assigned_first values leaf k i true rest b e at odd is more = let bit : (i % 2 == 1) ≡ b = cc in sym bit ∙ odd ∙ ap (value_at values) (at refl)
assigned_first values leaf k i false rest b e at odd is more = more is

eq_of : (a b : ℕ) → (a == b) ≡ true → a ≡ b
eq_of a b e = grind (arith, nat_tests)

pub index_assigns : (values : List Bool) (leaves : List ℕ) → Assigns leaves (index_of values leaves) values
index_assigns values [] k b is = cc
index_assigns values (l ∷ ls) k b is =
    let rest = index_of values ls in
    assigned_first values l k (index_of values (l ∷ ls)) (l == k) (assigned ls (index_of values (l ∷ ls) / 2) k) b refl (eq_of l k) (odd_bit (value_at values l) rest) is (λ later.
    index_assigns values ls k b (ap (λ m. assigned ls m k) (sym (half_bit (value_at values l) rest)) ∙ later))

small_bit : (b : Bool) (n k : ℕ) → n < 2 ^ k → (if b then 1 else 0) + 2 * n < 2 ^ suc k
small_bit false n k h = omega (arith, h, pow-suc 2 k)
small_bit true n k h = omega (arith, h, pow-suc 2 k)

pub index_small : (values : List Bool) (leaves : List ℕ) → index_of values leaves < 2 ^ length leaves
index_small values [] = omega arith
index_small values (l ∷ ls) = small_bit (value_at values l) (index_of values ls) (length ls) (index_small values ls)

-- the low bits of the table show the root's value
pub table_shows : (nodes : List Node) (l : Line) (values : List Bool) → Equations nodes values → is_covered nodes l ≡ true → has_table nodes l ≡ true
    → table_bit (l.table % 2 ^ (2 ^ length l.leaves)) (index_of values l.leaves) ≡ value_at values l.root
table_shows nodes l values h covered table =
    let i = index_of values l.leaves in
    ap (λ x. x == 1) (low_bit (2 ^ length l.leaves) l.table i (index_small values l.leaves))
    ∙ sym (agree_at (2 ^ length l.leaves) (root_value nodes l) (table_bit l.table) i table (index_small values l.leaves))
    ∙ cone_values nodes l.leaves i values h (index_assigns values l.leaves) (steps_from l.root) l.root covered

-- nets that have the leaves' values make the same number
pub index_moved : (nets values : List Bool) (net : ℕ → ℕ) (leaves : List ℕ) → ((k : ℕ) → is_among k leaves ≡ true → value_at nets (net k) ≡ value_at values k) → index_of nets (map net leaves) ≡ index_of values leaves
index_moved nets values net [] h = refl
index_moved nets values net (l ∷ ls) h =
    let here : is_among l (l ∷ ls) ≡ true = ap (λ t. t || is_among l ls) (self l) in
    ap (λ b. (if b then 1 else 0) + 2 * index_of nets (map net ls)) (h l here)
    ∙ ap (λ n. (if value_at values l then 1 else 0) + 2 * n) (index_moved nets values net ls (λ k e. h k (ap (λ t. (l == k) || t) e ∙ or_true (l == k))))
  where
    self : (a : ℕ) → (a == a) ≡ true
    self a = grind (arith, nat_tests)

    or_true : (t : Bool) → (t || true) ≡ true
    or_true true = refl
    or_true false = refl

-- The values of a network satisfy these equations: those of its gates
beyond : (values : List Bool) (k : ℕ) → length values ≤ k → value_at values k ≡ false
beyond [] k past = refl
beyond (b ∷ values) zero past = absurd (omega arith)
beyond (b ∷ values) (suc k) past = beyond values k (omega (arith, past))

gate_equations : (values : List Bool) (next : ℕ) (gs : List Gate) (j : ℕ) → GatesHold values next gs → ((k : ℕ) → next + length (flat_map gate_nodes gs) ≤ k → value_at values k ≡ false)
    → is_source (node_at (flat_map gate_nodes gs) j) ≡ false → value_at values (next + j) ≡ operation (value_at values) (node_at (flat_map gate_nodes gs) j)
gate_equations values next [] j h past e = past (next + j) (omega arith)
gate_equations values next (gate.And a b ∷ gs) zero h past e = let at : next + 0 ≡ next = omega arith in ap (value_at values) at ∙ h.0
gate_equations values next (gate.And a b ∷ gs) (suc j) h past e =
    let at : next + suc j ≡ next + 1 + j = omega arith in
    ap (value_at values) at ∙ gate_equations values (next + 1) gs j h.1 (λ k le. past k (omega (arith, le))) e
gate_equations values next (gate.Xor a b ∷ gs) zero h past e = let at : next + 0 ≡ next = omega arith in ap (value_at values) at ∙ h.0
gate_equations values next (gate.Xor a b ∷ gs) (suc j) h past e =
    let at : next + suc j ≡ next + 1 + j = omega arith in
    ap (value_at values) at ∙ gate_equations values (next + 1) gs j h.1 (λ k le. past k (omega (arith, le))) e
gate_equations values next (gate.Carry a b c ∷ gs) zero h past e = cc
gate_equations values next (gate.Carry a b c ∷ gs) (suc zero) h past e = cc
gate_equations values next (gate.Carry a b c ∷ gs) (suc (suc j)) h past e =
    let at : next + suc (suc j) ≡ next + 2 + j = omega arith in
    ap (value_at values) at ∙ gate_equations values (next + 2) gs j h.1 (λ k le. past k (omega (arith, le))) e

front_equations : (values : List Bool) (xs ys : List Node) (next : ℕ) → ((j : ℕ) → j < length xs → is_source (node_at xs j) ≡ true)
    → ((j : ℕ) → is_source (node_at ys j) ≡ false → value_at values (next + length xs + j) ≡ operation (value_at values) (node_at ys j))
    → (j : ℕ) → is_source (node_at (xs ++ ys) j) ≡ false → value_at values (next + j) ≡ operation (value_at values) (node_at (xs ++ ys) j)
front_equations values [] ys next f h j e = let at : next + j ≡ next + 0 + j = omega arith in ap (value_at values) at ∙ h j e
front_equations values (x ∷ xs) ys next f h zero e = let both : true ≡ false = sym (f 0 (omega arith)) ∙ e in cc
front_equations values (x ∷ xs) ys next f h (suc j) e =
    let at : next + suc j ≡ next + 1 + j = omega arith in
    ap (value_at values) at
    ∙ front_equations values xs ys (next + 1) (λ k lt. f (suc k) (omega (arith, lt)))
    (λ k none. let on : next + 1 + length xs + k ≡ next + length (x ∷ xs) + k = omega arith in ap (value_at values) on ∙ h k none) j e

sources_joined : (xs ys : List Node) → ((j : ℕ) → j < length xs → is_source (node_at xs j) ≡ true) → ((j : ℕ) → j < length ys → is_source (node_at ys j) ≡ true)
    → (j : ℕ) → j < length (xs ++ ys) → is_source (node_at (xs ++ ys) j) ≡ true
sources_joined [] ys f g j lt = g j lt
sources_joined (x ∷ xs) ys f g zero lt = f zero (omega arith)
sources_joined (x ∷ xs) ys f g (suc j) lt = sources_joined xs ys (λ k h. f (suc k) (omega (arith, h))) g j (omega (arith, lt))

so_many_sources : (count j : ℕ) → j < length (replicate count Source) → is_source (node_at (replicate count Source) j) ≡ true
so_many_sources zero j lt = absurd (omega arith)
so_many_sources (suc count) zero lt = refl
so_many_sources (suc count) (suc j) lt = so_many_sources count j (omega (arith, lt))

input_sources : (ps : List Port) (j : ℕ) → j < length (flat_map input_nodes ps) → is_source (node_at (flat_map input_nodes ps) j) ≡ true
input_sources [] j lt = absurd (omega arith)
input_sources (p ∷ ps) j lt = sources_joined (replicate p.width Source) (flat_map input_nodes ps) (so_many_sources p.width) (input_sources ps) j lt

flip_sources : (fs : List Flip) (j : ℕ) → j < length (flat_map flip_nodes fs) → is_source (node_at (flat_map flip_nodes fs) j) ≡ true
flip_sources [] j lt = absurd (omega arith)
flip_sources (f ∷ fs) zero lt = refl
flip_sources (f ∷ fs) (suc j) lt = flip_sources fs j (omega (arith, lt))

-- the values of a network satisfy the equations of its nodes
pub equations_hold : (n : NetworkValue) (values : List Bool) → length values ≡ node_count n → value_at values 0 ≡ false → GatesHold values (first_gate n) n.gates → Equations (nodes_of n) values
equations_hold n values count zeroth h zero e = zeroth
equations_hold n values count zeroth h (suc j) e =
    let front = flat_map input_nodes n.inputs ++ flat_map flip_nodes n.flips in
    let gates = flat_map gate_nodes n.gates in
    let long : 1 + length front ≡ first_gate n = front_count n in
    let at : suc j ≡ 1 + j = omega arith in
    ap (value_at values) at
    ∙ front_equations values front gates 1 (sources_joined (flat_map input_nodes n.inputs) (flat_map flip_nodes n.flips) (input_sources n.inputs) (flip_sources n.flips))
    (λ k none. ap (λ m. value_at values (m + k)) long
    ∙ gate_equations values (first_gate n) n.gates k h (λ i le. beyond values i (omega (arith, count, count_nodes n, length-append front gates, long, le))) none) j e
