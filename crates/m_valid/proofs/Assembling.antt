-- What is assembled shows the values of the nodes.
use Rattle.std.proofs.Common.{◌≡◌, ◌<◌, ◌≤◌, ◌+◌, ◌*◌, ◌/◌, ◌%◌, ◌^◌, ◌==◌, ◌||◌, ℕ, suc, List, [], ◌∷◌, ◌++◌, length, map, get_or, Bool, true, false, not, None, Some, if◌then◌else◌, refl, ap, sym, subst, ◌∙◌, arith, append_assoc, length-append, inl, inr}
use mathlib.Core.Bool.{xor}
use Rattle.std.proofs.Math.Seq.{get_or-append_seam}
use Rattle.std.proofs.lemmas.List.{get_or_append_left, get_or-append-add}
use Rattle.std.proofs.lemmas.Bool.Decides.{eqb_tells}
use Rattle.lz_circuit.specs.Values.{value_at, majority}
use Rattle.n_cells.specs.declared.netlist.Stored.{Stored}
use Rattle.n_cells.specs.declared.netlist.Stored.TheVariants as stored
use Rattle.n_cells.specs.Run.{table_bit, index_of}
use Rattle.n_cells.specs.Walk.{all_values, cell_values}
use Rattle.g_net.specs.Run.{literal_value}
use Rattle.g_net.specs.declared.proposal.Line.{Line}
use Rattle.m_valid.specs.declared.nodes.Node.{Node}
use Rattle.m_valid.specs.Nodes.{node_at, is_gate}
use Rattle.m_valid.specs.Assembly.{Assembled, with_inverter, net_of, with_inverters, nets_of, with_root, with_carry, with_sum}
use Rattle.m_valid.specs.Validity.{is_among}
use Rattle.m_valid.proofs.Cutting.{index_moved}

-- a node that is no gate, or a root
abbrev pub has_net : List Node → List ℕ → ℕ → Bool
has_net nodes roots k = not (is_gate (node_at nodes k)) || is_among k roots

-- the values of the nets so far
abbrev pub shown_by : List Bool → Assembled → List Bool
shown_by front m = all_values front m.cells

pub record Shows (nodes : List Node) (roots : List ℕ) (values front : List Bool) (m : Assembled) : Type 0 where
  pub count : length (shown_by front m) ≡ m.next
  pub one : value_at (shown_by front m) 1 ≡ true
  pub two : 2 ≤ m.next
  pub there : (k : ℕ) → k < length m.nets → get_or m.nets k 0 < m.next
  pub equal : (k : ℕ) → k < length m.nets → has_net nodes roots k ≡ true → value_at (shown_by front m) (get_or m.nets k 0) ≡ value_at values k

-- nets that were there keep their values
pub record Keeps (front : List Bool) (old new : Assembled) : Type 0 where
  pub longer : old.next ≤ new.next
  pub same : (k : ℕ) → k < old.next → value_at (shown_by front new) k ≡ value_at (shown_by front old) k
  pub nets : new.nets ≡ old.nets

all_more : (front : List Bool) (cells : List Stored) (c : Stored) → all_values front (cells ++ c ∷ []) ≡ all_values front cells ++ cell_values (all_values front cells) c
all_more front [] c = refl
all_more front (d ∷ cells) c = all_more (front ++ cell_values front d) cells c

pub keeps_itself : (front : List Bool) (m : Assembled) → Keeps front m m
keeps_itself front m = record { longer = omega arith; same = λ k lt. refl; nets = refl }

pub keeps_on : (front : List Bool) (a b c : Assembled) → Keeps front a b → Keeps front b c → Keeps front a c
keeps_on front a b c f g = record {
  longer = omega (arith, f.longer, g.longer);
  same = λ k lt. g.same k (omega (arith, lt, f.longer)) ∙ f.same k lt;
  nets = g.nets ∙ f.nets;
}

-- one look-up table more, without a node
unfoldable pub with_table : Assembled → List ℕ → ℕ → Assembled
with_table m leaves table = record { nets = m.nets; cells = m.cells ++ stored.Lut leaves table ∷ []; next = m.next + 1 }

table_keeps : (nodes : List Node) (roots : List ℕ) (values front : List Bool) (m : Assembled) (leaves : List ℕ) (table : ℕ) → Shows nodes roots values front m → Keeps front m (with_table m leaves table)
unfolding with_table
table_keeps nodes roots values front m leaves table h = record {
  longer = omega arith;
  same = λ k lt. ap (λ vs. value_at vs k) (all_more front m.cells (stored.Lut leaves table)) ∙ get_or_append_left (shown_by front m) (cell_values (shown_by front m) (stored.Lut leaves table)) false k (omega (arith, lt, h.count));
  nets = refl;
}

table_last : (nodes : List Node) (roots : List ℕ) (values front : List Bool) (m : Assembled) (leaves : List ℕ) (table : ℕ) → Shows nodes roots values front m
    → value_at (shown_by front (with_table m leaves table)) m.next ≡ table_bit table (index_of (shown_by front m) leaves)
unfolding with_table
table_last nodes roots values front m leaves table h =
    ap (λ vs. value_at vs m.next) (all_more front m.cells (stored.Lut leaves table))
    ∙ ap (λ k. value_at (shown_by front m ++ cell_values (shown_by front m) (stored.Lut leaves table)) k) (sym h.count)
    ∙ get_or-append_seam (shown_by front m) (table_bit table (index_of (shown_by front m) leaves)) [] false

kept_shows : (nodes : List Node) (roots : List ℕ) (values front : List Bool) (old new : Assembled) → Shows nodes roots values front old → Keeps front old new → length (shown_by front new) ≡ new.next → Shows nodes roots values front new
kept_shows nodes roots values front old new h k count = record {
  count = count;
  one = k.same 1 (omega (arith, h.two)) ∙ h.one;
  two = omega (arith, h.two, k.longer);
  there = λ i lt.
      let before : get_or old.nets i 0 < old.next = h.there i (omega (arith, lt, ap length k.nets)) in
      omega (arith, before, k.longer, ap (λ ns. get_or ns i 0) k.nets);
  equal = λ i lt has.
      let within : i < length old.nets = omega (arith, lt, ap length k.nets) in
      ap (λ ns. value_at (shown_by front new) (get_or ns i 0)) k.nets ∙ k.same (get_or old.nets i 0) (h.there i within) ∙ h.equal i within has;
}

table_count : (nodes : List Node) (roots : List ℕ) (values front : List Bool) (m : Assembled) (leaves : List ℕ) (table : ℕ) → Shows nodes roots values front m
    → length (shown_by front (with_table m leaves table)) ≡ m.next + 1
unfolding with_table
table_count nodes roots values front m leaves table h =
    ap length (all_more front m.cells (stored.Lut leaves table))
    ∙ length-append (shown_by front m) (cell_values (shown_by front m) (stored.Lut leaves table)) ∙ ap (λ k. k + 1) h.count

-- an inverter
inverted_bit : (b : Bool) → table_bit 1 ((if b then 1 else 0) + 2 * 0) ≡ xor true b
unfolding xor
inverted_bit true = refl
inverted_bit false = refl

plain_bit : (b : Bool) → b ≡ xor false b
unfolding xor
plain_bit true = refl
plain_bit false = refl

-- a literal by its two tests: whether it is 1, and whether it is odd
inverter_by : (nodes : List Node) (roots : List ℕ) (values front : List Bool) (m : Assembled) (node : ℕ) (one odd : Bool) → Shows nodes roots values front m
    → Shows nodes roots values front (if (if one then false else odd) then with_table m (get_or m.nets node 0 ∷ []) 1 else m) × Keeps front m (if (if one then false else odd) then with_table m (get_or m.nets node 0 ∷ []) 1 else m)
unfolding with_table
inverter_by nodes roots values front m node true odd h = (h, keeps_itself front m)
inverter_by nodes roots values front m node false false h = (h, keeps_itself front m)
inverter_by nodes roots values front m node false true h =
    let kept = table_keeps nodes roots values front m (get_or m.nets node 0 ∷ []) 1 h in
    (kept_shows nodes roots values front m (with_table m (get_or m.nets node 0 ∷ []) 1) h kept (table_count nodes roots values front m (get_or m.nets node 0 ∷ []) 1 h), kept)

literal_by : (nodes : List Node) (roots : List ℕ) (values front : List Bool) (m : Assembled) (node : ℕ) (one odd : Bool) → Shows nodes roots values front m → node < length m.nets → has_net nodes roots node ≡ true
    → (one ≡ true → xor odd (value_at values node) ≡ true)
    → value_at (shown_by front (if (if one then false else odd) then with_table m (get_or m.nets node 0 ∷ []) 1 else m)) (if one then 1 else (if odd then m.next else get_or m.nets node 0)) ≡ xor odd (value_at values node)
literal_by nodes roots values front m node true odd h lt has is_one = h.one ∙ sym (is_one refl)
literal_by nodes roots values front m node false false h lt has is_one = h.equal node lt has ∙ plain_bit (value_at values node)
literal_by nodes roots values front m node false true h lt has is_one =
    table_last nodes roots values front m (get_or m.nets node 0 ∷ []) 1 h
    ∙ inverted_bit (value_at (shown_by front m) (get_or m.nets node 0))
    ∙ ap (xor true) (h.equal node lt has)

pub net_by : (m : Assembled) (node : ℕ) (one odd : Bool) → 2 ≤ m.next → get_or m.nets node 0 < m.next
    → (if one then 1 else (if odd then m.next else get_or m.nets node 0)) < (if (if one then false else odd) then with_table m (get_or m.nets node 0 ∷ []) 1 else m).next
unfolding with_table
net_by m node true odd two lt = omega (arith, two)
net_by m node false true two lt = omega arith
net_by m node false false two lt = lt

-- a literal that may be used: its node was visited, and has a net
pub record IsUsable (nodes : List Node) (roots : List ℕ) (m : Assembled) (literal : ℕ) : Type 0 where
  pub visited : literal / 2 < length m.nets
  pub has : has_net nodes roots (literal / 2) ≡ true

pub inverter_shows : (nodes : List Node) (roots : List ℕ) (values front : List Bool) (m : Assembled) (literal : ℕ) → Shows nodes roots values front m → Shows nodes roots values front (with_inverter m literal)
unfolding with_table
inverter_shows nodes roots values front m literal h = (inverter_by nodes roots values front m (literal / 2) (literal == 1) (literal % 2 == 1) h).0

pub inverter_keeps : (nodes : List Node) (roots : List ℕ) (values front : List Bool) (m : Assembled) (literal : ℕ) → Shows nodes roots values front m → Keeps front m (with_inverter m literal)
unfolding with_table
inverter_keeps nodes roots values front m literal h = (inverter_by nodes roots values front m (literal / 2) (literal == 1) (literal % 2 == 1) h).1

constant_one : (values : List Bool) (literal : ℕ) → value_at values 0 ≡ false → literal ≡ 1 → xor (literal % 2 == 1) (value_at values (literal / 2)) ≡ true
unfolding xor
constant_one values literal zeroth e = ap (λ (l : ℕ). xor (l % 2 == 1) (value_at values (l / 2))) e ∙ ap (xor true) zeroth

is_one : (literal : ℕ) → (literal == 1) ≡ true → literal ≡ 1
is_one literal e = elim (eqb_tells literal 1) [
  | inl t ↦ t.1
  | inr t ↦ let both : true ≡ false = sym e ∙ t.0 in cc
]

pub net_shown : (nodes : List Node) (roots : List ℕ) (values front : List Bool) (m : Assembled) (literal : ℕ) → value_at values 0 ≡ false → Shows nodes roots values front m → IsUsable nodes roots m literal
    → value_at (shown_by front (with_inverter m literal)) (net_of m literal) ≡ literal_value values literal
unfolding with_table
net_shown nodes roots values front m literal zeroth h u =
    literal_by nodes roots values front m (literal / 2) (literal == 1) (literal % 2 == 1) h u.visited u.has (λ e. constant_one values literal zeroth (is_one literal e))

pub net_there : (nodes : List Node) (roots : List ℕ) (values front : List Bool) (m : Assembled) (literal : ℕ) → Shows nodes roots values front m → IsUsable nodes roots m literal → net_of m literal < (with_inverter m literal).next
unfolding with_table
net_there nodes roots values front m literal h u = net_by m (literal / 2) (literal == 1) (literal % 2 == 1) h.two (h.there (literal / 2) u.visited)

-- several literals in order
pub inverters_keep : (nodes : List Node) (roots : List ℕ) (values front : List Bool) (m : Assembled) (literals : List ℕ) → Shows nodes roots values front m
    → Shows nodes roots values front (with_inverters m literals) × Keeps front m (with_inverters m literals)
inverters_keep nodes roots values front m [] h = (h, keeps_itself front m)
inverters_keep nodes roots values front m (l ∷ ls) h =
    let rest = inverters_keep nodes roots values front (with_inverter m l) ls (inverter_shows nodes roots values front m l h) in
    (rest.0, keeps_on front m (with_inverter m l) (with_inverters (with_inverter m l) ls) (inverter_keeps nodes roots values front m l h) rest.1)

pub usable_later : (nodes : List Node) (roots : List ℕ) (front : List Bool) (a b : Assembled) (literal : ℕ) → Keeps front a b → IsUsable nodes roots a literal → IsUsable nodes roots b literal
usable_later nodes roots front a b literal k u = record { visited = omega (arith, u.visited, ap length k.nets); has = u.has }

pub nets_shown : (nodes : List Node) (roots : List ℕ) (values front : List Bool) (m later : Assembled) (literals : List ℕ) → value_at values 0 ≡ false → Shows nodes roots values front m
    → ((k : ℕ) → k < length literals → IsUsable nodes roots m (get_or literals k 0)) → Keeps front (with_inverters m literals) later
    → map (value_at (shown_by front later)) (nets_of m literals) ≡ map (literal_value values) literals
nets_shown nodes roots values front m later [] zeroth h u k = refl
nets_shown nodes roots values front m later (l ∷ ls) zeroth h u k =
    let next = with_inverter m l in
    let first : IsUsable nodes roots m l = u 0 (omega arith) in
    let shows = inverter_shows nodes roots values front m l h in
    let rest = inverters_keep nodes roots values front next ls shows in
    let whole = keeps_on front next (with_inverters next ls) later rest.1 k in
    let here : value_at (shown_by front later) (net_of m l) ≡ literal_value values l =
    whole.same (net_of m l) (net_there nodes roots values front m l h first) ∙ net_shown nodes roots values front m l zeroth h first in
    ap (λ b. b ∷ map (value_at (shown_by front later)) (nets_of next ls)) here
    ∙ ap (λ bs. literal_value values l ∷ bs)
    (nets_shown nodes roots values front next later ls zeroth shows (λ i lt. usable_later nodes roots front m next (get_or ls i 0) (inverter_keeps nodes roots values front m l h) (u (suc i) (omega (arith, lt)))) k)

-- a node that has no net
pub past_node : (nodes : List Node) (roots : List ℕ) (values front : List Bool) (m : Assembled) → Shows nodes roots values front m → has_net nodes roots (length m.nets) ≡ false → Shows nodes roots values front (with_root m None)
past_node nodes roots values front m h none = record {
  count = h.count;
  one = h.one;
  two = h.two;
  there = λ k lt. elim (eqb_tells k (length m.nets)) [
    | inl e ↦ let at : get_or (m.nets ++ 0 ∷ []) k 0 ≡ 0 = ap (λ j. get_or (m.nets ++ 0 ∷ []) j 0) e.1 ∙ get_or-append_seam m.nets 0 [] 0 in omega (arith, at, h.two)
    | inr e ↦
        let within : k < length m.nets = omega (arith, lt, e.1, length-append m.nets (0 ∷ [])) in
        omega (arith, get_or_append_left m.nets (0 ∷ []) 0 k within, h.there k within)
  ];
  equal = λ k lt has. elim (eqb_tells k (length m.nets)) [
    | inl e ↦ let both : true ≡ false = sym has ∙ ap (has_net nodes roots) e.1 ∙ none in cc
    | inr e ↦
        let within : k < length m.nets = omega (arith, lt, e.1, length-append m.nets (0 ∷ [])) in
        ap (value_at (shown_by front m)) (get_or_append_left m.nets (0 ∷ []) 0 k within) ∙ h.equal k within has
  ];
}

-- one node more, whose net has its value
node_more : (nodes : List Node) (roots : List ℕ) (values front : List Bool) (m : Assembled) (net : ℕ) → Shows nodes roots values front m → net < m.next → value_at (shown_by front m) net ≡ value_at values (length m.nets)
    → Shows nodes roots values front (record { nets = m.nets ++ net ∷ []; cells = m.cells; next = m.next })
node_more nodes roots values front m net h lt here = record {
  count = h.count;
  one = h.one;
  two = h.two;
  there = λ k below. elim (eqb_tells k (length m.nets)) [
    | inl e ↦ let at : get_or (m.nets ++ net ∷ []) k 0 ≡ net = ap (λ j. get_or (m.nets ++ net ∷ []) j 0) e.1 ∙ get_or-append_seam m.nets net [] 0 in omega (arith, at, lt)
    | inr e ↦
        let within : k < length m.nets = omega (arith, below, e.1, length-append m.nets (net ∷ [])) in
        omega (arith, get_or_append_left m.nets (net ∷ []) 0 k within, h.there k within)
  ];
  equal = λ k below has. elim (eqb_tells k (length m.nets)) [
    | inl e ↦
        ap (value_at (shown_by front m)) (ap (λ j. get_or (m.nets ++ net ∷ []) j 0) e.1 ∙ get_or-append_seam m.nets net [] 0) ∙ here ∙ ap (value_at values) (sym e.1)
    | inr e ↦
        let within : k < length m.nets = omega (arith, below, e.1, length-append m.nets (net ∷ [])) in
        ap (value_at (shown_by front m)) (get_or_append_left m.nets (net ∷ []) 0 k within) ∙ h.equal k within has
  ];
}

-- a root, whose table shows its value
pub root_more : (nodes : List Node) (roots : List ℕ) (values front : List Bool) (m : Assembled) (l : Line) → Shows nodes roots values front m → l.root ≡ length m.nets
    → ((k : ℕ) → is_among k l.leaves ≡ true → k < length m.nets) → ((k : ℕ) → is_among k l.leaves ≡ true → has_net nodes roots k ≡ true)
    → table_bit (l.table % 2 ^ (2 ^ length l.leaves)) (index_of values l.leaves) ≡ value_at values l.root → Shows nodes roots values front (with_root m (Some l))
unfolding with_table
root_more nodes roots values front m l h at visited has shows =
    let leaves = map (λ (k : ℕ). get_or m.nets k 0) l.leaves in
    let table = l.table % 2 ^ (2 ^ length l.leaves) in
    let kept = table_keeps nodes roots values front m leaves table h in
    let next = kept_shows nodes roots values front m (with_table m leaves table) h kept (table_count nodes roots values front m leaves table h) in
    let here : value_at (shown_by front (with_table m leaves table)) m.next ≡ value_at values (length m.nets) =
    table_last nodes roots values front m leaves table h
    ∙ ap (table_bit table) (index_moved (shown_by front m) values (λ (k : ℕ). get_or m.nets k 0) l.leaves (λ k leaf. h.equal k (visited k leaf) (has k leaf)))
    ∙ shows ∙ ap (value_at values) at in
    node_more nodes roots values front (with_table m leaves table) m.next next (omega arith) here

-- a carry, whose two nodes come next
carry_keeps : (nodes : List Node) (roots : List ℕ) (values front : List Bool) (m : Assembled) (a b c : ℕ) → Shows nodes roots values front m
    → (k : ℕ) → k < m.next → value_at (shown_by front (with_carry m a b c)) k ≡ value_at (shown_by front m) k
carry_keeps nodes roots values front m a b c h k lt =
    ap (λ vs. value_at vs k) (all_more front m.cells (stored.Carry a b c)) ∙ get_or_append_left (shown_by front m) (cell_values (shown_by front m) (stored.Carry a b c)) false k (omega (arith, lt, h.count))

carry_first : (nodes : List Node) (roots : List ℕ) (values front : List Bool) (m : Assembled) (a b c : ℕ) → Shows nodes roots values front m
    → value_at (shown_by front (with_carry m a b c)) m.next ≡ xor (value_at (shown_by front m) a) (xor (value_at (shown_by front m) b) (value_at (shown_by front m) c))
carry_first nodes roots values front m a b c h =
    let v = shown_by front m in
    ap (λ vs. value_at vs m.next) (all_more front m.cells (stored.Carry a b c)) ∙ ap (λ k. value_at (v ++ cell_values v (stored.Carry a b c)) k) (sym h.count)
    ∙ get_or-append_seam v (xor (value_at v a) (xor (value_at v b) (value_at v c))) (majority (value_at v a) (value_at v b) (value_at v c) ∷ []) false

carry_second : (nodes : List Node) (roots : List ℕ) (values front : List Bool) (m : Assembled) (a b c : ℕ) → Shows nodes roots values front m
    → value_at (shown_by front (with_carry m a b c)) (m.next + 1) ≡ majority (value_at (shown_by front m) a) (value_at (shown_by front m) b) (value_at (shown_by front m) c)
carry_second nodes roots values front m a b c h =
    let v = shown_by front m in
    ap (λ vs. value_at vs (m.next + 1)) (all_more front m.cells (stored.Carry a b c)) ∙ ap (λ k. value_at (v ++ cell_values v (stored.Carry a b c)) (k + 1)) (sym h.count)
    ∙ get_or-append-add v (cell_values v (stored.Carry a b c)) 1 false

carry_count : (nodes : List Node) (roots : List ℕ) (values front : List Bool) (m : Assembled) (a b c : ℕ) → Shows nodes roots values front m → length (shown_by front (with_carry m a b c)) ≡ m.next + 2
carry_count nodes roots values front m a b c h =
    ap length (all_more front m.cells (stored.Carry a b c)) ∙ length-append (shown_by front m) (cell_values (shown_by front m) (stored.Carry a b c)) ∙ ap (λ k. k + 2) h.count

-- the same, before its nodes are visited
carried : Assembled → ℕ → ℕ → ℕ → Assembled
carried m a b c = record { nets = m.nets; cells = m.cells ++ stored.Carry a b c ∷ []; next = m.next + 2 }

carried_shows : (nodes : List Node) (roots : List ℕ) (values front : List Bool) (m : Assembled) (a b c : ℕ) → Shows nodes roots values front m → Shows nodes roots values front (carried m a b c)
unfolding carried
carried_shows nodes roots values front m a b c h =
    kept_shows nodes roots values front m (carried m a b c) h (record { longer = omega arith; same = carry_keeps nodes roots values front m a b c h; nets = refl }) (carry_count nodes roots values front m a b c h)

carry_more : (nodes : List Node) (roots : List ℕ) (values front : List Bool) (m : Assembled) (a b c : ℕ) → Shows nodes roots values front m
    → value_at values (length m.nets) ≡ xor (value_at (shown_by front m) a) (xor (value_at (shown_by front m) b) (value_at (shown_by front m) c))
    → value_at values (length m.nets + 1) ≡ majority (value_at (shown_by front m) a) (value_at (shown_by front m) b) (value_at (shown_by front m) c)
    → Shows nodes roots values front (with_carry m a b c)
unfolding carried
carry_more nodes roots values front m a b c h sum out =
    let one = node_more nodes roots values front (carried m a b c) m.next (carried_shows nodes roots values front m a b c h) (omega arith) (carry_first nodes roots values front m a b c h ∙ sym sum) in
    let long : length (m.nets ++ m.next ∷ []) ≡ length m.nets + 1 = length-append m.nets (m.next ∷ []) in
    let mid : Assembled = record { nets = m.nets ++ m.next ∷ []; cells = m.cells ++ stored.Carry a b c ∷ []; next = m.next + 2 } in
    let two = node_more nodes roots values front mid (m.next + 1) one (omega arith) (carry_second nodes roots values front m a b c h ∙ sym out ∙ ap (value_at values) (sym long)) in
    let joined : (m.nets ++ m.next ∷ []) ++ (m.next + 1) ∷ [] ≡ m.nets ++ m.next ∷ (m.next + 1) ∷ [] = append_assoc m.nets (m.next ∷ []) ((m.next + 1) ∷ []) in
    subst (λ ns. Shows nodes roots values front (record { nets = ns; cells = m.cells ++ stored.Carry a b c ∷ []; next = m.next + 2 })) joined two

-- a carry over literals, of which the inverted ones give inverters first
pub sum_more : (nodes : List Node) (roots : List ℕ) (values front : List Bool) (m : Assembled) (a b c : ℕ) → value_at values 0 ≡ false → Shows nodes roots values front m
    → IsUsable nodes roots m a → IsUsable nodes roots m b → IsUsable nodes roots m c
    → value_at values (length m.nets) ≡ xor (literal_value values a) (xor (literal_value values b) (literal_value values c))
    → value_at values (length m.nets + 1) ≡ majority (literal_value values a) (literal_value values b) (literal_value values c) → Shows nodes roots values front (with_sum m a b c)
sum_more nodes roots values front m a b c zeroth h ua ub uc sum out =
    let m1 = with_inverter m a in
    let m2 = with_inverter m1 b in
    let m3 = with_inverter m2 c in
    let k1 = inverter_keeps nodes roots values front m a h in
    let h1 = inverter_shows nodes roots values front m a h in
    let k2 = inverter_keeps nodes roots values front m1 b h1 in
    let h2 = inverter_shows nodes roots values front m1 b h1 in
    let k3 = inverter_keeps nodes roots values front m2 c h2 in
    let h3 = inverter_shows nodes roots values front m2 c h2 in
    let vb = usable_later nodes roots front m m1 b k1 ub in
    let vc = usable_later nodes roots front m m2 c (keeps_on front m m1 m2 k1 k2) uc in
    let ea : value_at (shown_by front m3) (net_of m a) ≡ literal_value values a =
    (keeps_on front m1 m2 m3 k2 k3).same (net_of m a) (net_there nodes roots values front m a h ua) ∙ net_shown nodes roots values front m a zeroth h ua in
    let eb : value_at (shown_by front m3) (net_of m1 b) ≡ literal_value values b = k3.same (net_of m1 b) (net_there nodes roots values front m1 b h1 vb) ∙ net_shown nodes roots values front m1 b zeroth h1 vb in
    let ec : value_at (shown_by front m3) (net_of m2 c) ≡ literal_value values c = net_shown nodes roots values front m2 c zeroth h2 vc in
    let nets : m3.nets ≡ m.nets = k3.nets ∙ k2.nets ∙ k1.nets in
    carry_more nodes roots values front m3 (net_of m a) (net_of m1 b) (net_of m2 c) h3
    (ap (λ ns. value_at values (length ns)) nets ∙ sum ∙ sym (three_same xor xor ea eb ec))
    (ap (λ ns. value_at values (length ns + 1)) nets ∙ out ∙ sym (ap (λ x. majority x (value_at (shown_by front m3) (net_of m1 b)) (value_at (shown_by front m3) (net_of m2 c))) ea
    ∙ ap (λ y. majority (literal_value values a) y (value_at (shown_by front m3) (net_of m2 c))) eb ∙ ap (λ z. majority (literal_value values a) (literal_value values b) z) ec))
  where
    three_same : (f g : Bool → Bool → Bool) → {x y z p q r : Bool} → x ≡ p → y ≡ q → z ≡ r → f x (g y z) ≡ f p (g q r)
    three_same f g {x} {y} {z} {p} {q} {r} e h i = ap (λ u. f u (g y z)) e ∙ ap (λ u. f p (g u z)) h ∙ ap (λ u. f p (g q u)) i
