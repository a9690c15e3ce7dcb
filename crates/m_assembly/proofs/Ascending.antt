-- Where the roots of lines ascend, the line of the next node is the first that is left.
use Rattle.std.proofs.Common.{◌≡◌, ◌<◌, ◌≤◌, ◌+◌, ◌/◌, ◌++◌, ◌==◌, ℕ, List, [], ◌∷◌, length, Bool, true, false, nat_le, Option, None, Some, if◌then◌else◌, ◌&&◌, slice_index, drop, drop-cons, get_or, add-one, subst, length-append, refl, ap, sym, ◌∙◌, arith}
use Rattle.std.proofs.lemmas.Bool.Decides.{nat_tests}
use Rattle.g_net.specs.declared.network.Gate.{Gate}
use Rattle.g_net.specs.declared.network.Gate.TheVariants as gate
use Rattle.g_net.specs.declared.proposal.Line.{Line}
use Rattle.g_net.specs.Network.{NetworkValue}
use Rattle.n_cells.specs.Leaves.{most_leaves}
use Rattle.n_cells.specs.declared.netlist.Stored.TheVariants as stored
use Rattle.m_valid.specs.declared.nodes.Node.{Node}
use Rattle.m_valid.specs.declared.verdict.Check.{Check}
use Rattle.m_valid.specs.declared.verdict.Check.TheVariants.{V1, V2}
use Rattle.m_valid.specs.declared.verdict.Verdict.{Verdict}
use Rattle.m_valid.specs.declared.verdict.Verdict.TheVariants.{Valid}
use Rattle.m_valid.specs.Assembly.{Assembled, is_inverted, line_of, with_inverter, with_root, with_gate, with_gates}
use Rattle.m_valid.specs.Nodes.{is_gate, node_at, nodes_of}
use Rattle.m_valid.specs.Validity.{first_broken, has_leaves, increase, judged, leaves_hold, roots_hold, verdict}
use Rattle.m_assembly.specs.Cursor.{AreCuts, first_line, from_root}

le_is : (a b : ℕ) → nat_le a b ≡ true → a ≤ b
le_is a b h = grind (arith, nat_tests)

le_not : (a b : ℕ) → nat_le a b ≡ false → b < a
le_not a b h = grind (arith, nat_tests)

eq_below : (a b : ℕ) → a < b → (a == b) ≡ false
eq_below a b h = grind (arith, nat_tests)

eq_above : (a b : ℕ) → b < a → (a == b) ≡ false
eq_above a b h = grind (arith, nat_tests)

eq_not : (a b : ℕ) → b ≤ a → (a == b) ≡ false → b < a
eq_not a b le h = grind (arith, nat_tests)

-- no line has a root below all
none_below : (least : ℕ) (lines : List Line) (node : ℕ) → AreCuts least lines → node < least → line_of lines node ≡ None
none_below least [] node h below = refl
none_below least (l ∷ ls) node h below =
    let above : node < l.root = omega (arith, below, h.0) in
    ap (λ (b : Bool). if b then Some l else line_of ls node) (eq_above l.root node above) ∙ none_below (l.root + 1) ls node h.2 (omega (arith, above))

-- the line of the node from which on they ascend is the first one
pub first_found : (lines : List Line) (node : ℕ) → AreCuts node lines → first_line lines node ≡ line_of lines node
first_found [] node h = refl
first_found (l ∷ ls) node h = by (l.root == node) refl
  where
    by : (b : Bool) → (l.root == node) ≡ b → (if b then Some l else None) ≡ (if b then Some l else line_of ls node)
    by true e = refl
    by false e = sym (none_below (l.root + 1) ls node h.2 (omega (arith, eq_not l.root node h.0 e)))

-- the lines from a number on ascend from there
pub ascend_on : (least : ℕ) (lines : List Line) (number : ℕ) → AreCuts least lines → AreCuts number (from_root number lines)
ascend_on least [] number h = tt
ascend_on least (l ∷ ls) number h = by (nat_le number l.root) refl (ascend_on (l.root + 1) ls number h.2)
  where
    by : (b : Bool) → nat_le number l.root ≡ b → AreCuts number (from_root number ls) → AreCuts number (if b then l ∷ ls else from_root number ls)
    by true e rest = (le_is number l.root e, h.1, h.2)
    by false e rest = rest

-- they have the lines of all nodes from there on
pub same_line : (lines : List Line) (number node : ℕ) → number ≤ node → line_of (from_root number lines) node ≡ line_of lines node
same_line [] number node le = refl
same_line (l ∷ ls) number node le = by (nat_le number l.root) refl (same_line ls number node le)
  where
    by : (b : Bool) → nat_le number l.root ≡ b → line_of (from_root number ls) node ≡ line_of ls node → line_of (if b then l ∷ ls else from_root number ls) node ≡ line_of (l ∷ ls) node
    by true e rest = refl
    by false e rest =
        rest ∙ sym (ap (λ (b : Bool). if b then Some l else line_of ls node) (eq_below l.root node (omega (arith, le, le_not number l.root e))))

-- Lines that are left at a node: they ascend, and have the lines of all nodes from there on.
pub record AreLeft (lines rest : List Line) (node : ℕ) : Type 0 where
  pub least : ℕ
  pub ascend : AreCuts least rest
  pub same : (later : ℕ) → node ≤ later → line_of rest later ≡ line_of lines later

pub all_left : (lines : List Line) (node : ℕ) → AreCuts 0 lines → AreLeft lines lines node
all_left lines node h = record { least = 0; ascend = h; same = λ later le. refl }

pub left_from : (lines rest : List Line) (node number : ℕ) → node ≤ number → AreLeft lines rest node → AreLeft lines (from_root node rest) number
left_from lines rest node number le h = record {
  least = node;
  ascend = ascend_on h.least rest node h.ascend;
  same = λ later more. same_line rest node later (omega (arith, le, more)) ∙ h.same later (omega (arith, le, more));
}

-- a gate gives the same where its line is the same
pub same_gate : (lines rest : List Line) (m : Assembled) (g : Gate) → line_of rest (length m.nets) ≡ line_of lines (length m.nets) → with_gate rest m g ≡ with_gate lines m g
same_gate lines rest m (gate.And a b) e = ap (with_root m) e
same_gate lines rest m (gate.Xor a b) e = ap (with_root m) e
same_gate lines rest m (gate.Carry a b c) e = refl

-- nothing takes a node away
inverter_nodes : (m : Assembled) (literal : ℕ) → (with_inverter m literal).nets ≡ m.nets
inverter_nodes m literal =
    elim (is_inverted literal) as (λ b. (if b then record { nets = m.nets; cells = m.cells ++ stored.Lut (slice_index m.nets (literal / 2) ∷ []) 1 ∷ []; next = m.next + 1 } else m).nets ≡ m.nets) [ true ↦ refl | false ↦ refl ]

pub gate_nodes : (lines : List Line) (m : Assembled) (g : Gate) → length m.nets ≤ length (with_gate lines m g).nets
gate_nodes lines m (gate.And a b) = root (line_of lines (length m.nets))
  where
    root : (o : Option Line) → length m.nets ≤ length (with_root m o).nets
    root None = omega (arith, length-append m.nets (0 ∷ []))
    root (Some l) = omega (arith, length-append m.nets (m.next ∷ []))
gate_nodes lines m (gate.Xor a b) = root (line_of lines (length m.nets))
  where
    root : (o : Option Line) → length m.nets ≤ length (with_root m o).nets
    root None = omega (arith, length-append m.nets (0 ∷ []))
    root (Some l) = omega (arith, length-append m.nets (m.next ∷ []))
gate_nodes lines m (gate.Carry a b c) =
    let one = with_inverter m a in
    let two = with_inverter one b in
    let three = with_inverter two c in
    let same : three.nets ≡ m.nets = inverter_nodes two c ∙ inverter_nodes one b ∙ inverter_nodes m a in
    omega (arith, length-append three.nets (three.next ∷ (three.next + 1) ∷ []), ap length same)

-- the line that is met at a node
pub line_met : (lines : List Line) (node at : ℕ) (met : Option Line) → met ≡ first_line lines node → node ≡ at → AreCuts at lines → met ≡ line_of lines at
line_met lines node at met e same h = e ∙ ap (first_line lines) same ∙ first_found lines at h

pub left_ascends : (lines rest next : List Line) (node at : ℕ) → next ≡ from_root node rest → node ≡ at → AreLeft lines rest at → AreCuts at next
left_ascends lines rest next node at e same h = subst (AreCuts at) (sym (e ∙ ap (λ k. from_root k rest) same)) (ascend_on h.least rest at h.ascend)

-- one gate more
pub left_next : (lines rest next : List Line) (m after : Assembled) (gs : List Gate) (i : ℕ) (d : Gate) (node : ℕ) → next ≡ from_root node rest → node ≡ length m.nets → after ≡ with_gate next m (get_or gs i d) → AreLeft lines rest (length m.nets) → AreLeft lines next (length after.nets)
left_next lines rest next m after gs i d node e same made h =
    let grown : length m.nets ≤ length after.nets = subst (λ (k : Assembled). length m.nets ≤ length k.nets) (sym made) (gate_nodes next m (get_or gs i d)) in
    subst (λ ls. AreLeft lines ls (length after.nets)) (sym (e ∙ ap (λ k. from_root k rest) same)) (left_from lines rest (length m.nets) (length after.nets) grown h)

pub gates_next : (lines rest next : List Line) (m after end : Assembled) (gs : List Gate) (i : ℕ) (d : Gate) (node : ℕ) → i < length gs → next ≡ from_root node rest → node ≡ length m.nets → AreLeft lines rest (length m.nets)
    → after ≡ with_gate next m (get_or gs i d) → with_gates lines m (drop i gs) ≡ end → with_gates lines after (drop (i + 1) gs) ≡ end
gates_next lines rest next m after end gs i d node within e same left made h =
    let at = length m.nets in
    let line : line_of next at ≡ line_of lines at =
    ap (λ ls. line_of ls at) (e ∙ ap (λ k. from_root k rest) same) ∙ same_line rest at at (omega arith) ∙ left.same at (omega arith) in
    let split : drop i gs ≡ get_or gs i d ∷ drop (i + 1) gs = drop-cons gs i d within ∙ rw (add-one i) refl in
    ap (λ (k : Assembled). with_gates lines k (drop (i + 1) gs)) (made ∙ same_gate lines next m (get_or gs i d) line) ∙ sym (ap (with_gates lines m) split) ∙ h

-- all holds where nothing is broken
sound : (check : Check) (place : Option ℕ) (later : Verdict) → judged check place later ≡ Valid → place ≡ None
sound check None later e = refl
sound check (Some place) later e = cc

behind : (check : Check) (place : Option ℕ) (later : Verdict) → judged check place later ≡ Valid → later ≡ Valid
behind check None later e = e
behind check (Some place) later e = cc

first_holds : (place : ℕ) (a : Bool) (more : List Bool) → first_broken place (a ∷ more) ≡ None → (a ≡ true) × (first_broken (place + 1) more ≡ None)
first_holds place true more e = (refl, e)
first_holds place false more e = absurd (cc)

both_first : (a b : Bool) → (a && b) ≡ true → a ≡ true
both_first true b e = refl
both_first false b e = cc

-- each line has its root behind those before it, and few leaves
lines_cut : (nodes : List Node) (least place other most : ℕ) (roots : List ℕ) (lines : List Line) → most ≤ most_leaves → first_broken place (roots_hold nodes least lines) ≡ None → first_broken other (leaves_hold nodes most roots lines) ≡ None
    → AreCuts least lines
lines_cut nodes least place other most roots [] few e f = tt
lines_cut nodes least place other most roots (l ∷ ls) few e f =
    let here = first_holds place (nat_le least l.root && is_gate (node_at nodes l.root)) (roots_hold nodes (l.root + 1) ls) e in
    let there = first_holds other (has_leaves nodes most roots l) (leaves_hold nodes most (roots ++ l.root ∷ []) ls) f in
    let count : length l.leaves ≤ most = le_is (length l.leaves) most (both_first (nat_le (length l.leaves) most) _ (both_first (nat_le (length l.leaves) most && increase 0 l.leaves l.root) _ there.0)) in
    (le_is least l.root (both_first (nat_le least l.root) (is_gate (node_at nodes l.root)) here.0), omega (arith, count, few), lines_cut nodes (l.root + 1) (place + 1) (other + 1) most (roots ++ l.root ∷ []) ls few here.1 there.1)

-- the lines of a valid proposal
pub valid_cuts : (n : NetworkValue) (lines : List Line) (most : ℕ) → most ≤ most_leaves → verdict n lines most ≡ Valid → AreCuts 0 lines
valid_cuts n lines most few e = lines_cut (nodes_of n) 0 1 1 most [] lines few (sound V1 _ _ e) (sound V2 _ _ (behind V1 _ _ e))
