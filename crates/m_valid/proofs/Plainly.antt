-- The plain mapping is valid: its lines have the gates in order, the nodes that a gate reads as leaves, and its values.
use Rattle.std.proofs.Common.{◌≡◌, ◌≢◌, ◌<◌, ◌≤◌, ◌+◌, ◌-◌, ◌*◌, ◌/◌, ◌%◌, ◌^◌, ◌==◌, ◌&&◌, ◌||◌, ◌⊎◌, ℕ, zero, suc, min, max, List, [], ◌∷◌, ◌++◌, length, Bool, true, false, not, Option, None, Some, if◌then◌else◌, nat_le, refl, ap, sym, subst, ◌∙◌, arith, add-one, inl, inr}
use mathlib.Core.Bool.{xor}
use Rattle.std.specs.Int.{bit_at}
use Rattle.std.proofs.lemmas.Bool.Decides.{eqb_tells}
use Rattle.std.proofs.Math.Nat.{pow-suc}
use Rattle.std.proofs.lemmas.Nat.Bits.{bit_at_cat_low, bit_at_cat_high, bit_at_above}
use Rattle.n_cells.specs.Run.{table_bit}
use Rattle.g_net.specs.Network.{NetworkValue}
use Rattle.m_valid.specs.declared.nodes.Node.{Node}
use Rattle.m_valid.specs.declared.nodes.Node.TheVariants.{Constant, Source, And, Xor}
use Rattle.m_valid.specs.declared.verdict.Check.TheVariants.{V1, V2, V3, V4, V5}
use Rattle.m_valid.specs.declared.verdict.Verdict.TheVariants.{Valid}
use Rattle.m_valid.specs.Nodes.{nodes_of, node_at, is_gate, is_source, ReadsBefore, AllReadBefore}
use Rattle.m_valid.specs.Plain.{but_constant, ascending, table_from, leaf_bit, gate_line, plain_lines, plain_of}
use Rattle.m_valid.specs.Validity.{first_broken, judged, roots_hold, leaves_hold, has_leaves, may_be_leaves, increase, is_among, is_met, roots_of, is_covered, has_table, cones_hold, tables_hold, root_value, needs_hold, uses_of, verdict, ends_in, steps_from, goes_down, cone_value, operation, literal_of, assigned, or_else}
use Rattle.m_valid.proofs.Bits.{agree_from}
use Rattle.m_valid.proofs.Downwards.{ends, value, ends_here, value_here, none_assigned}
use Rattle.m_valid.proofs.Flagging.{among_more}
use Rattle.m_valid.proofs.Judging.{holds_at}
use Rattle.m_valid.proofs.Lists.{eq_true, eq_false, le_true}
use Rattle.m_valid.proofs.Numbering.{gate_within, not_constant}

or_true : (b : Bool) → (b || true) ≡ true
or_true true = refl
or_true false = refl

or_left : (a b : Bool) → a ≡ true → (a || b) ≡ true
or_left a b e = ap (λ t. t || b) e

or_right : (a b : Bool) → b ≡ true → (a || b) ≡ true
or_right a b e = ap (λ t. a || t) e ∙ or_true a

or_cases : (a b : Bool) → (a || b) ≡ true → (a ≡ true) ⊎ (b ≡ true)
or_cases true b e = inl refl
or_cases false b e = inr e

both_true : (a b : Bool) → a ≡ true → b ≡ true → (a && b) ≡ true
both_true a b e f = ap (λ t. t && b) e ∙ f

pub is_false : (b : Bool) → (b ≡ true → ⊥) → b ≡ false
is_false true f = absurd (f refl)
is_false false f = refl

not_both : (b : Bool) → b ≡ true → b ≡ false → ⊥
not_both true e f = cc
not_both false e f = cc

eq_is : (a b : ℕ) → (a == b) ≡ true → a ≡ b
eq_is a b e = elim (eqb_tells a b) [
  | inl t ↦ t.1
  | inr t ↦ absurd (not_both (a == b) e t.0)
]

less_or : (x y : ℕ) → (x < y) ⊎ (y ≤ x)
less_or x zero = inr (omega arith)
less_or zero (suc y) = inl (omega arith)
less_or (suc x) (suc y) = elim (less_or x y) [ inl h ↦ inl (omega (arith, h)) | inr h ↦ inr (omega (arith, h)) ]

-- What the leaves of a gate over two nodes are.
pub record AreLeaves (leaves : List ℕ) (x y root : ℕ) : Type 0 where
  pub few : length leaves ≤ 2
  pub rise : increase 0 leaves root ≡ true
  pub leaf : (k : ℕ) → is_among k leaves ≡ true → ((k ≡ x) ⊎ (k ≡ y)) × (0 < k)
  pub first : (x ≡ 0) ⊎ (is_among x leaves ≡ true)
  pub second : (y ≡ 0) ⊎ (is_among y leaves ≡ true)

swapped : (leaves : List ℕ) (x y root : ℕ) → AreLeaves leaves y x root → AreLeaves leaves x y root
swapped leaves x y root h = record {
  few = h.few;
  rise = h.rise;
  leaf = λ k e. (elim (h.leaf k e).0 [ inl at ↦ inr at | inr at ↦ inl at ], (h.leaf k e).1);
  first = h.second;
  second = h.first;
}

no_leaves : (x y root : ℕ) → x ≡ 0 → y ≡ 0 → AreLeaves [] x y root
no_leaves x y root e f = record {
  few = omega arith;
  rise = le_true 0 root (omega arith);
  leaf = λ k h. cc;
  first = inl e;
  second = inl f;
}

-- the second node is the leaf, and the first too or the constant
one_leaf : (x y root : ℕ) → (x ≡ 0) ⊎ (x ≡ y) → 0 < y → y < root → AreLeaves (y ∷ []) x y root
one_leaf x y root e some lt =
    let here : is_among y (y ∷ []) ≡ true = or_left (y == y) false (eq_true y y refl) in
    record {
      few = omega arith;
      rise = both_true (nat_le 0 y) (nat_le (y + 1) root) (le_true 0 y (omega arith)) (le_true (y + 1) root (omega arith));
      leaf = λ k h.
          let at : y ≡ k = elim (or_cases (y == k) false h) [ inl t ↦ eq_is y k t | inr t ↦ cc ] in
          (inr (sym at), omega (arith, at));
      first = elim e [ inl at ↦ inl at | inr at ↦ inr (ap (λ k. is_among k (y ∷ [])) at ∙ here) ];
      second = inr here;
    }

two_leaves : (x y root : ℕ) → 0 < x → x < y → y < root → AreLeaves (x ∷ y ∷ []) x y root
two_leaves x y root some less lt = record {
  few = omega arith;
  rise = both_true (nat_le 0 x) (nat_le (x + 1) y && nat_le (y + 1) root) (le_true 0 x (omega arith))
      (both_true (nat_le (x + 1) y) (nat_le (y + 1) root) (le_true (x + 1) y (omega arith)) (le_true (y + 1) root (omega arith)));
  leaf = λ k h. elim (or_cases (x == k) ((y == k) || false) h) [
    | inl t ↦ let at : x ≡ k = eq_is x k t in (inl (sym at), omega (arith, at))
    | inr t ↦ (elim (or_cases (y == k) false t) [
      | inl u ↦ let at : y ≡ k = eq_is y k u in (inr (sym at), omega (arith, at))
      | inr u ↦ cc
    ])
  ];
  first = inr (or_left (x == x) ((y == x) || false) (eq_true x x refl));
  second = inr (or_right (x == y) ((y == y) || false) (or_left (y == y) false (eq_true y y refl)));
}

none_constant : (n : ℕ) → n ≡ 0 → but_constant n ≡ []
none_constant n e = ap (λ (t : Bool). if t then [] else n ∷ []) (eq_true n 0 e)

some_constant : (n : ℕ) → 0 < n → but_constant n ≡ n ∷ []
some_constant n h = ap (λ (t : Bool). if t then [] else n ∷ []) (eq_false n 0 (λ e. omega (arith, e)))

parts : (x y : ℕ) (low high : List ℕ) → but_constant (min x y) ≡ low → (if x == y then [] else but_constant (max x y)) ≡ high → ascending x y ≡ low ++ high
parts x y low high e f = ap (λ l. l ++ (if x == y then [] else but_constant (max x y))) e ∙ ap (λ l. low ++ l) f

last_part : (x y : ℕ) (high : List ℕ) → x ≢ y → but_constant (max x y) ≡ high → (if x == y then [] else but_constant (max x y)) ≡ high
last_part x y high other e = ap (λ (t : Bool). if t then [] else but_constant (max x y)) (eq_false x y other) ∙ e

no_part : (x y : ℕ) → x ≡ y → (if x == y then [] else but_constant (max x y)) ≡ []
no_part x y e = ap (λ (t : Bool). if t then [] else but_constant (max x y)) (eq_true x y e)

at_most : (n m : ℕ) → n ≡ m → but_constant n ≡ but_constant m
at_most n m e = ap but_constant e

less_leaves : (x y root : ℕ) → x < y → y < root → AreLeaves (ascending x y) x y root
less_leaves x y root less lt =
    let low : min x y ≡ x = omega arith in
    let high : max x y ≡ y = omega arith in
    let last : (if x == y then [] else but_constant (max x y)) ≡ y ∷ [] = last_part x y (y ∷ []) (λ e. omega (arith, e, less)) (ap but_constant high ∙ some_constant y (omega arith)) in
    elim (eqb_tells x 0) [
      | inl e ↦ subst (λ l. AreLeaves l x y root) (sym (parts x y [] (y ∷ []) (ap but_constant low ∙ none_constant x e.1) last)) (one_leaf x y root (inl e.1) (omega arith) lt)
      | inr e ↦
          let some : 0 < x = omega (arith, e.1) in
          subst (λ l. AreLeaves l x y root) (sym (parts x y (x ∷ []) (y ∷ []) (ap but_constant low ∙ some_constant x some) last)) (two_leaves x y root some less lt)
    ]

same_leaves : (x y root : ℕ) → x ≡ y → y < root → AreLeaves (ascending x y) x y root
same_leaves x y root at lt =
    let low : min x y ≡ y = omega (arith, at) in
    elim (eqb_tells y 0) [
      | inl e ↦ subst (λ l. AreLeaves l x y root) (sym (parts x y [] [] (ap but_constant low ∙ none_constant y e.1) (no_part x y at))) (no_leaves x y root (at ∙ e.1) e.1)
      | inr e ↦
          let some : 0 < y = omega (arith, e.1) in
          subst (λ l. AreLeaves l x y root) (sym (parts x y (y ∷ []) [] (ap but_constant low ∙ some_constant y some) (no_part x y at))) (one_leaf x y root (inr at) some lt)
    ]

mirrored : (x y : ℕ) → x ≢ y → ascending x y ≡ ascending y x
mirrored x y other =
    let low : min x y ≡ min y x = omega arith in
    let high : max x y ≡ max y x = omega arith in
    parts x y (but_constant (min y x)) (but_constant (max y x)) (ap but_constant low) (last_part x y (but_constant (max y x)) other (ap but_constant high))
    ∙ sym (parts y x (but_constant (min y x)) (but_constant (max y x)) refl (last_part y x (but_constant (max y x)) (λ e. other (sym e)) refl))

pub are_leaves : (x y root : ℕ) → x < root → y < root → AreLeaves (ascending x y) x y root
are_leaves x y root below lt = elim (less_or x y) [
  | inl less ↦ less_leaves x y root less lt
  | inr more ↦ (elim (eqb_tells x y) [
    | inl e ↦ same_leaves x y root e.1 lt
    | inr e ↦
        let less : y < x = omega (arith, more, e.1) in
        subst (λ l. AreLeaves l x y root) (sym (mirrored x y e.1)) (swapped (ascending y x) x y root (less_leaves y x root less below))
  ])
]

-- the nodes from a number on
abbrev pub Suffix : List Node → ℕ → List Node → Type 0
Suffix nodes number xs = (k : ℕ) → node_at nodes (number + k) ≡ node_at xs k

next : (nodes : List Node) (number : ℕ) (x : Node) (xs : List Node) → Suffix nodes number (x ∷ xs) → Suffix nodes (number + 1) xs
next nodes number x xs s k = let at : number + 1 + k ≡ number + suc k = omega arith in ap (node_at nodes) at ∙ s (suc k)

this : (nodes : List Node) (number : ℕ) (x : Node) (xs : List Node) → Suffix nodes number (x ∷ xs) → node_at nodes number ≡ x
this nodes number x xs s = let at : number ≡ number + 0 = omega arith in ap (node_at nodes) at ∙ s 0

-- V1
root_fine : (nodes : List Node) (number least : ℕ) (x : Node) → node_at nodes number ≡ x → is_gate x ≡ true → least ≤ number → (nat_le least number && is_gate (node_at nodes number)) ≡ true
root_fine nodes number least x at gate le = both_true (nat_le least number) (is_gate (node_at nodes number)) (le_true least number le) (ap is_gate at ∙ gate)

roots_fine : (nodes xs : List Node) (number least place : ℕ) → Suffix nodes number xs → least ≤ number → first_broken place (roots_hold nodes least (plain_lines number xs)) ≡ None
roots_fine nodes [] number least place s le = refl
roots_fine nodes (Constant ∷ xs) number least place s le = roots_fine nodes xs (number + 1) least place (next nodes number Constant xs s) (omega arith)
roots_fine nodes (Source ∷ xs) number least place s le = roots_fine nodes xs (number + 1) least place (next nodes number Source xs s) (omega arith)
roots_fine nodes (And a b ∷ xs) number least place s le =
    holds_at place (nat_le least number && is_gate (node_at nodes number)) (roots_hold nodes (number + 1) (plain_lines (number + 1) xs)) (root_fine nodes number least (And a b) (this nodes number (And a b) xs s) refl le)
    ∙ roots_fine nodes xs (number + 1) (number + 1) (place + 1) (next nodes number (And a b) xs s) (omega arith)
roots_fine nodes (Xor a b ∷ xs) number least place s le =
    holds_at place (nat_le least number && is_gate (node_at nodes number)) (roots_hold nodes (number + 1) (plain_lines (number + 1) xs)) (root_fine nodes number least (Xor a b) (this nodes number (Xor a b) xs s) refl le)
    ∙ roots_fine nodes xs (number + 1) (number + 1) (place + 1) (next nodes number (Xor a b) xs s) (omega arith)

-- V2
abbrev Rooted : List Node → ℕ → List ℕ → Type 0
Rooted nodes number roots = (k : ℕ) → k < number → is_gate (node_at nodes k) ≡ true → is_among k roots ≡ true

rooted_on : (nodes : List Node) (number : ℕ) (roots : List ℕ) → Rooted nodes number roots → Rooted nodes (number + 1) (roots ++ number ∷ [])
rooted_on nodes number roots h k lt gate =
    among_more k roots number ∙ (elim (eqb_tells number k) [
      | inl e ↦ or_right (is_among k roots) (number == k) e.0
      | inr e ↦ or_left (is_among k roots) (number == k) (h k (omega (arith, e.1)) gate)
    ])

rooted_past : (nodes : List Node) (number : ℕ) (roots : List ℕ) → is_gate (node_at nodes number) ≡ false → Rooted nodes number roots → Rooted nodes (number + 1) roots
rooted_past nodes number roots none h k lt gate = elim (eqb_tells number k) [
  | inl e ↦ absurd (not_both (is_gate (node_at nodes k)) gate (ap (λ m. is_gate (node_at nodes m)) (sym e.1) ∙ none))
  | inr e ↦ h k (omega (arith, e.1)) gate
]

kinds : (x : Node) → (x ≡ Constant → ⊥) → (is_source x ≡ true) ⊎ (is_gate x ≡ true)
kinds Constant h = absurd (h refl)
kinds Source h = inl refl
kinds (And a b) h = inr refl
kinds (Xor a b) h = inr refl

all_may : (nodes : List Node) (roots leaves : List ℕ) → ((k : ℕ) → is_among k leaves ≡ true → (is_source (node_at nodes k) || is_among k roots) ≡ true) → may_be_leaves nodes roots leaves ≡ true
all_may nodes roots [] h = refl
all_may nodes roots (l ∷ ls) h =
    both_true (is_source (node_at nodes l) || is_among l roots) (may_be_leaves nodes roots ls) (h l (or_left (l == l) (is_among l ls) (eq_true l l refl)))
    (all_may nodes roots ls (λ k e. h k (or_right (l == k) (is_among k ls) e)))

leaves_fit : (n : NetworkValue) (roots : List ℕ) (number x y : ℕ) (gate : Node) → number < length (nodes_of n) → x < number → y < number → Rooted (nodes_of n) number roots
    → has_leaves (nodes_of n) 6 roots (gate_line number (ascending x y) gate) ≡ true
leaves_fit n roots number x y gate within first second rooted =
    let h = are_leaves x y number first second in
    let leaves = ascending x y in
    both_true (nat_le (length leaves) 6 && increase 0 leaves number) (may_be_leaves (nodes_of n) roots leaves)
    (both_true (nat_le (length leaves) 6) (increase 0 leaves number) (le_true (length leaves) 6 (omega (arith, h.few))) h.rise)
    (all_may (nodes_of n) roots leaves (λ k e.
    let below : k < number = elim (h.leaf k e).0 [ inl at ↦ omega (arith, at, first) | inr at ↦ omega (arith, at, second) ] in
    elim (kinds (node_at (nodes_of n) k) (not_constant n k (h.leaf k e).1 (omega (arith, below, within)))) [
      | inl s ↦ or_left (is_source (node_at (nodes_of n) k)) (is_among k roots) s
      | inr g ↦ or_right (is_source (node_at (nodes_of n) k)) (is_among k roots) (rooted k below g)
    ]))

within : (nodes : List Node) (number : ℕ) (x : Node) → node_at nodes number ≡ x → is_gate x ≡ true → number < length nodes
within nodes number x at gate = gate_within nodes number (ap is_gate at ∙ gate)

leaves_fine : (n : NetworkValue) (xs : List Node) (number place : ℕ) (roots : List ℕ) → AllReadBefore (nodes_of n) → Suffix (nodes_of n) number xs → Rooted (nodes_of n) number roots
    → first_broken place (leaves_hold (nodes_of n) 6 roots (plain_lines number xs)) ≡ None
leaves_fine n [] number place roots r s h = refl
leaves_fine n (Constant ∷ xs) number place roots r s h =
    leaves_fine n xs (number + 1) place roots r (next (nodes_of n) number Constant xs s) (rooted_past (nodes_of n) number roots (ap is_gate (this (nodes_of n) number Constant xs s)) h)
leaves_fine n (Source ∷ xs) number place roots r s h =
    leaves_fine n xs (number + 1) place roots r (next (nodes_of n) number Source xs s) (rooted_past (nodes_of n) number roots (ap is_gate (this (nodes_of n) number Source xs s)) h)
leaves_fine n (And a b ∷ xs) number place roots r s h =
    let at = this (nodes_of n) number (And a b) xs s in
    let reads : ReadsBefore number (And a b) = subst (ReadsBefore number) at (r number) in
    holds_at place (has_leaves (nodes_of n) 6 roots (gate_line number (ascending (a / 2) (b / 2)) (And a b))) (leaves_hold (nodes_of n) 6 (roots ++ number ∷ []) (plain_lines (number + 1) xs))
    (leaves_fit n roots number (a / 2) (b / 2) (And a b) (within (nodes_of n) number (And a b) at refl) reads.0 reads.1 h)
    ∙ leaves_fine n xs (number + 1) (place + 1) (roots ++ number ∷ []) r (next (nodes_of n) number (And a b) xs s) (rooted_on (nodes_of n) number roots h)
leaves_fine n (Xor a b ∷ xs) number place roots r s h =
    let at = this (nodes_of n) number (Xor a b) xs s in
    let reads : ReadsBefore number (Xor a b) = subst (ReadsBefore number) at (r number) in
    holds_at place (has_leaves (nodes_of n) 6 roots (gate_line number (ascending (a / 2) (b / 2)) (Xor a b))) (leaves_hold (nodes_of n) 6 (roots ++ number ∷ []) (plain_lines (number + 1) xs))
    (leaves_fit n roots number (a / 2) (b / 2) (Xor a b) (within (nodes_of n) number (Xor a b) at refl) reads.0 reads.1 h)
    ∙ leaves_fine n xs (number + 1) (place + 1) (roots ++ number ∷ []) r (next (nodes_of n) number (Xor a b) xs s) (rooted_on (nodes_of n) number roots h)

-- V3
constant_ends : (nodes : List Node) (leaves : List ℕ) → AllReadBefore nodes → node_at nodes 0 ≡ Constant → ends nodes leaves 0 ≡ true
constant_ends nodes leaves r at = ends_here nodes leaves 0 r ∙ or_right (is_among 0 leaves) (goes_down (ends nodes leaves) (node_at nodes 0)) (ap (goes_down (ends nodes leaves)) at)

operand_ends : (nodes : List Node) (leaves : List ℕ) (x : ℕ) → AllReadBefore nodes → node_at nodes 0 ≡ Constant → (x ≡ 0) ⊎ (is_among x leaves ≡ true) → ends nodes leaves x ≡ true
operand_ends nodes leaves x r at h = elim h [
  | inl zeroth ↦ ap (ends nodes leaves) zeroth ∙ constant_ends nodes leaves r at
  | inr leaf ↦ ends_here nodes leaves x r ∙ or_left (is_among x leaves) (goes_down (ends nodes leaves) (node_at nodes x)) leaf
]

root_ends : (nodes : List Node) (leaves : List ℕ) (number x y : ℕ) → AllReadBefore nodes → node_at nodes 0 ≡ Constant → AreLeaves leaves x y number
    → goes_down (ends nodes leaves) (node_at nodes number) ≡ (ends nodes leaves x && ends nodes leaves y) → ends_in nodes leaves (steps_from number) number ≡ true
root_ends nodes leaves number x y r zeroth h at =
    ends_here nodes leaves number r
    ∙ or_right (is_among number leaves) (goes_down (ends nodes leaves) (node_at nodes number))
    (at ∙ both_true (ends nodes leaves x) (ends nodes leaves y) (operand_ends nodes leaves x r zeroth h.first) (operand_ends nodes leaves y r zeroth h.second))

cones_fine : (nodes xs : List Node) (number place : ℕ) → AllReadBefore nodes → node_at nodes 0 ≡ Constant → Suffix nodes number xs → first_broken place (cones_hold nodes (plain_lines number xs)) ≡ None
cones_fine nodes [] number place r zeroth s = refl
cones_fine nodes (Constant ∷ xs) number place r zeroth s = cones_fine nodes xs (number + 1) place r zeroth (next nodes number Constant xs s)
cones_fine nodes (Source ∷ xs) number place r zeroth s = cones_fine nodes xs (number + 1) place r zeroth (next nodes number Source xs s)
cones_fine nodes (And a b ∷ xs) number place r zeroth s =
    let at = this nodes number (And a b) xs s in
    let reads : ReadsBefore number (And a b) = subst (ReadsBefore number) at (r number) in
    let leaves = ascending (a / 2) (b / 2) in
    holds_at place (is_covered nodes (gate_line number leaves (And a b))) (cones_hold nodes (plain_lines (number + 1) xs))
    (root_ends nodes leaves number (a / 2) (b / 2) r zeroth (are_leaves (a / 2) (b / 2) number reads.0 reads.1) (ap (goes_down (ends nodes leaves)) at))
    ∙ cones_fine nodes xs (number + 1) (place + 1) r zeroth (next nodes number (And a b) xs s)
cones_fine nodes (Xor a b ∷ xs) number place r zeroth s =
    let at = this nodes number (Xor a b) xs s in
    let reads : ReadsBefore number (Xor a b) = subst (ReadsBefore number) at (r number) in
    let leaves = ascending (a / 2) (b / 2) in
    holds_at place (is_covered nodes (gate_line number leaves (Xor a b))) (cones_hold nodes (plain_lines (number + 1) xs))
    (root_ends nodes leaves number (a / 2) (b / 2) r zeroth (are_leaves (a / 2) (b / 2) number reads.0 reads.1) (ap (goes_down (ends nodes leaves)) at))
    ∙ cones_fine nodes xs (number + 1) (place + 1) r zeroth (next nodes number (Xor a b) xs s)

-- V4
one_more : (t n : ℕ) (b : Bool) → t < 2 ^ n → t + (if b then 2 ^ n else 0) < 2 ^ suc n
one_more t n true small = omega (arith, pow-suc 2 n)
one_more t n false small = omega (arith, pow-suc 2 n)

pub table_small : (n : ℕ) (f : ℕ → Bool) → table_from n f < 2 ^ n
unfolding table_from
table_small zero f = omega arith
table_small (suc n) f = one_more (table_from n f) n (f n) (table_small n f)

low_kept : (t n i : ℕ) (b : Bool) → i < n → table_bit (t + (if b then 2 ^ n else 0)) i ≡ table_bit t i
low_kept t n i true lt = let at : t + 2 ^ n ≡ 1 * 2 ^ n + t = omega arith in ap (λ x. table_bit x i) at ∙ ap (λ x. x == 1) (bit_at_cat_low 1 n t i lt)
low_kept t n i false lt = let at : t + 0 ≡ t = omega arith in ap (λ x. table_bit x i) at

top_set : (t n : ℕ) (b : Bool) → t < 2 ^ n → table_bit (t + (if b then 2 ^ n else 0)) n ≡ b
top_set t n true small =
    let at : t + 2 ^ n ≡ 1 * 2 ^ n + t = omega arith in
    let same : n - n ≡ 0 = omega arith in
    ap (λ x. table_bit x n) at ∙ ap (λ x. x == 1) (bit_at_cat_high 1 n t n small (omega arith) ∙ ap (bit_at 1) same)
top_set t n false small = let at : t + 0 ≡ t = omega arith in ap (λ x. table_bit x n) at ∙ ap (λ x. x == 1) (bit_at_above t n n small (omega arith))

table_bits : (n : ℕ) (f : ℕ → Bool) (i : ℕ) → i < n → table_bit (table_from n f) i ≡ f i
unfolding table_from
table_bits zero f i lt = absurd (omega arith)
table_bits (suc n) f i lt = elim (eqb_tells i n) [
  | inl e ↦ ap (table_bit (table_from (suc n) f)) e.1 ∙ top_set (table_from n f) n (f n) (table_small n f) ∙ ap f (sym e.1)
  | inr e ↦ let below : i < n = omega (arith, lt, e.1) in low_kept (table_from n f) n i (f n) below ∙ table_bits n f i below
]

-- the operands of a gate have their bits
option_kind : (o : Option Bool) (x y : Bool) → (o ≡ None → x ≡ y) → or_else o x ≡ or_else o y
option_kind None x y h = h refl
option_kind (Some b) x y h = refl

pub leaf_assigned : (leaves : List ℕ) (assignment k : ℕ) → is_among k leaves ≡ true → assigned leaves assignment k ≡ None → ⊥
leaf_assigned [] assignment k e none = cc
leaf_assigned (l ∷ ls) assignment k e none = step (l == k) (is_among k ls) (assigned ls (assignment / 2) k) e none (leaf_assigned ls (assignment / 2) k)
  where
    step : (t more : Bool) (rest : Option Bool) → (t || more) ≡ true → (if t then Some (assignment % 2 == 1) else rest) ≡ None → (more ≡ true → rest ≡ None → ⊥) → ⊥
    step true more rest e none h = cc
    step false more rest e none h = h e none

operand_bit : (nodes : List Node) (leaves : List ℕ) (i x : ℕ) → AllReadBefore nodes → node_at nodes 0 ≡ Constant → (x ≡ 0) ⊎ (is_among x leaves ≡ true) → value nodes (assigned leaves i) x ≡ leaf_bit leaves i x
operand_bit nodes leaves i x r zeroth h =
    value_here nodes (assigned leaves i) x r ∙ option_kind (assigned leaves i x) (operation (value nodes (assigned leaves i)) (node_at nodes x)) false (λ none. elim h [
      | inl at ↦ ap (λ k. operation (value nodes (assigned leaves i)) (node_at nodes k)) at ∙ ap (operation (value nodes (assigned leaves i))) zeroth
      | inr leaf ↦ absurd (leaf_assigned leaves i x leaf none)
    ])

root_bit : (nodes : List Node) (leaves : List ℕ) (number x y i : ℕ) → AllReadBefore nodes → x < number → y < number → AreLeaves leaves x y number
    → cone_value nodes (assigned leaves i) (steps_from number) number ≡ operation (value nodes (assigned leaves i)) (node_at nodes number)
root_bit nodes leaves number x y i r first second h =
    let free : is_among number leaves ≡ false = is_false (is_among number leaves) (λ e. elim (h.leaf number e).0 [ inl at ↦ omega (arith, at, first) | inr at ↦ omega (arith, at, second) ]) in
    value_here nodes (assigned leaves i) number r ∙ ap (λ o. or_else o (operation (value nodes (assigned leaves i)) (node_at nodes number))) (none_assigned leaves i number free)

and_bits : (f g : ℕ → Bool) (a b : ℕ) → f (a / 2) ≡ g (a / 2) → f (b / 2) ≡ g (b / 2) → operation f (And a b) ≡ operation g (And a b)
and_bits f g a b e h = ap (λ x. xor (a % 2 == 1) x && literal_of f b) e ∙ ap (λ x. literal_of g a && xor (b % 2 == 1) x) h

xor_bits : (f g : ℕ → Bool) (a b : ℕ) → f (a / 2) ≡ g (a / 2) → f (b / 2) ≡ g (b / 2) → operation f (Xor a b) ≡ operation g (Xor a b)
xor_bits f g a b e h = ap (λ x. xor (xor (a % 2 == 1) x) (literal_of f b)) e ∙ ap (λ x. xor (literal_of g a) (xor (b % 2 == 1) x)) h

table_fits : (nodes : List Node) (leaves : List ℕ) (number x y : ℕ) (gate : Node) → AllReadBefore nodes → node_at nodes 0 ≡ Constant → node_at nodes number ≡ gate → x < number → y < number → AreLeaves leaves x y number
    → ((f g : ℕ → Bool) → f x ≡ g x → f y ≡ g y → operation f gate ≡ operation g gate) → has_table nodes (gate_line number leaves gate) ≡ true
table_fits nodes leaves number x y gate r zeroth at first second h alike =
    let f = λ (i : ℕ). operation (leaf_bit leaves i) gate in
    agree_from (2 ^ length leaves) (root_value nodes (gate_line number leaves gate)) (table_bit (table_from (2 ^ length leaves) f)) (λ i lt.
    root_bit nodes leaves number x y i r first second h
    ∙ ap (operation (value nodes (assigned leaves i))) at
    ∙ alike (value nodes (assigned leaves i)) (leaf_bit leaves i) (operand_bit nodes leaves i x r zeroth h.first) (operand_bit nodes leaves i y r zeroth h.second)
    ∙ sym (table_bits (2 ^ length leaves) f i lt))

tables_fine : (nodes xs : List Node) (number place : ℕ) → AllReadBefore nodes → node_at nodes 0 ≡ Constant → Suffix nodes number xs → first_broken place (tables_hold nodes (plain_lines number xs)) ≡ None
tables_fine nodes [] number place r zeroth s = refl
tables_fine nodes (Constant ∷ xs) number place r zeroth s = tables_fine nodes xs (number + 1) place r zeroth (next nodes number Constant xs s)
tables_fine nodes (Source ∷ xs) number place r zeroth s = tables_fine nodes xs (number + 1) place r zeroth (next nodes number Source xs s)
tables_fine nodes (And a b ∷ xs) number place r zeroth s =
    let at = this nodes number (And a b) xs s in
    let reads : ReadsBefore number (And a b) = subst (ReadsBefore number) at (r number) in
    let leaves = ascending (a / 2) (b / 2) in
    holds_at place (has_table nodes (gate_line number leaves (And a b))) (tables_hold nodes (plain_lines (number + 1) xs))
    (table_fits nodes leaves number (a / 2) (b / 2) (And a b) r zeroth at reads.0 reads.1 (are_leaves (a / 2) (b / 2) number reads.0 reads.1) (λ f g e h. and_bits f g a b e h))
    ∙ tables_fine nodes xs (number + 1) (place + 1) r zeroth (next nodes number (And a b) xs s)
tables_fine nodes (Xor a b ∷ xs) number place r zeroth s =
    let at = this nodes number (Xor a b) xs s in
    let reads : ReadsBefore number (Xor a b) = subst (ReadsBefore number) at (r number) in
    let leaves = ascending (a / 2) (b / 2) in
    holds_at place (has_table nodes (gate_line number leaves (Xor a b))) (tables_hold nodes (plain_lines (number + 1) xs))
    (table_fits nodes leaves number (a / 2) (b / 2) (Xor a b) r zeroth at reads.0 reads.1 (are_leaves (a / 2) (b / 2) number reads.0 reads.1) (λ f g e h. xor_bits f g a b e h))
    ∙ tables_fine nodes xs (number + 1) (place + 1) r zeroth (next nodes number (Xor a b) xs s)

-- V5
gate_rooted : (xs : List Node) (number j : ℕ) → is_gate (node_at xs j) ≡ true → is_among (number + j) (roots_of (plain_lines number xs)) ≡ true
gate_rooted [] number j e = cc
gate_rooted (Constant ∷ xs) number zero e = cc
gate_rooted (Source ∷ xs) number zero e = cc
gate_rooted (And a b ∷ xs) number zero e = or_left (number == number + 0) (is_among (number + 0) (roots_of (plain_lines (number + 1) xs))) (eq_true number (number + 0) (omega arith))
gate_rooted (Xor a b ∷ xs) number zero e = or_left (number == number + 0) (is_among (number + 0) (roots_of (plain_lines (number + 1) xs))) (eq_true number (number + 0) (omega arith))
gate_rooted (Constant ∷ xs) number (suc j) e =
    let at : number + suc j ≡ number + 1 + j = omega arith in ap (λ k. is_among k (roots_of (plain_lines (number + 1) xs))) at ∙ gate_rooted xs (number + 1) j e
gate_rooted (Source ∷ xs) number (suc j) e =
    let at : number + suc j ≡ number + 1 + j = omega arith in ap (λ k. is_among k (roots_of (plain_lines (number + 1) xs))) at ∙ gate_rooted xs (number + 1) j e
gate_rooted (And a b ∷ xs) number (suc j) e =
    let at : number + suc j ≡ number + 1 + j = omega arith in
    or_right (number == number + suc j) (is_among (number + suc j) (roots_of (plain_lines (number + 1) xs))) (ap (λ k. is_among k (roots_of (plain_lines (number + 1) xs))) at ∙ gate_rooted xs (number + 1) j e)
gate_rooted (Xor a b ∷ xs) number (suc j) e =
    let at : number + suc j ≡ number + 1 + j = omega arith in
    or_right (number == number + suc j) (is_among (number + suc j) (roots_of (plain_lines (number + 1) xs))) (ap (λ k. is_among k (roots_of (plain_lines (number + 1) xs))) at ∙ gate_rooted xs (number + 1) j e)

met : (gate used rooted : Bool) → (gate ≡ true → rooted ≡ true) → (if gate && used then rooted else true) ≡ true
met true true rooted h = h refl
met true false rooted h = refl
met false used rooted h = refl

needs_fine : (uses roots : List ℕ) (xs : List Node) (number : ℕ) → ((j : ℕ) → is_gate (node_at xs j) ≡ true → is_among (number + j) roots ≡ true) → first_broken number (needs_hold uses roots number xs) ≡ None
needs_fine uses roots [] number h = refl
needs_fine uses roots (x ∷ xs) number h =
    let at : number + 0 ≡ number = omega arith in
    holds_at number (is_met uses roots number x) (needs_hold uses roots (number + 1) xs)
    (met (is_gate x) (is_among number uses) (is_among number roots) (λ e. ap (λ k. is_among k roots) (sym at) ∙ h 0 e))
    ∙ needs_fine uses roots xs (number + 1) (λ j e. let on : number + 1 + j ≡ number + suc j = omega arith in ap (λ k. is_among k roots) on ∙ h (suc j) e)

all_hold : (p q t u v : Option ℕ) → p ≡ None → q ≡ None → t ≡ None → u ≡ None → v ≡ None → judged V1 p (judged V2 q (judged V3 t (judged V4 u (judged V5 v Valid)))) ≡ Valid
all_hold p q t u v e f g h i = rw (e, f, g, h, i) refl

-- all of them
pub plain_valid : (n : NetworkValue) → AllReadBefore (nodes_of n) → verdict n (plain_of n) 6 ≡ Valid
plain_valid n r =
    let nodes = nodes_of n in
    let whole : Suffix nodes 0 nodes = λ k. ap (node_at nodes) (omega arith) in
    let first : first_broken 1 (roots_hold nodes 0 (plain_of n)) ≡ None = roots_fine nodes nodes 0 0 1 whole (omega arith) in
    let second : first_broken 1 (leaves_hold nodes 6 [] (plain_of n)) ≡ None = leaves_fine n nodes 0 1 [] r whole (λ k lt. absurd (omega arith)) in
    let third : first_broken 1 (cones_hold nodes (plain_of n)) ≡ None = cones_fine nodes nodes 0 1 r refl whole in
    let fourth : first_broken 1 (tables_hold nodes (plain_of n)) ≡ None = tables_fine nodes nodes 0 1 r refl whole in
    let fifth : first_broken 0 (needs_hold (uses_of n) (roots_of (plain_of n)) 0 nodes) ≡ None =
    needs_fine (uses_of n) (roots_of (plain_of n)) nodes 0 (λ j e. gate_rooted nodes 0 j e) in
    all_hold _ _ _ _ _ first second third fourth fifth

-- One bit more of a table.
pub table_more : (n : ℕ) (f : ℕ → Bool) → table_from (n + 1) f ≡ table_from n f + (if f n then 2 ^ n else 0)
unfolding table_from
table_more n f = ap (λ k. table_from k f) (add-one n)

pub table_none : (f : ℕ → Bool) → table_from 0 f ≡ 0
unfolding table_from
table_none f = refl

-- the exclusive or of two bits
pub exclusive_true : (b : Bool) → not b ≡ xor true b
unfolding xor
exclusive_true true = refl
exclusive_true false = refl

pub exclusive_false : (b : Bool) → b ≡ xor false b
unfolding xor
exclusive_false true = refl
exclusive_false false = refl
