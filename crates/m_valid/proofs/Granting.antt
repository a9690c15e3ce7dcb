-- What a valid proposal grants: each line's ways and table, and that every node that is used has a net.
use Rattle.std.proofs.Common.{◌≡◌, ◌<◌, ◌≤◌, ◌+◌, ◌==◌, ◌&&◌, ◌||◌, ◌⊎◌, ℕ, zero, suc, List, [], ◌∷◌, ◌++◌, length, map, Bool, true, false, not, nat_le, Option, None, Some, if◌then◌else◌, refl, ap, sym, subst, ◌∙◌, arith, append_assoc, inl, inr}
use Rattle.std.proofs.lemmas.Bool.Decides.{eqb_tells}
use Rattle.g_net.specs.declared.proposal.Line.{Line}
use Rattle.g_net.specs.Network.{NetworkValue}
use Rattle.m_valid.specs.declared.nodes.Node.{Node}
use Rattle.m_valid.specs.declared.nodes.Node.TheVariants.{Constant, Source, And, Xor}
use Rattle.m_valid.specs.declared.verdict.Check.TheVariants.{V1, V2, V3, V4, V5}
use Rattle.m_valid.specs.declared.verdict.Verdict.TheVariants.{Valid}
use Rattle.m_valid.specs.Nodes.{nodes_of, node_at, is_gate, is_source}
use Rattle.m_valid.specs.Assembly.{line_of}
use Rattle.m_valid.specs.Validity.{first_broken, judged, roots_hold, leaves_hold, has_leaves, may_be_leaves, increase, is_among, is_met, roots_of, is_covered, has_table, cones_hold, tables_hold, needs_hold, uses_of, verdict}
use Rattle.m_valid.proofs.Assembling.{has_net}
use Rattle.m_valid.proofs.Judging.{leaves_few, leaves_increase, reaches_root}

-- the checks that hold of a valid proposal
parts : (p q r s t : Option ℕ) → judged V1 p (judged V2 q (judged V3 r (judged V4 s (judged V5 t Valid)))) ≡ Valid → (p ≡ None) × (q ≡ None) × (r ≡ None) × (s ≡ None) × (t ≡ None)
parts (Some at) q r s t e = cc
parts None (Some at) r s t e = cc
parts None None (Some at) s t e = cc
parts None None None (Some at) t e = cc
parts None None None None (Some at) e = cc
parts None None None None None e = (refl, refl, refl, refl, refl)

-- a check that holds everywhere holds at the first place and behind it
split : (t : Bool) (place : ℕ) (rest : Option ℕ) → (if t then rest else Some place) ≡ None → (t ≡ true) × (rest ≡ None)
split true place rest e = (refl, e)
split false place rest e = cc

pick : (t : Bool) (x l : Line) (rest : Option Line) → (if t then Some x else rest) ≡ Some l → ((t ≡ true) × (x ≡ l)) ⊎ ((t ≡ false) × (rest ≡ Some l))
pick true x l rest e = let at : x ≡ l = cc in inl (refl, at)
pick false x l rest e = inr (refl, e)

unpicked : (t : Bool) (x : Line) (rest : Option Line) → (if t then Some x else rest) ≡ None → (t ≡ false) × (rest ≡ None)
unpicked true x rest e = cc
unpicked false x rest e = (refl, e)

eq_means : (a b : ℕ) → (a == b) ≡ true → a ≡ b
eq_means a b e = elim (eqb_tells a b) [
  | inl t ↦ t.1
  | inr t ↦ let both : true ≡ false = sym e ∙ t.0 in cc
]

pub root_of_line : (ls : List Line) (number : ℕ) (l : Line) → line_of ls number ≡ Some l → l.root ≡ number
root_of_line [] number l e = cc
root_of_line (x ∷ xs) number l e = elim (pick (x.root == number) x l (line_of xs number) e) [
  | inl t ↦ ap (λ (m : Line). m.root) (sym t.1) ∙ eq_means x.root number t.0
  | inr t ↦ root_of_line xs number l t.1
]

pub no_line : (ls : List Line) (number : ℕ) → line_of ls number ≡ None → is_among number (roots_of ls) ≡ false
no_line [] number e = refl
no_line (x ∷ xs) number e =
    let t = unpicked (x.root == number) x (line_of xs number) e in
    ap (λ b. b || is_among number (roots_of xs)) t.0 ∙ no_line xs number t.1

pub line_among : (ls : List Line) (number : ℕ) (l : Line) → line_of ls number ≡ Some l → is_among number (roots_of ls) ≡ true
line_among [] number l e = cc
line_among (x ∷ xs) number l e = elim (pick (x.root == number) x l (line_of xs number) e) [
  | inl t ↦ ap (λ b. b || is_among number (roots_of xs)) t.0
  | inr t ↦ ap (λ b. (x.root == number) || b) (line_among xs number l t.1) ∙ any_true (x.root == number)
]
  where
    any_true : (b : Bool) → (b || true) ≡ true
    any_true true = refl
    any_true false = refl

pub test_of_line : (test : Line → Bool) (place : ℕ) (ls : List Line) (number : ℕ) (l : Line) → first_broken place (map test ls) ≡ None → line_of ls number ≡ Some l → test l ≡ true
test_of_line test place [] number l h e = cc
test_of_line test place (x ∷ xs) number l h e =
    let s = split (test x) place (first_broken (place + 1) (map test xs)) h in
    elim (pick (x.root == number) x l (line_of xs number) e) [
      | inl t ↦ ap test (sym t.1) ∙ s.0
      | inr t ↦ test_of_line test (place + 1) xs number l s.1 t.1
    ]

-- leaves
both : (a b : Bool) → (a && b) ≡ true → (a ≡ true) × (b ≡ true)
both true b e = (refl, e)
both false b e = cc

either : (a b : Bool) → (a || b) ≡ true → (a ≡ true) ⊎ (b ≡ true)
either true b e = inl refl
either false b e = inr e

left_true : (a b : Bool) → a ≡ true → (a || b) ≡ true
left_true a b e = ap (λ t. t || b) e

right_true : (a b : Bool) → b ≡ true → (a || b) ≡ true
right_true true b e = refl
right_true false b e = e

among_joined : (k : ℕ) (xs ys : List ℕ) → is_among k xs ≡ true → is_among k (xs ++ ys) ≡ true
among_joined k [] ys e = cc
among_joined k (x ∷ xs) ys e = elim (either (x == k) (is_among k xs) e) [
  | inl t ↦ left_true (x == k) (is_among k (xs ++ ys)) t
  | inr t ↦ right_true (x == k) (is_among k (xs ++ ys)) (among_joined k xs ys t)
]

source_is_no_gate : (x : Node) → is_source x ≡ true → not (is_gate x) ≡ true
source_is_no_gate Constant e = cc
source_is_no_gate Source e = refl
source_is_no_gate (And a b) e = cc
source_is_no_gate (Xor a b) e = cc

leaf_has_net : (nodes : List Node) (roots more leaves : List ℕ) (k : ℕ) → may_be_leaves nodes roots leaves ≡ true → is_among k leaves ≡ true → has_net nodes (roots ++ more) k ≡ true
leaf_has_net nodes roots more [] k h e = cc
leaf_has_net nodes roots more (l ∷ ls) k h e =
    let s = both (is_source (node_at nodes l) || is_among l roots) (may_be_leaves nodes roots ls) h in
    elim (either (l == k) (is_among k ls) e) [
      | inl t ↦ subst (λ j. has_net nodes (roots ++ more) j ≡ true) (eq_means l k t) (elim (either (is_source (node_at nodes l)) (is_among l roots) s.0) [
        | inl source ↦ left_true (not (is_gate (node_at nodes l))) (is_among l (roots ++ more)) (source_is_no_gate (node_at nodes l) source)
        | inr root ↦ right_true (not (is_gate (node_at nodes l))) (is_among l (roots ++ more)) (among_joined l roots more root)
      ])
      | inr t ↦ leaf_has_net nodes roots more ls k s.1 t
    ]

among_small : (least : ℕ) (leaves : List ℕ) (root k : ℕ) → increase least leaves root ≡ true → is_among k leaves ≡ true → k < root
among_small least [] root k h e = cc
among_small least (l ∷ ls) root k h e =
    let s = both (nat_le least l) (increase (l + 1) ls root) h in
    elim (either (l == k) (is_among k ls) e) [
      | inl t ↦ omega (arith, eq_means l k t, reaches_root (l + 1) ls root s.1)
      | inr t ↦ among_small (l + 1) ls root k s.1 t
    ]

pub leaves_of_line : (nodes : List Node) (most place : ℕ) (roots : List ℕ) (ls : List Line) (number : ℕ) (l : Line) → first_broken place (leaves_hold nodes most roots ls) ≡ None → line_of ls number ≡ Some l
    → (k : ℕ) → is_among k l.leaves ≡ true → (has_net nodes (roots ++ roots_of ls) k ≡ true) × (k < l.root)
leaves_of_line nodes most place roots [] number l h e k leaf = cc
leaves_of_line nodes most place roots (x ∷ xs) number l h e k leaf =
    let s = split (has_leaves nodes most roots x) place (first_broken (place + 1) (leaves_hold nodes most (roots ++ x.root ∷ []) xs)) h in
    elim (pick (x.root == number) x l (line_of xs number) e) [
      | inl t ↦
          let fits : has_leaves nodes most roots l ≡ true = ap (has_leaves nodes most roots) (sym t.1) ∙ s.0 in
          let may = (both (nat_le (length l.leaves) most && increase 0 l.leaves l.root) (may_be_leaves nodes roots l.leaves) fits).1 in
          (leaf_has_net nodes roots (roots_of (x ∷ xs)) l.leaves k may leaf, among_small 0 l.leaves l.root k (leaves_increase nodes most roots l fits) leaf)
      | inr t ↦ subst (λ rs. (has_net nodes rs k ≡ true) × (k < l.root)) (append_assoc roots (x.root ∷ []) (roots_of xs)) (leaves_of_line nodes most (place + 1) (roots ++ x.root ∷ []) xs number l s.1 t.1 k leaf)
    ]

few_of_line : (nodes : List Node) (most place : ℕ) (roots : List ℕ) (ls : List Line) (number : ℕ) (l : Line) → first_broken place (leaves_hold nodes most roots ls) ≡ None → line_of ls number ≡ Some l → length l.leaves ≤ most
few_of_line nodes most place roots [] number l h e = cc
few_of_line nodes most place roots (x ∷ xs) number l h e =
    let s = split (has_leaves nodes most roots x) place (first_broken (place + 1) (leaves_hold nodes most (roots ++ x.root ∷ []) xs)) h in
    elim (pick (x.root == number) x l (line_of xs number) e) [
      | inl t ↦ leaves_few nodes most roots l (ap (has_leaves nodes most roots) (sym t.1) ∙ s.0)
      | inr t ↦ few_of_line nodes most (place + 1) (roots ++ x.root ∷ []) xs number l s.1 t.1
    ]

-- nodes that are used
met_rooted : (gate used rooted : Bool) → (if gate && used then rooted else true) ≡ true → used ≡ true → (not gate || rooted) ≡ true
met_rooted true true rooted h e = h
met_rooted true false rooted h e = cc
met_rooted false used rooted h e = refl

used_net : (uses roots : List ℕ) (xs : List Node) (number place j : ℕ) → place ≡ number → first_broken place (needs_hold uses roots number xs) ≡ None → j < length xs → is_among (number + j) uses ≡ true
    → (not (is_gate (node_at xs j)) || is_among (number + j) roots) ≡ true
used_net uses roots [] number place j at h lt e = absurd (omega arith)
used_net uses roots (x ∷ xs) number place zero at h lt e =
    let s = split (is_met uses roots number x) place (first_broken (place + 1) (needs_hold uses roots (number + 1) xs)) h in
    let same : number + 0 ≡ number = omega arith in
    ap (λ k. not (is_gate x) || is_among k roots) same ∙ met_rooted (is_gate x) (is_among number uses) (is_among number roots) s.0 (ap (λ k. is_among k uses) (sym same) ∙ e)
used_net uses roots (x ∷ xs) number place (suc j) at h lt e =
    let s = split (is_met uses roots number x) place (first_broken (place + 1) (needs_hold uses roots (number + 1) xs)) h in
    let on : number + suc j ≡ number + 1 + j = omega arith in
    ap (λ k. not (is_gate (node_at xs j)) || is_among k roots) on
    ∙ used_net uses roots xs (number + 1) (place + 1) j (omega (arith, at)) s.1 (omega (arith, lt)) (ap (λ k. is_among k uses) (sym on) ∙ e)

-- What is granted, in one record.
pub record IsGranted (n : NetworkValue) (lines : List Line) : Type 0 where
  pub covered : (number : ℕ) (l : Line) → line_of lines number ≡ Some l → is_covered (nodes_of n) l ≡ true
  pub table : (number : ℕ) (l : Line) → line_of lines number ≡ Some l → has_table (nodes_of n) l ≡ true
  pub leaves : (number : ℕ) (l : Line) → line_of lines number ≡ Some l → (k : ℕ) → is_among k l.leaves ≡ true → (has_net (nodes_of n) (roots_of lines) k ≡ true) × (k < l.root)
  pub few : (number : ℕ) (l : Line) → line_of lines number ≡ Some l → length l.leaves ≤ 6
  pub used : (k : ℕ) → k < length (nodes_of n) → is_among k (uses_of n) ≡ true → has_net (nodes_of n) (roots_of lines) k ≡ true

pub granted : (n : NetworkValue) (lines : List Line) (most : ℕ) → most ≤ 6 → verdict n lines most ≡ Valid → IsGranted n lines
granted n lines most small e =
    let nodes = nodes_of n in
    let p = parts (first_broken 1 (roots_hold nodes 0 lines)) (first_broken 1 (leaves_hold nodes most [] lines)) (first_broken 1 (cones_hold nodes lines)) (first_broken 1 (tables_hold nodes lines))
    (first_broken 0 (needs_hold (uses_of n) (roots_of lines) 0 nodes)) e in
    record {
      covered = λ number l is. test_of_line (is_covered nodes) 1 lines number l p.2 is;
      table = λ number l is. test_of_line (has_table nodes) 1 lines number l p.3 is;
      leaves = λ number l is k leaf. leaves_of_line nodes most 1 [] lines number l p.1 is k leaf;
      few = λ number l is. omega (arith, small, few_of_line nodes most 1 [] lines number l p.1 is);
      used = λ k lt is.
          let at : 0 + k ≡ k = omega arith in
          ap (λ j. not (is_gate (node_at nodes k)) || is_among j (roots_of lines)) (sym at)
          ∙ used_net (uses_of n) (roots_of lines) nodes 0 0 k refl p.4 lt (ap (λ j. is_among j (uses_of n)) at ∙ is);
    }
