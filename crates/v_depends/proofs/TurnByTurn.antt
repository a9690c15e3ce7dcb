-- Nodes that come in turn: one turn more, and what all turns leave out.
use Rattle.std.proofs.Common.{◌≡◌, ◌<◌, ◌≤◌, ◌+◌, ℕ, suc, List, [], ◌∷◌, ◌++◌, length, get_or, set, take, drop, true, false, refl, sym, ap, subst, ◌∙◌, inl, inr, append_assoc, append-nil, take-append-drop, length-set, get_or-set_other, arith}
use Rattle.std.specs.Prelude.{◌==◌, slice_index}
use Rattle.std.proofs.lemmas.Bool.{cases_eq, cases_lt, eqb-true, eq-eqb, ne_eqb, or_cases, or_left, or_right, or_from, false_from_ne_true}
use Rattle.std.proofs.lemmas.Grind.{get_or-set_at}
use Rattle.std.proofs.lemmas.List.{set_past, get_or_past, take_more, take_all, take-append-le, length-append}
use Rattle.v_depends.specs.declared.walking.Reached.{Reached}
use Rattle.v_depends.specs.declared.turns.Turns.{Turns}
use Rattle.v_depends.specs.Nodes.{is_in, is_marked, row, sources, Marked, Adds, Once}
use Rattle.v_depends.specs.Turning.{AreWithin, Lacks, InTurn, AreTurns, Advances, AreAllTurns, AreWaiting}
use Rattle.v_depends.proofs.Membership.{in_left, in_right, in_cases, in_one}
use Rattle.v_depends.proofs.Edges.{source_in}
use Rattle.v_depends.proofs.Walks.{marked_below, in_push, at_in}

-- ---- membership

pub out_left : (n : ℕ) (xs ys : List ℕ) → is_in n (xs ++ ys) ≡ false → is_in n xs ≡ false
out_left n xs ys out = false_from_ne_true (is_in n xs) (λ h. absurd (cc (in_left n xs ys h, out)))

out_taken : (n k : ℕ) (xs : List ℕ) → is_in n xs ≡ false → is_in n (take k xs) ≡ false
out_taken n k xs out = out_left n (take k xs) (drop k xs) (ap (is_in n) (take-append-drop k xs) ∙ out)

place_in : (ns : List ℕ) (n : ℕ) → is_in n ns ≡ true → (k : ℕ) × (k < length ns) × (slice_index ns k ≡ n)
place_in [] n h = absurd (cc h)
place_in (m ∷ ns) n h = elim (or_cases (m == n) (is_in n ns) h) [
  | inl same ↦ (0, omega arith, eqb-true m n same)
  | inr there ↦ (let r = place_in ns n there in (suc r.0, omega (arith, r.1), r.2))
]

-- ---- how much of a row has come

below_set : (xs : List ℕ) (i y k : ℕ) → k < slice_index (set xs i y) i → k < y
below_set xs i y k h = elim (cases_lt i (length xs)) [
  | inl inside ↦ subst (λ n. k < n) (get_or-set_at xs i i y 0 refl inside) h
  | inr past ↦ absurd (let none : slice_index (set xs i y) i ≡ 0 = ap (λ l. get_or l i 0) (set_past xs i y past) ∙ get_or_past xs i 0 past in omega (arith, none))
]

module _ (rows : List (List ℕ)) (t : Turns) (node at : ℕ) (needed : List ℕ) (is : needed ≡ row rows node) (passes : (k : ℕ) → slice_index t.passed.items node ≤ k → k < at → is_marked t.reached.marks (slice_index needed k) ≡ true) (before : AreTurns rows t) where
  come_below : (k : ℕ) → k < at → k < length needed → is_in (slice_index needed k) t.reached.order.items ≡ true
  come_below k below within = elim (cases_lt k (slice_index t.passed.items node)) [
    | inl old ↦ subst (λ l. is_in (slice_index l k) t.reached.order.items ≡ true) (sym is) (before.passed node k old (subst (λ l. k < length l) is within))
    | inr new ↦ sym (before.marked.same (slice_index needed k)) ∙ passes k new below
  ]

  pub all_come : length needed ≤ at → AreWithin needed t.reached.order.items
  all_come all n there =
      let r = place_in needed n there in
      let below : r.0 < at = omega (arith, r.1) in
      subst (λ m. is_in m t.reached.order.items ≡ true) r.2 (come_below r.0 below r.1)

  pub one_missing : at < length needed → is_marked t.reached.marks (slice_index needed at) ≡ false → Lacks needed t.reached.order.items
  one_missing within out = (slice_index needed at, at_in needed at 0 within, sym (before.marked.same (slice_index needed at)) ∙ out)

  pub passed_more : (u : Turns) → u.reached ≡ t.reached → u.passed.items ≡ set t.passed.items node at → AreTurns rows u
  passed_more u same more = record {
    marked = subst Marked (sym same) before.marked;
    long = ap (λ (r : Reached). length r.marks) same ∙ before.long;
    many = ap length more ∙ length-set t.passed.items node at ∙ before.many;
    passed = λ n k below within.
        let front : k < slice_index (set t.passed.items node at) n = subst (λ l. k < slice_index l n) more below in
        subst (λ (r : Reached). is_in (slice_index (row rows n) k) r.order.items ≡ true) (sym same) (elim (cases_eq n node) [
          | inl here ↦
              let reached : k < at = below_set t.passed.items node at k (subst (λ m. k < slice_index (set t.passed.items node at) m) here front) in
              let same_row : row rows n ≡ needed = ap (row rows) here ∙ sym is in
              subst (λ l. is_in (slice_index l k) t.reached.order.items ≡ true) (sym same_row) (come_below k reached (subst (λ l. k < length l) same_row within))
          | inr apart ↦ before.passed n k (subst (λ m. k < m) (get_or-set_other t.passed.items node n at 0 apart) front) within
        ]);
    turns = subst (λ (r : Reached). InTurn rows [] r.order.items) (sym same) before.turns;
  }

-- ---- one turn

in_turn_push : (rows : List (List ℕ)) (before nodes : List ℕ) (node : ℕ) → InTurn rows before nodes → is_in node (before ++ nodes) ≡ false → AreWithin (row rows node) (before ++ nodes) →
    InTurn rows before (nodes ++ node ∷ [])
in_turn_push rows before [] node h out within =
    (ap (is_in node) (sym (append-nil before)) ∙ out, λ n there. ap (is_in n) (sym (append-nil before)) ∙ within n there, tt)
in_turn_push rows before (n ∷ ns) node h out within =
    (h.0, h.1, in_turn_push rows (before ++ n ∷ []) ns node h.2 (ap (is_in node) (append_assoc before (n ∷ []) ns) ∙ out) (λ m there. ap (is_in m) (append_assoc before (n ∷ []) ns) ∙ within m there))

pub stalled : (rows : List (List ℕ)) (u : Turns) (node : ℕ) (before : List ℕ) → AreTurns rows u → u.reached.order.items ≡ before → Lacks (row rows node) before → Advances rows before (node ∷ []) u
stalled rows u node before now is lacks = record {
  now = now;
  more = [];
  behind = is ∙ sym (append-nil before);
  stalls = λ n there within out. subst (λ m. Lacks (row rows m) before) (in_one n node there) lacks;
}

-- it has come
comes : (rows : List (List ℕ)) (v : Turns) (node bound : ℕ) (before old : List ℕ) → bound ≡ length rows → Adds bound old (node ∷ []) v.reached.order.items →
    (n : ℕ) → is_in n (node ∷ []) ≡ true → n < length rows → is_in n v.reached.order.items ≡ false → Lacks (row rows n) before
comes rows v node bound before old same adds n there within out = absurd (cc (adds.all n there (subst (λ m. n < m) (sym same) within), out))

module _ (rows : List (List ℕ)) (u v : Turns) (node : ℕ) (now : AreTurns rows u) (within : AreWithin (row rows node) u.reached.order.items) (passed : v.passed ≡ u.passed) (marked : Marked v.reached)
    (long : length v.reached.marks ≡ length u.reached.marks) (adds : Adds (length u.reached.marks) u.reached.order.items (node ∷ []) v.reached.order.items) where
  still_turns : (more : List ℕ) → v.reached.order.items ≡ u.reached.order.items ++ more → InTurn rows [] (u.reached.order.items ++ more) → AreTurns rows v
  still_turns more is turns = record {
    marked = marked;
    long = long ∙ now.long;
    many = ap (λ p. length p.items) passed ∙ now.many;
    passed = λ n k below inside. ap (is_in (slice_index (row rows n) k)) is ∙ in_left (slice_index (row rows n) k) u.reached.order.items more
        (now.passed n k (subst (λ p. k < slice_index p.items n) passed below) inside);
    turns = subst (InTurn rows []) (sym is) turns;
  }

  pub came : Once node u.reached.order.items v.reached.order.items → Advances rows u.reached.order.items (node ∷ []) v
  came (inl same) =
      let is : v.reached.order.items ≡ u.reached.order.items ++ [] = same ∙ sym (append-nil u.reached.order.items) in
      record {
        now = still_turns [] is (subst (InTurn rows []) (sym (append-nil u.reached.order.items)) now.turns);
        more = [];
        behind = is;
        stalls = comes rows v node (length u.reached.marks) u.reached.order.items u.reached.order.items now.long adds;
      }
  came (inr new) = record {
    now = still_turns (node ∷ []) new.1 (in_turn_push rows [] u.reached.order.items node now.turns new.0 within);
    more = node ∷ [];
    behind = new.1;
    stalls = comes rows v node (length u.reached.marks) u.reached.order.items u.reached.order.items now.long adds;
  }

-- ---- several turns

pub advances_none : (rows : List (List ℕ)) (t : Turns) → AreTurns rows t → Advances rows t.reached.order.items [] t
advances_none rows t now = record { now = now; more = []; behind = sym (append-nil t.reached.order.items); stalls = λ n there. absurd (cc there) }

advances_then : (rows : List (List ℕ)) (a xs ys : List ℕ) (t u : Turns) → Advances rows a xs t → Advances rows t.reached.order.items ys u → Advances rows a (xs ++ ys) u
advances_then rows a xs ys t u p q = record {
  now = q.now;
  more = p.more ++ q.more;
  behind = q.behind ∙ ap (λ l. l ++ q.more) p.behind ∙ append_assoc a p.more q.more;
  stalls = λ n there within out. elim (in_cases n xs ys there) [
    | inl front ↦ p.stalls n front within (out_left n t.reached.order.items q.more (ap (is_in n) (sym q.behind) ∙ out))
    | inr behind ↦ (let l = q.stalls n behind within out in (l.0, l.1, out_left l.0 a p.more (ap (is_in l.0) (sym p.behind) ∙ l.2)))
  ];
}

pub advances_next : (rows : List (List ℕ)) (a nodes : List ℕ) (t u : Turns) (i : ℕ) → i < length nodes → Advances rows a (take i nodes) t →
    Advances rows t.reached.order.items (get_or nodes i 0 ∷ []) u → Advances rows a (take (i + 1) nodes) u
advances_next rows a nodes t u i within p q =
    subst (λ ns. Advances rows a ns u) (sym (take_more nodes i 0 within)) (advances_then rows a (take i nodes) (get_or nodes i 0 ∷ []) t u p q)

-- ---- all turns

-- Those who wait for the first nodes that have come had their turns after them.
pub record Progress (rows : List (List ℕ)) (t : Turns) (next : ℕ) : Type 0 where
  pub now : AreTurns rows t
  pub far : next ≤ length t.reached.order.items
  pub stalls : (node : ℕ) → node < length rows → is_in node t.reached.order.items ≡ false → Lacks (row rows node) (take next t.reached.order.items)

pub progress_begin : (rows : List (List ℕ)) (t : Turns) (before nodes : List ℕ) → before ≡ [] → ((node : ℕ) → node < length rows → is_in node nodes ≡ true) → Advances rows before nodes t → Progress rows t 0
progress_begin rows t before nodes none all a = record {
  now = a.now;
  far = omega arith;
  stalls = λ node within out. subst (Lacks (row rows node)) none (a.stalls node (all node within) within out);
}

come_within : (rows : List (List ℕ)) (t : Turns) → AreTurns rows t → (node : ℕ) → is_in node t.reached.order.items ≡ true → node < length rows
come_within rows t now node there = subst (λ n. node < n) now.long (marked_below t.reached.marks node (now.marked.same node ∙ there))

pub progress_next : (rows waiting : List (List ℕ)) (t u : Turns) (next : ℕ) (nodes : List ℕ) → next < length t.reached.order.items → nodes ≡ row waiting (get_or t.reached.order.items next 0) →
    AreWaiting rows waiting → Advances rows t.reached.order.items nodes u → Progress rows t next → Progress rows u (next + 1)
progress_next rows waiting t u next nodes inside is w a p =
    let old : List ℕ = t.reached.order.items in
    let node : ℕ = get_or old next 0 in
    let kept : take (next + 1) u.reached.order.items ≡ take (next + 1) old = ap (take (next + 1)) a.behind ∙ take-append-le (next + 1) old a.more (omega arith) in
    let front : take (next + 1) u.reached.order.items ≡ take next old ++ node ∷ [] = kept ∙ take_more old next 0 inside in
    record {
      now = a.now;
      far = omega (arith, ap length a.behind, length-append old a.more);
      stalls = λ n within out.
          let l = p.stalls n within (out_left n old a.more (ap (is_in n) (sym a.behind) ∙ out)) in
          elim (cases_eq l.0 node) [
            | inl here ↦
                let there : l.0 < length rows = come_within rows t p.now l.0 (subst (λ m. is_in m old ≡ true) (sym here) (at_in old next 0 inside)) in
                let waits : is_in n nodes ≡ true = ap (is_in n) (is ∙ ap (row waiting) (sym here)) ∙ w.each n l.0 l.1 within there in
                let m = a.stalls n waits within out in
                (m.0, m.1, ap (is_in m.0) kept ∙ out_taken m.0 (next + 1) old m.2)
            | inr apart ↦ (l.0, l.1, ap (is_in l.0) front ∙ in_push l.0 node (take next old) ∙ or_from (node == l.0) (is_in l.0 (take next old)) (ne_eqb node l.0 (λ e. apart (sym e))) l.2)
          ];
    }

pub progress_end : (rows : List (List ℕ)) (t : Turns) (next : ℕ) → length t.reached.order.items ≤ next → Progress rows t next → AreAllTurns rows t.reached.order.items
progress_end rows t next done p = record {
  turns = p.now.turns;
  within = come_within rows t p.now;
  stalls = λ node within out. subst (Lacks (row rows node)) (take_all next t.reached.order.items done) (p.stalls node within out);
}

-- ---- what the steps of the walk answer

pub advanced : (rows : List (List ℕ)) (t u v : Turns) (node : ℕ) (needed : List ℕ) → needed ≡ row rows node → u.reached ≡ t.reached → AreTurns rows u → AreWithin needed t.reached.order.items →
    v.passed ≡ u.passed → (Marked u.reached → Marked v.reached) → length v.reached.marks ≡ length u.reached.marks →
    (Marked u.reached → Adds (length u.reached.marks) u.reached.order.items (node ∷ []) v.reached.order.items) → (Marked u.reached → Once node u.reached.order.items v.reached.order.items) →
    Advances rows t.reached.order.items (node ∷ []) v
advanced rows t u v node needed is same now within passed marked long adds once =
    let inside : AreWithin (row rows node) u.reached.order.items = λ n there.
    subst (λ (r : Reached). is_in n r.order.items ≡ true) (sym same) (within n (ap (is_in n) is ∙ there)) in
    subst (λ (r : Reached). Advances rows r.order.items (node ∷ []) v) same
    (came rows u v node now inside passed (marked now.marked) long (adds now.marked) (once now.marked))

-- one node more
pub in_next : (n node : ℕ) (before after : List ℕ) → after ≡ before ++ n ∷ [] → ((k : ℕ) → k < n → is_in k before ≡ true) → node < n + 1 → is_in node after ≡ true
in_next n node before after is h below = ap (is_in node) is ∙ in_push node n before ∙ elim (cases_lt node n) [
  | inl old ↦ or_right (n == node) (is_in node before) (h node old)
  | inr new ↦ (let same : n ≡ node = omega arith in or_left (n == node) (is_in node before) (eq-eqb n node same))
]

-- one edge more, from one that waits
module _ (before after : List (List ℕ)) (edge : ℕ × ℕ) (each : (n : ℕ) → n < length before → row after n ≡ row before n ++ sources (edge ∷ []) n) where
  pub wait_keeps : (other on : ℕ) → is_in other (row before on) ≡ true → is_in other (row after on) ≡ true
  wait_keeps other on h = elim (cases_lt on (length before)) [
    | inl inside ↦ ap (is_in other) (each on inside) ∙ in_left other (row before on) (sources (edge ∷ []) on) h
    | inr past ↦ absurd (cc (ap (is_in other) (get_or_past before on [] past), h))
  ]

  wait_here : edge.1 < length before → is_in edge.0 (row after edge.1) ≡ true
  wait_here inside =
      ap (is_in edge.0) (each edge.1 inside) ∙ in_right edge.0 (row before edge.1) (sources (edge ∷ []) edge.1) (source_in (edge ∷ []) edge (inl refl))

pub wait_adds : (before after : List (List ℕ)) (node : ℕ) (needed : List ℕ) (i bound : ℕ) → i < length needed → length before ≡ bound →
    ((n : ℕ) → n < length before → row after n ≡ row before n ++ sources ((node, get_or needed i 0) ∷ []) n) →
    ((on : ℕ) → is_in on (take i needed) ≡ true → on < bound → is_in node (row before on) ≡ true) →
    (on : ℕ) → is_in on (take (i + 1) needed) ≡ true → on < bound → is_in node (row after on) ≡ true
wait_adds before after node needed i bound within long each h on there below =
    elim (in_cases on (take i needed) (get_or needed i 0 ∷ []) (sym (ap (is_in on) (take_more needed i 0 within)) ∙ there)) [
      | inl old ↦ wait_keeps before after (node, get_or needed i 0) each node on (h on old below)
      | inr here ↦ (
          let same : get_or needed i 0 ≡ on = in_one on (get_or needed i 0) here in
          let inside : get_or needed i 0 < length before = omega (arith, same, long, below) in
          subst (λ m. is_in node (row after m) ≡ true) same (wait_here before after (node, get_or needed i 0) each inside)
          )
    ]
