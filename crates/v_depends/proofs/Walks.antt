-- What a walk has reached: the marked nodes, in the order in which they were reached.
use Rattle.std.proofs.Common.{◌≡◌, ◌<◌, ◌≤◌, ◌+◌, ◌*◌, ℕ, zero, suc, List, [], ◌∷◌, ◌++◌, length, get_or, set, take, replicate, Bool, true, false, not, cond, refl, sym, ap, subst, ◌∙◌, inl, inr, append_assoc, arith}
use Rattle.std.specs.Prelude.{◌||◌, ◌==◌}
use Rattle.std.specs.List.{count_by}
use Rattle.std.proofs.lemmas.Bool.{cases_eq, eq-eqb, ne_eqb, or_left, or_right, cases_lt}
use Rattle.std.proofs.lemmas.List.{get_or-set_same, get_or-set_other, length-set, length_push, length-append, length-replicate, set_past, take_more, take-append-le}
use Rattle.std.proofs.lemmas.List.Folds.{sum_by-replicate}
use Rattle.std.proofs.lemmas.List.Sums.{sum_by-set}
use Rattle.v_depends.specs.declared.walking.Reached.{Reached}
use Rattle.v_depends.specs.Nodes.{is_in, is_marked, row, Marked, Adds, IsClosed}
use Rattle.v_depends.proofs.Membership.{swap, in_left, in_right, in_cases, in_one}

-- ---- marks

pub marked_below : (marks : List Bool) (node : ℕ) → is_marked marks node ≡ true → node < length marks
marked_below [] node h = absurd (cc h)
marked_below (m ∷ ms) zero h = omega arith
marked_below (m ∷ ms) (suc node) h = omega (arith, marked_below ms node h)

pub set_mark : (marks : List Bool) (new node : ℕ) → new < length marks → is_marked (set marks new true) node ≡ (new == node || is_marked marks node)
set_mark marks new node within = elim (cases_eq new node) [
  | inl same ↦ (
      let here : is_marked (set marks new true) node ≡ true = ap (is_marked (set marks new true)) (sym same) ∙ get_or-set_same marks new true false within in
      here ∙ sym (or_left (new == node) (is_marked marks node) (eq-eqb new node same))
      )
  | inr apart ↦ get_or-set_other marks new node true false (λ e. apart (sym e)) ∙ ap (λ b. b || is_marked marks node) (sym (ne_eqb new node apart))
]

pub mark_there : (marks : List Bool) (new : ℕ) → new < length marks → is_marked (set marks new true) new ≡ true
mark_there marks new within = get_or-set_same marks new true false within

pub mark_keeps : (marks : List Bool) (new node : ℕ) → is_marked marks node ≡ true → is_marked (set marks new true) node ≡ true
mark_keeps marks new node h = elim (cases_lt new (length marks)) [
  | inl inside ↦ set_mark marks new node inside ∙ or_right (new == node) (is_marked marks node) h
  | inr past ↦ ap (λ l. is_marked l node) (set_past marks new true past) ∙ h
]

pub none_marked : (n node : ℕ) → is_marked (replicate n false) node ≡ false
none_marked zero node = refl
none_marked (suc n) zero = refl
none_marked (suc n) (suc node) = none_marked n node

none_counted : (n : ℕ) → count_by not (replicate n false) ≡ n
none_counted n = let e : count_by not (replicate n false) ≡ n * 1 = sum_by-replicate (λ x. cond (not x) 1 0) n false in omega (arith, e)

pub in_push : (node new : ℕ) (ns : List ℕ) → is_in node (ns ++ new ∷ []) ≡ (new == node || is_in node ns)
in_push node new [] = refl
in_push node new (n ∷ ns) = ap (λ b. n == node || b) (in_push node new ns) ∙ swap (n == node) (new == node) (is_in node ns)

-- ---- one node more

pub marked_begin : (r : Reached) (n : ℕ) → r.marks ≡ replicate n false → r.order.items ≡ [] → Marked r
marked_begin r n marks order = record {
  same = λ node. ap (λ l. is_marked l node) marks ∙ none_marked n node ∙ ap (is_in node) (sym order);
  count = omega (arith, ap (count_by not) marks, none_counted n, ap length order, ap length marks, length-replicate n false);
}

pub marked_more : (r s : Reached) (node : ℕ) → node < length r.marks → is_marked r.marks node ≡ false → s.marks ≡ set r.marks node true →
    s.order.items ≡ r.order.items ++ node ∷ [] → Marked r → Marked s
marked_more r s node within new marks order m =
    let sum : count_by not (set r.marks node true) + cond (not (get_or r.marks node false)) 1 0 ≡ count_by not r.marks + 0 =
    sum_by-set (λ x. cond (not x) 1 0) r.marks node true false within in
    let one : ◌≡◌ {A = ℕ} (cond (not (get_or r.marks node false)) 1 0) 1 = ap (λ (b : Bool). let n : ℕ = cond (not b) 1 0 in n) new in
    record {
      same = λ other. ap (λ l. is_marked l other) marks ∙ set_mark r.marks node other within ∙ ap (λ b. node == other || b) (m.same other)
          ∙ sym (in_push other node r.order.items) ∙ ap (is_in other) (sym order);
      count = omega (arith, ap (count_by not) marks, sum, one, ap length order, length_push r.order.items node, m.count, ap length marks, length-set r.marks node true);
    }

pub adds_one : (bound node : ℕ) (before after : List ℕ) → after ≡ before ++ node ∷ [] → Adds bound before (node ∷ []) after
adds_one bound node before after is = record {
  more = node ∷ [];
  behind = is;
  from = λ other h. h;
  all = λ other h below. ap (is_in other) is ∙ in_right other before (node ∷ []) h;
}

pub adds_then : (bound : ℕ) (a b c xs ys : List ℕ) → Adds bound a xs b → Adds bound b ys c → Adds bound a (xs ++ ys) c
adds_then bound a b c xs ys p q = record {
  more = p.more ++ q.more;
  behind = q.behind ∙ ap (λ l. l ++ q.more) p.behind ∙ append_assoc a p.more q.more;
  from = λ node h. elim (in_cases node p.more q.more h) [
    | inl front ↦ in_left node xs ys (p.from node front)
    | inr behind ↦ in_right node xs ys (q.from node behind)
  ];
  all = λ node h below. elim (in_cases node xs ys h) [
    | inl front ↦ ap (is_in node) q.behind ∙ in_left node b q.more (p.all node front below)
    | inr behind ↦ q.all node behind below
  ];
}

pub adds_next : (bound same : ℕ) (a b c nodes : List ℕ) (i : ℕ) → i < length nodes → same ≡ bound → Adds bound a (take i nodes) b → Adds same b (get_or nodes i 0 ∷ []) c → Adds bound a (take (i + 1) nodes) c
adds_next bound same a b c nodes i within e p q =
    subst (λ ns. Adds bound a ns c) (sym (take_more nodes i 0 within)) (adds_then bound a b c (take i nodes) (get_or nodes i 0 ∷ []) p (subst (λ n. Adds n b (get_or nodes i 0 ∷ []) c) e q))

-- ---- the walk

-- The rows of the first nodes that were reached have been walked.
pub record Walks (rows : List (List ℕ)) (starts : List ℕ) (r : Reached) (next : ℕ) : Type 0 where
  pub marked : Marked r
  pub long : length r.marks ≡ length rows
  pub far : next ≤ length r.order.items
  pub begins : (node : ℕ) → is_in node starts ≡ true → node < length rows → is_in node r.order.items ≡ true
  pub goes : (node on : ℕ) → is_in node (take next r.order.items) ≡ true → is_in on (row rows node) ≡ true → on < length rows → is_in on r.order.items ≡ true
  pub least : (holds : ℕ → Bool) → IsClosed (length rows) rows starts holds → (node : ℕ) → is_in node r.order.items ≡ true → holds node ≡ true

reached_below : (r : Reached) (node n : ℕ) → Marked r → length r.marks ≡ n → is_in node r.order.items ≡ true → node < n
reached_below r node n m long h = omega (arith, marked_below r.marks node (m.same node ∙ h), long)

pub walks_begin : (rows : List (List ℕ)) (starts : List ℕ) (r : Reached) (before : List ℕ) (n : ℕ) → Marked r → length r.marks ≡ n → n ≡ length rows → before ≡ [] → Adds n before starts r.order.items → Walks rows starts r 0
walks_begin rows starts r before n m long same none a = record {
  marked = m;
  long = long ∙ same;
  far = omega arith;
  begins = λ node h below. a.all node h (omega (arith, same));
  goes = λ node on h. absurd (cc h);
  least = λ holds closed node h.
      let there : is_in node a.more ≡ true = sym (ap (is_in node) (a.behind ∙ ap (λ l. l ++ a.more) none)) ∙ h in
      closed.begins node (a.from node there) (reached_below r node (length rows) m (long ∙ same) h);
}

pub at_in : (ns : List ℕ) (i d : ℕ) → i < length ns → is_in (get_or ns i d) ns ≡ true
at_in [] i d h = absurd (omega arith)
at_in (n ∷ ns) zero d h = or_left (n == n) (is_in n ns) (eq-eqb n n refl)
at_in (n ∷ ns) (suc i) d h = or_right (n == get_or ns i d) (is_in (get_or ns i d) ns) (at_in ns i d (omega arith))

pub walks_next : (rows : List (List ℕ)) (starts : List ℕ) (r s : Reached) (next d : ℕ) (nodes : List ℕ) → next < length r.order.items → nodes ≡ row rows (get_or r.order.items next d) → Marked s →
    length s.marks ≡ length r.marks → Adds (length r.marks) r.order.items nodes s.order.items → Walks rows starts r next → Walks rows starts s (next + 1)
walks_next rows starts r s next d nodes within is m long a w =
    let bound : length s.marks ≡ length rows = long ∙ w.long in
    let front : take (next + 1) s.order.items ≡ take next r.order.items ++ get_or r.order.items next d ∷ [] =
    ap (take (next + 1)) a.behind ∙ take-append-le (next + 1) r.order.items a.more (omega arith) ∙ take_more r.order.items next d within in
    record {
      marked = m;
      long = bound;
      far = omega (arith, ap length a.behind, length-append r.order.items a.more);
      begins = λ node h below. ap (is_in node) a.behind ∙ in_left node r.order.items a.more (w.begins node h below);
      goes = λ node on h along below. elim (in_cases node (take next r.order.items) (get_or r.order.items next d ∷ []) (sym (ap (is_in node) front) ∙ h)) [
        | inl old ↦ ap (is_in on) a.behind ∙ in_left on r.order.items a.more (w.goes node on old along below)
        | inr here ↦ a.all on (ap (is_in on) (is ∙ ap (row rows) (in_one node (get_or r.order.items next d) here)) ∙ along) (omega (arith, w.long))
      ];
      least = λ holds closed node h. elim (in_cases node r.order.items a.more (sym (ap (is_in node) a.behind) ∙ h)) [
        | inl old ↦ w.least holds closed node old
        | inr new ↦ closed.goes (get_or r.order.items next d) node (w.least holds closed (get_or r.order.items next d) (at_in r.order.items next d within))
            (ap (is_in node) (sym is) ∙ a.from node new) (reached_below s node (length rows) m bound h)
      ];
    }
