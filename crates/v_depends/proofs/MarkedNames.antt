-- The marks that a walk leaves are those of the names which depend on one of the given names.
use Rattle.std.proofs.Common.{◌≡◌, ◌<◌, ◌≤◌, ℕ, zero, suc, List, [], ◌∷◌, ◌++◌, length, get_or, set, Bool, true, false, Option, None, Some, refl, sym, ap, subst, ◌∙◌, inl, inr, arith}
use Rattle.std.specs.Prelude.{◌||◌, ◌==◌, is_some, bytes_eq}
use Rattle.std.proofs.lemmas.Bool.{eqb-true, eq-eqb, cases_lt, false_from_ne_true}
use Rattle.std.proofs.lemmas.List.{get_or_past, length-set}
use Rattle.lz_base.specs.Names.{is_among}
use Rattle.v_meaning.specs.ProcessRules.{Dependence, depends_in}
use Rattle.v_depends.specs.declared.graph.Graph.{Graph}
use Rattle.v_depends.specs.Pairs.{pairs_of, depends_by, is_circular_by, follows}
use Rattle.v_depends.specs.Graphs.{place, IsGraph, at_place, marked_name, AreMarked, Followers, Suspected}
use Rattle.v_depends.specs.Nodes.{is_in, is_marked, row, sources, starts_of, IsClosed, IsReached, IsSuspect}
use Rattle.v_depends.proofs.Membership.{swap, any_in, any_out, bytes_same, bytes_self}
use Rattle.v_depends.proofs.Steps.{step_out, depends_direct, depends_on}
use Rattle.v_depends.proofs.Places.{place_there}
use Rattle.v_depends.proofs.Edges.{pair_in, pair_out, edge_of, pair_of, of_all, source_in, source_out, start_in, start_out}
use Rattle.v_depends.proofs.Walks.{set_mark}

both_or_neither : (a b : Bool) → (a ≡ true → b ≡ true) → (b ≡ true → a ≡ true) → a ≡ b
both_or_neither true b to from = sym (to refl)
both_or_neither false b to from = sym (false_from_ne_true b (λ h. absurd (cc (from h))))

-- ---- names and their marks

pub marked_at : (names : List (List ℕ)) (marks : List Bool) (name : List ℕ) (i : ℕ) → place names name ≡ Some i → marked_name names marks name ≡ is_marked marks i
marked_at names marks name i at = ap (at_place marks) at

marked_case : (marks : List Bool) (r : Option ℕ) → at_place marks r ≡ true → (i : ℕ) × (r ≡ Some i) × (is_marked marks i ≡ true)
marked_case marks None h = absurd (cc h)
marked_case marks (Some i) h = (i, refl, h)

pub named_at : (names : List (List ℕ)) (a b : List ℕ) (i : ℕ) → place names a ≡ Some i → place names b ≡ Some i → a ≡ b
named_at names a b i p q = sym (place_there names a i p).0 ∙ (place_there names b i q).0

among_push : (q key : List ℕ) (names : List (List ℕ)) → is_among q (names ++ key ∷ []) ≡ (bytes_eq key q || is_among q names)
among_push q key [] = refl
among_push q key (other ∷ names) = ap (λ b. bytes_eq other q || b) (among_push q key names) ∙ swap (bytes_eq other q) (bytes_eq key q) (is_among q names)

there_case : (r : Option ℕ) → is_some r ≡ true → (i : ℕ) × (r ≡ Some i)
there_case None h = absurd (cc h)
there_case (Some i) h = (i, refl)

-- one name more is marked
pub marks_more : (names ons : List (List ℕ)) (before after : List Bool) (new : List ℕ) (i : ℕ) → place names new ≡ Some i → after ≡ set before i true → AreMarked names before ons → AreMarked names after (ons ++ new ∷ [])
marks_more names ons before after new i at is m = record {
  long = ap length is ∙ length-set before i true ∙ m.long;
  each = λ name there.
      let j = there_case (place names name) there in
      let within : i < length before = omega (arith, (place_there names new i at).1, m.long) in
      let same : (i == j.0) ≡ bytes_eq new name = both_or_neither (i == j.0) (bytes_eq new name)
      (λ e. bytes_self new name (named_at names new name i at (j.1 ∙ ap Some (sym (eqb-true i j.0 e)))))
      (λ e. let k : Some i ≡ Some j.0 = sym at ∙ ap (place names) (bytes_same new name e) ∙ j.1 in let n : i ≡ j.0 = cc in eq-eqb i j.0 n) in
      marked_at names after name j.0 j.1 ∙ ap (λ l. is_marked l j.0) is ∙ set_mark before i j.0 within ∙ ap (λ b. b || is_marked before j.0) same
      ∙ ap (λ b. bytes_eq new name || b) (sym (marked_at names before name j.0 j.1) ∙ m.each name there) ∙ sym (among_push name new ons);
}

-- a name without a number is not among those that have one
pub marks_same : (names ons : List (List ℕ)) (marks : List Bool) (new : List ℕ) → None ≡ place names new → AreMarked names marks ons → AreMarked names marks (ons ++ new ∷ [])
marks_same names ons marks new none m = record {
  long = m.long;
  each = λ name there.
      let apart : bytes_eq new name ≡ false = false_from_ne_true (bytes_eq new name) (λ e. let h : is_some (place names new) ≡ true = ap (λ q. is_some (place names q)) (bytes_same new name e) ∙ there in
      let f : false ≡ true = ap is_some none ∙ h in absurd (cc f)) in
      m.each name there ∙ ap (λ b. b || is_among name ons) (sym apart) ∙ sym (among_push name new ons);
}

-- ---- what depends on given names

module _ (g : Graph) (names ons : List (List ℕ)) (ds : List Dependence) (rows : List (List ℕ)) (on marks : List Bool) (graph : IsGraph g names (pairs_of ds)) (given : AreMarked names on ons)
    (long : length rows ≡ length names) (each : (node : ℕ) → node < length rows → row rows node ≡ sources g.edges.items node) (reached : IsReached rows (starts_of on g.edges.items) marks) where
  -- whether the name of a node depends on one of them
  holds : ℕ → Bool
  holds node = follows ds ons (get_or names node [])

  given_at : (y : List ℕ) (j : ℕ) → place names y ≡ Some j → is_marked on j ≡ is_among y ons
  given_at y j at = sym (marked_at names on y j at) ∙ given.each y (ap is_some at)

  holds_begin : (node : ℕ) → is_in node (starts_of on g.edges.items) ≡ true → holds node ≡ true
  unfolding holds
  holds_begin node h =
      let s = start_out on g.edges.items node h in
      let p = pair_of names (pairs_of ds) g.edges.items s.0 graph.edged s.1 in
      let at : get_or names node [] ≡ p.0.0 = ap (λ n. get_or names n []) (sym s.2) ∙ (place_there names p.0.0 s.0.0 p.1.0).0 in
      let ends : is_among p.0.1 ons ≡ true = sym (given_at p.0.1 s.0.1 p.1.1) ∙ s.3 in
      ap (follows ds ons) at ∙ any_in (depends_by ds p.0.0) ons p.0.1 ends (depends_direct p.0.0 p.0.1 ds (pair_out ds p.0.0 p.0.1 p.2))

  holds_on : (node next : ℕ) → holds node ≡ true → is_in next (sources g.edges.items node) ≡ true → holds next ≡ true
  unfolding holds
  holds_on node next h along =
      let p = pair_of names (pairs_of ds) g.edges.items (next, node) graph.edged (source_out g.edges.items next node along) in
      let to : get_or names node [] ≡ p.0.1 = (place_there names p.0.1 node p.1.1).0 in
      let from : get_or names next [] ≡ p.0.0 = (place_there names p.0.0 next p.1.0).0 in
      let r = any_out (depends_by ds p.0.1) ons (ap (follows ds ons) (sym to) ∙ h) in
      ap (follows ds ons) from ∙ any_in (depends_by ds p.0.0) ons r.0 r.1 (depends_on p.0.0 p.0.1 r.0 ds (pair_out ds p.0.0 p.0.1 p.2) r.2)

  row_in : (node next : ℕ) → is_in next (row rows node) ≡ true → is_in next (sources g.edges.items node) ≡ true
  row_in node next h = elim (cases_lt node (length rows)) [
    | inl inside ↦ ap (is_in next) (sym (each node inside)) ∙ h
    | inr past ↦ (let none : false ≡ true = ap (is_in next) (sym (get_or_past rows node [] past)) ∙ h in absurd (cc none))
  ]

  holds_closed : IsClosed (length rows) rows (starts_of on g.edges.items) holds
  holds_closed = record {
    begins = λ node h below. holds_begin node h;
    goes = λ node next h along below. holds_on node next h (row_in node next along);
  }

  -- a marked name depends on one of them
  marked_holds : (name : List ℕ) → marked_name names marks name ≡ true → follows ds ons name ≡ true
  unfolding holds
  marked_holds name h =
      let m = marked_case marks (place names name) h in
      ap (follows ds ons) (sym (place_there names name m.0 m.1).0) ∙ reached.least holds holds_closed m.0 m.2

  -- one that depends on one of them is marked
  reached_case : (k : ℕ) (x y : List ℕ) → is_among y ons ≡ true → depends_in k ds x y ≡ true → marked_name names marks x ≡ true
  reached_case zero x y end h = absurd (cc h)
  reached_case (suc k) x y end h =
      let r = step_out k ds x y h in
      let e = edge_of names (pairs_of ds) g.edges.items (x, r.0) graph.edged (pair_in ds x r.0 r.1) in
      let from : e.0.0 < length rows = omega (arith, long, (place_there names x e.0.0 e.1.0).1) in
      let to : e.0.1 < length rows = omega (arith, long, (place_there names r.0 e.0.1 e.1.1).1) in
      marked_at names marks x e.0.0 e.1.0 ∙ elim r.2 [
        | inl same ↦ reached.closed.begins e.0.0 (start_in on g.edges.items e.0 e.2 (given_at r.0 e.0.1 e.1.1 ∙ ap (λ z. is_among z ons) same ∙ end)) from
        | inr onward ↦ reached.closed.goes e.0.1 e.0.0 (sym (marked_at names marks r.0 e.0.1 e.1.1) ∙ reached_case k r.0 y end onward)
            (ap (is_in e.0.0) (each e.0.1 to) ∙ source_in g.edges.items e.0 e.2) from
      ]

  pub followers_are : Followers names ds ons marks
  followers_are name = both_or_neither (marked_name names marks name) (follows ds ons name) (marked_holds name)
      (λ h. let r = any_out (depends_by ds name) ons h in reached_case (length ds) name r.0 r.1 r.2)

or_none : (b : Bool) → (b || false) ≡ b
or_none true = refl
or_none false = refl

-- a name is marked behind itself alone where it depends on itself
pub circular_is : (names : List (List ℕ)) (ds : List Dependence) (name : List ℕ) (marks : List Bool) → Followers names ds (name ∷ []) marks → marked_name names marks name ≡ is_circular_by ds name
circular_is names ds name marks f = f name ∙ or_none (depends_by ds name name)

-- ---- what may depend on itself

module _ (g : Graph) (names : List (List ℕ)) (ds : List Dependence) (bound : ℕ) (marks : List Bool) (graph : IsGraph g names (pairs_of ds)) (suspect : IsSuspect bound g.edges.items marks)
    (count : bound ≡ length names) where
  level_falls : (k : ℕ) (x y : List ℕ) (i j : ℕ) → place names x ≡ Some i → place names y ≡ Some j → depends_in k ds x y ≡ true → suspect.level j ≤ suspect.level i
  level_falls zero x y i j at to h = absurd (cc h)
  level_falls (suc k) x y i j at to h =
      let r = step_out k ds x y h in
      let e = edge_of names (pairs_of ds) g.edges.items (x, r.0) graph.edged (pair_in ds x r.0 r.1) in
      let from : Some e.0.0 ≡ Some i = sym e.1.0 ∙ at in
      let here : e.0.0 ≡ i = cc in
      let falls : suspect.level e.0.1 ≤ suspect.level i = subst (λ n. suspect.level e.0.1 ≤ suspect.level n) here (of_all (λ f. suspect.level f.1 ≤ suspect.level f.0) g.edges.items e.0 suspect.falls e.2) in
      elim r.2 [
        | inl same ↦ (
            let ends : Some e.0.1 ≡ Some j = sym e.1.1 ∙ ap (place names) same ∙ to in
            let there : e.0.1 ≡ j = cc in
            subst (λ n. suspect.level n ≤ suspect.level i) there falls
            )
        | inr on ↦ omega (arith, falls, level_falls k r.0 y e.0.1 j e.1.1 to on)
      ]

  circular_marked : (k : ℕ) (x : List ℕ) → depends_in k ds x x ≡ true → marked_name names marks x ≡ true
  circular_marked zero x h = absurd (cc h)
  circular_marked (suc k) x h =
      let r = step_out k ds x x h in
      let e = edge_of names (pairs_of ds) g.edges.items (x, r.0) graph.edged (pair_in ds x r.0 r.1) in
      let within : e.0.0 < bound = omega (arith, count, (place_there names x e.0.0 e.1.0).1) in
      let flat : suspect.level e.0.0 ≤ suspect.level e.0.1 = elim r.2 [
        | inl same ↦ (
            let ends : Some e.0.1 ≡ Some e.0.0 = sym e.1.1 ∙ ap (place names) same ∙ e.1.0 in
            let there : e.0.1 ≡ e.0.0 = cc in
            subst (λ n. suspect.level e.0.0 ≤ suspect.level n) (sym there) (omega arith)
            )
        | inr on ↦ level_falls k r.0 x e.0.1 e.0.0 e.1.1 e.1.0 on
      ] in
      marked_at names marks x e.0.0 e.1.0 ∙ of_all (λ f. suspect.level f.0 ≤ suspect.level f.1 → f.0 < bound → is_marked marks f.0 ≡ true) g.edges.items e.0 suspect.flat e.2 flat within

  pub suspected_are : Suspected names ds marks
  suspected_are name h = circular_marked (length ds) name h
