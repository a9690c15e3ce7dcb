-- Names among others, the numbers of names, and what holds of the processes of a module by their numbers.
use Rattle.std.proofs.Common.{◌≡◌, ◌⊎◌, ℕ, suc, List, [], ◌∷◌, ◌++◌, flat_map, filter, Bool, true, false, refl, sym, ap, ◌∙◌, subst, inl, inr}
use Rattle.std.specs.Prelude.{◌==◌, bytes_eq}
use Rattle.std.proofs.lemmas.Bool.{or_cases, or_left, or_right, eqb-true, eq-eqb, false_from_ne_true}
use Rattle.lz_base.specs.Names.{is_among}
use Rattle.v_syntax.specs.declared.token.Ident.{Ident}
use Rattle.v_syntax.specs.declared.stmt.Stmt.{Stmt}
use Rattle.v_syntax.specs.declared.module.Event.{Event}
use Rattle.v_syntax.specs.declared.module.Event.TheVariants as w
use Rattle.v_syntax.specs.declared.module.Item.{Item}
use Rattle.v_syntax.specs.declared.module.Item.TheVariants as i
use Rattle.v_meaning.specs.declared.names.Kind.{Kind}
use Rattle.v_meaning.specs.declared.names.Kind.TheVariants as k
use Rattle.v_meaning.specs.declared.names.Entry.{Entry}
use Rattle.v_meaning.specs.Names.{entry_of}
use Rattle.v_meaning.specs.Statements.{acts_of}
use Rattle.v_meaning.specs.Acts.{Acts}
use Rattle.v_meaning.specs.Modules.{item_clocked}
use Rattle.v_meaning.specs.Uses.{ProcessUse, use_of, item_process_uses}
use Rattle.v_meaning.specs.ProcessRules.{is_clocked, places_if, ident_names}
use Rattle.v_meaning.specs.MarkRules.{place_if}
use Rattle.v_depends.specs.Nodes.{is_in}
use Rattle.v_order.specs.Apart.{EachFrom}
use Rattle.v_order.proofs.Numbering.{Numbered, number_of, same_entry}
use Rattle.v_order.proofs.ModuleOrder.{no_first, no_rest, not_in, same_bytes, self_bytes, found_in}

-- ---- names among others

pub among_left : (z : List ℕ) (xs ys : List (List ℕ)) → is_among z xs ≡ true → is_among z (xs ++ ys) ≡ true
among_left z [] ys h = absurd (cc h)
among_left z (x ∷ xs) ys h = elim (or_cases (bytes_eq x z) (is_among z xs) h) [
  | inl same ↦ or_left (bytes_eq x z) (is_among z (xs ++ ys)) same
  | inr there ↦ or_right (bytes_eq x z) (is_among z (xs ++ ys)) (among_left z xs ys there)
]

pub among_right : (z : List ℕ) (xs ys : List (List ℕ)) → is_among z ys ≡ true → is_among z (xs ++ ys) ≡ true
among_right z [] ys h = h
among_right z (x ∷ xs) ys h = or_right (bytes_eq x z) (is_among z (xs ++ ys)) (among_right z xs ys h)

pub among_cases : (z : List ℕ) (xs ys : List (List ℕ)) → is_among z (xs ++ ys) ≡ true → (is_among z xs ≡ true) ⊎ (is_among z ys ≡ true)
among_cases z [] ys h = inr h
among_cases z (x ∷ xs) ys h = elim (or_cases (bytes_eq x z) (is_among z (xs ++ ys)) h) [
  | inl same ↦ inl (or_left (bytes_eq x z) (is_among z xs) same)
  | inr there ↦ (elim (among_cases z xs ys there) [
    | inl front ↦ inl (or_right (bytes_eq x z) (is_among z xs) front)
    | inr behind ↦ inr behind
  ])
]

-- ---- the numbers of names

abbrev number_if : Bool → ℕ → List ℕ → List ℕ
number_if true n more = n ∷ more
number_if false n more = more

number_here : (b : Bool) (n : ℕ) (more : List ℕ) → b ≡ true → is_in n (number_if b n more) ≡ true
number_here true n more h = or_left (n == n) (is_in n more) (eq-eqb n n refl)
number_here false n more h = absurd (cc h)

number_later : (b : Bool) (n m : ℕ) (more : List ℕ) → is_in m more ≡ true → is_in m (number_if b n more) ≡ true
number_later true n m more h = or_right (n == m) (is_in m more) h
number_later false n m more h = h

number_cases : (b : Bool) (n m : ℕ) (more : List ℕ) → is_in m (number_if b n more) ≡ true → ((b ≡ true) × (n ≡ m)) ⊎ (is_in m more ≡ true)
number_cases true n m more h = elim (or_cases (n == m) (is_in m more) h) [
  | inl same ↦ inl (refl, eqb-true n m same)
  | inr there ↦ inr there
]
number_cases false n m more h = inr h

module _ (names : List Entry) where
  abbrev pub kind_of : List ℕ → Kind
  kind_of name = (entry_of names name).kind

  -- those of the names whose kinds pass a test
  abbrev pub numbers_among : (Kind → Bool) → List (List ℕ) → List ℕ
  numbers_among test [] = []
  numbers_among test (z ∷ zs) = number_if (test (kind_of z)) (number_of (kind_of z)) (numbers_among test zs)

  pub number_there : (test : Kind → Bool) (zs : List (List ℕ)) (z : List ℕ) → is_among z zs ≡ true → test (kind_of z) ≡ true → is_in (number_of (kind_of z)) (numbers_among test zs) ≡ true
  number_there test [] z there passes = absurd (cc there)
  number_there test (y ∷ zs) z there passes = elim (or_cases (bytes_eq y z) (is_among z zs) there) [
    | inl same ↦
        subst (λ (x : List ℕ). is_in (number_of (kind_of x)) (numbers_among test (y ∷ zs)) ≡ true) (same_bytes y z same)
        (number_here (test (kind_of y)) (number_of (kind_of y)) (numbers_among test zs) (ap (λ (x : List ℕ). test (kind_of x)) (same_bytes y z same) ∙ passes))
    | inr behind ↦ number_later (test (kind_of y)) (number_of (kind_of y)) (number_of (kind_of z)) (numbers_among test zs) (number_there test zs z behind passes)
  ]

  number_from : (test : Kind → Bool) (zs : List (List ℕ)) (n : ℕ) → is_in n (numbers_among test zs) ≡ true → (z : List ℕ) × (is_among z zs ≡ true) × (test (kind_of z) ≡ true) × (number_of (kind_of z) ≡ n)
  number_from test [] n h = absurd (cc h)
  number_from test (y ∷ zs) n h = elim (number_cases (test (kind_of y)) (number_of (kind_of y)) n (numbers_among test zs) h) [
    | inl here ↦ (y, or_left (bytes_eq y y) (is_among y zs) (self_bytes y y refl), here.0, here.1)
    | inr behind ↦ (let r = number_from test zs n behind in (r.0, or_right (bytes_eq y r.0) (is_among r.0 zs) r.1, r.2, r.3))
  ]

  -- a number that one name of a kind has, and that none of these names has, is none of theirs
  pub number_out : (test : Kind → Bool) → test k.Clock ≡ false → Numbered test 0 names → (zs : List (List ℕ)) (z : List ℕ) → is_among z zs ≡ false → test (kind_of z) ≡ true →
      is_in (number_of (kind_of z)) (numbers_among test zs) ≡ false
  number_out test declared numbered zs z out passes = false_from_ne_true (is_in (number_of (kind_of z)) (numbers_among test zs)) (λ there.
      let r = number_from test zs (number_of (kind_of z)) there in
      let f = found_in test declared names z passes in
      let g = found_in test declared names r.0 r.2 in
      let e = same_entry test 0 names (entry_of names r.0) (entry_of names z) numbered g.there f.there r.2 passes r.3 in
      let same : r.0 ≡ z = sym g.named ∙ ap (λ (x : Entry). x.name) e ∙ f.named in
      absurd (cc (ap (λ (x : List ℕ). is_among x zs) same, r.1, out)))

-- ---- places of names

pub places_left : (test : List ℕ → Bool) (xs ys : List Ident) → places_if test (xs ++ ys) ≡ [] → places_if test xs ≡ []
places_left test [] ys h = refl
places_left test (n ∷ ns) ys h =
    ap (λ l. l ++ places_if test ns) (no_first (place_if (test n.name) n.at) (places_if test (ns ++ ys)) h) ∙ places_left test ns ys (no_rest (place_if (test n.name) n.at) (places_if test (ns ++ ys)) h)

pub places_right : (test : List ℕ → Bool) (xs ys : List Ident) → places_if test (xs ++ ys) ≡ [] → places_if test ys ≡ []
places_right test [] ys h = h
places_right test (n ∷ ns) ys h = places_right test ns ys (no_rest (place_if (test n.name) n.at) (places_if test (ns ++ ys)) h)

pub places_none : (test : List ℕ → Bool) (ns : List Ident) (name : List ℕ) → places_if test ns ≡ [] → is_among name (ident_names ns) ≡ true → test name ≡ false
places_none test [] name h there = absurd (cc there)
places_none test (n ∷ ns) name h there = elim (or_cases (bytes_eq n.name name) (is_among name (ident_names ns)) there) [
  | inl same ↦ ap test (sym (same_bytes n.name name same)) ∙ not_in (test n.name) n.at (no_first (place_if (test n.name) n.at) (places_if test ns) h)
  | inr behind ↦ places_none test ns name (no_rest (place_if (test n.name) n.at) (places_if test ns) h) behind
]

-- ---- processes by their numbers

-- what holds of each clocked process holds of its acts
module _ (names : List Entry) (sites : List ℕ) (G : ℕ → ProcessUse → Type 0) (P : ℕ → Acts → Type 0)
    (one : (n : ℕ) (event : Event) (body : Stmt) → G n (record { event = event; body = use_of names body }) → P n (acts_of names sites body)) where
  pub items_have : (n : ℕ) (items : List Item) → EachFrom G n (filter is_clocked (flat_map (item_process_uses names) items)) → EachFrom P n (flat_map (item_clocked names sites) items)
  items_have n [] h = tt
  items_have n (i.Parameters group ∷ items) h = items_have n items h
  items_have n (i.LocalParameters group ∷ items) h = items_have n items h
  items_have n (i.Wires signed range nets ∷ items) h = items_have n items h
  items_have n (i.Regs signed range variables ∷ items) h = items_have n items h
  items_have n (i.Assigns settings ∷ items) h = items_have n items h
  items_have n (i.Always (w.Posedge event) body ∷ items) h = (one n (w.Posedge event) body h.0, items_have (suc n) items h.1)
  items_have n (i.Always w.Any body ∷ items) h = items_have n items h
