-- Names that depend in so many steps on none of these.
use Rattle.std.proofs.Common.{◌≡◌, ◌≤◌, ◌+◌, ◌-◌, ℕ, zero, suc, List, [], ◌∷◌, ◌++◌, length, map, Bool, true, false, Some, refl, sym, ap, ◌∙◌, subst, inl, inr, arith}
use Rattle.std.specs.Prelude.{◌==◌, ◌||◌, if◌then◌else◌, nat_eq, bytes_eq, slice_get}
use Rattle.std.specs.List.{list_any, IsDistinct, AllByRecursion}
use Rattle.std.specs.Set.{is_member}
use Rattle.std.proofs.lemmas.Bool.{or_cases, or_left, or_right, or_parts, eqb-true, eq-eqb, false_from_ne_true}
use Rattle.std.proofs.lemmas.Cmp.{nat_eq_equiv}
use Rattle.std.proofs.lemmas.List.Folds.{list_any-append}
use Rattle.std.proofs.lemmas.Map.Made.{length-le_from_is_member}
use Rattle.lz_base.specs.Names.{is_among}
use Rattle.v_meaning.specs.Designs.{Assign}
use Rattle.v_meaning.specs.Uses.{AssignUse}
use Rattle.v_meaning.specs.ProcessRules.{reads_in, ident_names, Dependence, direct, depends_in}
use Rattle.v_depends.specs.Nodes.{is_in}
use Rattle.v_order.specs.Settling.{IsOrdered, net_of}
use Rattle.v_order.proofs.Settled.{Each, HasNet, net_in}
use Rattle.v_order.proofs.ModuleOrder.{same_bytes, self_bytes}

-- ---- lists

pub none_of : (f : List ℕ → Bool) (xs : List (List ℕ)) (z : List ℕ) → list_any f xs ≡ false → is_among z xs ≡ true → f z ≡ false
none_of f [] z h there = absurd (cc there)
none_of f (x ∷ xs) z h there = elim (or_cases (bytes_eq x z) (is_among z xs) there) [
  | inl same ↦ ap f (sym (same_bytes x z same)) ∙ (or_parts (f x) (list_any f xs) h).0
  | inr behind ↦ none_of f xs z (or_parts (f x) (list_any f xs) h).1 behind
]

none_weaker : (f g : List ℕ → Bool) (xs : List (List ℕ)) → ((z : List ℕ) → f z ≡ false → g z ≡ false) → list_any f xs ≡ false → list_any g xs ≡ false
none_weaker f g [] weaker h = refl
none_weaker f g (x ∷ xs) weaker h =
    let r = or_parts (f x) (list_any f xs) h in
    neither (g x) (list_any g xs) (weaker x r.0) (none_weaker f g xs weaker r.1) where
      neither : (a b : Bool) → a ≡ false → b ≡ false → (a || b) ≡ false
      neither a b p q = ap (λ c. c || b) p ∙ q

-- ---- steps

-- what depends on a name, by itself or in so many steps
abbrev pub reaches : ℕ → List Dependence → List ℕ → List ℕ → Bool
reaches steps ds on next = bytes_eq next on || depends_in steps ds next on

module _ (ds : List Dependence) where
  one_less : (steps : ℕ) (name on : List ℕ) → depends_in (suc steps) ds name on ≡ false → depends_in steps ds name on ≡ false
  one_less zero name on h = refl
  one_less (suc steps) name on h = none_weaker (reaches (suc steps) ds on) (reaches steps ds on) (direct ds name) (λ next k.
      let r = or_parts (bytes_eq next on) (depends_in (suc steps) ds next on) k in
      ap (λ b. b || depends_in steps ds next on) r.0 ∙ one_less steps next on r.1) h

  less : (steps more : ℕ) (name on : List ℕ) → depends_in (more + steps) ds name on ≡ false → depends_in steps ds name on ≡ false
  less steps zero name on h = let same : zero + steps ≡ steps = omega arith in subst (λ n. depends_in n ds name on ≡ false) same h
  less steps (suc more) name on h =
      let same : suc more + steps ≡ suc (more + steps) = omega arith in
      less steps more name on (one_less (more + steps) name on (subst (λ n. depends_in n ds name on ≡ false) same h))

  module _ (ons : List (List ℕ)) where
    -- it depends in so many steps on none of these names
    abbrev pub Clean : ℕ → List ℕ → Type 0
    Clean steps name = (on : List ℕ) → is_among on ons ≡ true → depends_in steps ds name on ≡ false

    -- these are none of the names, and depend in so many steps on none of them
    abbrev pub AreClean : ℕ → List (List ℕ) → Type 0
    AreClean steps names = (on : List ℕ) → is_among on ons ≡ true → list_any (reaches steps ds on) names ≡ false

    pub clean_less : (steps more : ℕ) (name : List ℕ) → steps ≤ more → Clean more name → Clean steps name
    clean_less steps more name h clean on there =
        let same : more ≡ more - steps + steps = omega (arith, h) in
        less steps (more - steps) name on (subst (λ n. depends_in n ds name on ≡ false) same (clean on there))

    pub clean_first : (steps : ℕ) (name : List ℕ) (names : List (List ℕ)) → AreClean steps (name ∷ names) → (is_among name ons ≡ false) × Clean steps name
    clean_first steps name names h =
        let first : (on : List ℕ) → is_among on ons ≡ true → (bytes_eq name on ≡ false) × (depends_in steps ds name on ≡ false) = λ on there.
        or_parts (bytes_eq name on) (depends_in steps ds name on) (or_parts (reaches steps ds on name) (list_any (reaches steps ds on) names) (h on there)).0 in
        (false_from_ne_true (is_among name ons) (λ there. absurd (cc (self_bytes name name refl, (first name there).0))), λ on there. (first on there).1)

    pub clean_rest : (steps : ℕ) (name : List ℕ) (names : List (List ℕ)) → AreClean steps (name ∷ names) → AreClean steps names
    clean_rest steps name names h on there = (or_parts (reaches steps ds on name) (list_any (reaches steps ds on) names) (h on there)).1

-- ---- the reads of an assign are those on which its target depends

abbrev pub dependence_of : AssignUse → Dependence
dependence_of x = record { name = x.target.name; on = ident_names (reads_in x.reads) }

direct_reads : (f : List ℕ → Bool) (more : List Dependence) (xs : List AssignUse) (n : ℕ) (x : AssignUse) → slice_get xs n ≡ Some x →
    list_any f (direct (map dependence_of xs ++ more) x.target.name) ≡ false → list_any f (ident_names (reads_in x.reads)) ≡ false
direct_reads f more [] n x is h = absurd (cc is)
direct_reads f more (y ∷ xs) zero x is h =
    let same : y ≡ x = cc is in
    let own : List (List ℕ) = ident_names (reads_in y.reads) in
    let rest : List (List ℕ) = direct (map dependence_of xs ++ more) x.target.name in
    let first = (or_parts (list_any f (if bytes_eq y.target.name x.target.name then own else [])) (list_any f rest) (sym (list_any-append f (if bytes_eq y.target.name x.target.name then own else []) rest) ∙ h)).0 in
    subst (λ (z : AssignUse). list_any f (ident_names (reads_in z.reads)) ≡ false) same
    (subst (λ (b : Bool). list_any f (if b then own else []) ≡ false) (self_bytes y.target.name x.target.name (ap (λ (z : AssignUse). z.target.name) same)) first)
direct_reads f more (y ∷ xs) (suc n) x is h =
    let own : List (List ℕ) = ident_names (reads_in y.reads) in
    let rest : List (List ℕ) = direct (map dependence_of xs ++ more) x.target.name in
    direct_reads f more xs n x is (or_parts (list_any f (if bytes_eq y.target.name x.target.name then own else [])) (list_any f rest) (sym (list_any-append f (if bytes_eq y.target.name x.target.name then own else []) rest) ∙ h)).1

pub clean_reads : (more : List Dependence) (ons : List (List ℕ)) (xs : List AssignUse) (n : ℕ) (x : AssignUse) (steps : ℕ) → slice_get xs n ≡ Some x →
    Clean (map dependence_of xs ++ more) ons (suc steps) x.target.name → AreClean (map dependence_of xs ++ more) ons steps (ident_names (reads_in x.reads))
clean_reads more ons xs n x steps is clean on there = direct_reads (reaches steps (map dependence_of xs ++ more) on) more xs n x is (clean on there)

-- ---- an order has no more assigns than there are

member_is : (xs : List ℕ) (n : ℕ) → is_member nat_eq xs n ≡ is_in n xs
member_is [] n = refl
member_is (x ∷ xs) n = λ i. nat_eq_equiv.symm n x i || member_is xs n i

apart_behind : (before : List ℕ) (n : ℕ) (assigns : List Assign) → is_in n before ≡ true → IsOrdered before assigns → AllByRecursion (λ m. nat_eq n m ≡ false) (map net_of assigns)
apart_behind before n [] there h = tt
apart_behind before n (a ∷ assigns) there h = (
  false_from_ne_true (nat_eq n a.net) (λ same. absurd (cc (ap (λ m. is_in m before) (eqb-true n a.net same), there, h.0))),
  apart_behind (a.net ∷ before) n assigns (or_right (a.net == n) (is_in n before) there) h.2,
)

distinct_nets : (before : List ℕ) (assigns : List Assign) → IsOrdered before assigns → IsDistinct nat_eq (map net_of assigns)
unfolding IsDistinct
distinct_nets before [] h = tt
distinct_nets before (a ∷ assigns) h =
    (apart_behind (a.net ∷ before) a.net assigns (or_left (a.net == a.net) (is_in a.net before) (eq-eqb a.net a.net refl)) h.2, distinct_nets (a.net ∷ before) assigns h.2)

as_many_nets : (assigns : List Assign) → length (map net_of assigns) ≡ length assigns
as_many_nets [] = refl
as_many_nets (a ∷ assigns) = ap suc (as_many_nets assigns)

pub no_more : (all ordered : List Assign) → IsOrdered [] ordered → Each (HasNet (map net_of all)) ordered → length ordered ≤ length all
no_more all ordered h there =
    let short = length-le_from_is_member nat_eq_equiv (map net_of ordered) (map net_of all) (distinct_nets [] ordered h) (λ n member.
    member_is (map net_of all) n ∙ net_in (map net_of all) ordered n there (sym (member_is (map net_of ordered) n) ∙ member)) in
    omega (arith, short, as_many_nets ordered, as_many_nets all)
