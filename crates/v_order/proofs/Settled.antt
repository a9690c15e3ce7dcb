-- Nets that are computed in an order settle, and no other nets do.
use Rattle.std.proofs.Common.{◌≡◌, ◌≢◌, ◌<◌, ℕ, zero, suc, List, [], ◌∷◌, length, map, replicate, true, false, Option, Some, None, refl, sym, ap, ◌∙◌, subst, inl, inr, ext_get_or, length-set, get_or-set_same, get_or-set_other}
use Rattle.std.specs.Prelude.{⊤, ◌==◌, slice_get}
use Rattle.std.proofs.lemmas.Bool.{cases_eq, eqb-true, eq-eqb, or_cases, or_left, or_right, lt-ltb, ltb-true}
use Rattle.std.proofs.lemmas.Grind.{get_or-set_at}
use Rattle.std.proofs.lemmas.List.{length-replicate}
use Rattle.std.proofs.lemmas.Option.{slice_get-get_or, slice_get_within, get_or_from_slice_get}
use Rattle.v_meaning.specs.Views.{View}
use Rattle.v_meaning.specs.Designs.{Assign, Design, AreHeld, AreKept, IsSettled}
use Rattle.v_depends.specs.Nodes.{is_in}
use Rattle.v_order.specs.Settling.{AgreeOn, LooksOnlyAt, IsOrdered, net_of, with_found, elements_at, Settles, with_nets, computed, all_computed, settled_by}

-- ---- elements by their numbers

abbrev pub Each : {A : Type 0} → (A → Type 0) → List A → Type 0
Each P [] = ⊤
Each P (x ∷ xs) = P x × Each P xs

module _ {A : Type 0} (P : A → Type 0) where
  with_more : (xs : List A) (i : ℕ) (more : List A) → Each P xs → Each P more → Each P (with_found (slice_get xs i) more)
  with_more [] i more h k = k
  with_more (x ∷ xs) zero more h k = (h.0, k)
  with_more (x ∷ xs) (suc i) more h k = with_more xs i more h.1 k

  pub all_elements : (xs : List A) (numbers : List ℕ) → Each P xs → Each P (elements_at xs numbers)
  all_elements xs [] h = tt
  all_elements xs (i ∷ numbers) h = with_more xs i (elements_at xs numbers) h (all_elements xs numbers h)

  first_of : (o : Option A) (x : A) (more : List A) → o ≡ Some x → Each P (with_found o more) → P x
  first_of None x more is h = absurd (cc is)
  first_of (Some y) x more is h = let e : y ≡ x = cc is in subst P e h.0

  rest_of : (o : Option A) (more : List A) → Each P (with_found o more) → Each P more
  rest_of None more h = h
  rest_of (Some y) more h = h.1

  element_at : (xs : List A) (numbers : List ℕ) (i : ℕ) (x : A) → Each P (elements_at xs numbers) → is_in i numbers ≡ true → slice_get xs i ≡ Some x → P x
  element_at xs [] i x h there is = absurd (cc there)
  element_at xs (j ∷ numbers) i x h there is = elim (or_cases (j == i) (is_in i numbers) there) [
    | inl here ↦ first_of (slice_get xs j) x (elements_at xs numbers) (ap (slice_get xs) (eqb-true j i here) ∙ is) h
    | inr behind ↦ element_at xs numbers i x (rest_of (slice_get xs j) (elements_at xs numbers) h) behind is
  ]

  pub all_by_number : (xs : List A) → ((i : ℕ) (x : A) → slice_get xs i ≡ Some x → P x) → Each P xs
  all_by_number [] f = tt
  all_by_number (x ∷ xs) f = (f 0 x refl, all_by_number xs (λ i y is. f (suc i) y is))

  pub all_from_elements : (xs : List A) (numbers : List ℕ) → ((i : ℕ) → i < length xs → is_in i numbers ≡ true) → Each P (elements_at xs numbers) → Each P xs
  all_from_elements xs numbers every h =
      all_by_number xs (λ i x is. element_at xs numbers i x h (every i (slice_get_within xs i x is)) is)

-- ---- nets of assigns

abbrev pub HasNet : List ℕ → Assign → Type 0
HasNet nets a = is_in a.net nets ≡ true

pub net_there : (assigns : List Assign) (i : ℕ) (a : Assign) → slice_get assigns i ≡ Some a → HasNet (map net_of assigns) a
net_there [] i a is = absurd (cc is)
net_there (x ∷ xs) zero a is = let e : x ≡ a = cc is in or_left (x.net == a.net) (is_in a.net (map net_of xs)) (eq-eqb x.net a.net (ap net_of e))
net_there (x ∷ xs) (suc i) a is = or_right (x.net == a.net) (is_in a.net (map net_of xs)) (net_there xs i a is)

pub net_in : (nets : List ℕ) (assigns : List Assign) (net : ℕ) → Each (HasNet nets) assigns → is_in net (map net_of assigns) ≡ true → is_in net nets ≡ true
net_in nets [] net h there = absurd (cc there)
net_in nets (a ∷ assigns) net h there = elim (or_cases (a.net == net) (is_in net (map net_of assigns)) there) [
  | inl here ↦ ap (λ n. is_in n nets) (sym (eqb-true a.net net here)) ∙ h.0
  | inr behind ↦ net_in nets assigns net h.1 behind
]

abbrev FitsIn : ℕ → Assign → Type 0
FitsIn count a = a.net < count

fit : (d : Design) (order : List ℕ) → Settles d order → Each (FitsIn d.nets) d.assigns
fit d order s = all_by_number (FitsIn d.nets) d.assigns (λ i a is. ltb-true a.net d.nets (sym (s.nets a.net) ∙ net_there d.assigns i a is))

-- the nets of these, behind others
abbrev nets_behind : List ℕ → List Assign → List ℕ
nets_behind before [] = before
nets_behind before (a ∷ assigns) = nets_behind (a.net ∷ before) assigns

still_behind : (before : List ℕ) (assigns : List Assign) (net : ℕ) → is_in net before ≡ true → is_in net (nets_behind before assigns) ≡ true
still_behind before [] net h = h
still_behind before (a ∷ assigns) net h = still_behind (a.net ∷ before) assigns net (or_right (a.net == net) (is_in net before) h)

all_behind : (before : List ℕ) (assigns : List Assign) → Each (HasNet (nets_behind before assigns)) assigns
all_behind before [] = tt
all_behind before (a ∷ assigns) =
    (still_behind (a.net ∷ before) assigns a.net (or_left (a.net == a.net) (is_in a.net before) (eq-eqb a.net a.net refl)), all_behind (a.net ∷ before) assigns)

-- ---- nets that are computed one behind another

abbrev Held : View → Assign → Type 0
Held v a = slice_get v.nets a.net ≡ Some (a.value v)

are_held : (assigns : List Assign) (v : View) → Each (Held v) assigns → AreHeld assigns v
are_held [] v h = tt
are_held (a ∷ assigns) v h = (h.0, are_held assigns v h.1)

all_held : (assigns : List Assign) (v : View) → AreHeld assigns v → Each (Held v) assigns
all_held [] v h = tt
all_held (a ∷ assigns) v h = (h.0, all_held assigns v h.1)

as_many : (u : View) (assigns : List Assign) → length (all_computed u assigns).nets ≡ length u.nets
as_many u [] = refl
as_many u (a ∷ assigns) = as_many (computed u a) assigns ∙ length-set u.nets a.net (a.value u)

-- nothing but nets changes
but_nets : (u : View) (assigns : List Assign) → all_computed u assigns ≡ with_nets u (all_computed u assigns).nets
but_nets u [] = refl
but_nets u (a ∷ assigns) = but_nets (computed u a) assigns

apart_from : (before : List ℕ) (net other : ℕ) → is_in net before ≡ false → is_in other before ≡ true → other ≢ net
apart_from before net other out there e = absurd (cc (ap (λ n. is_in n before) e, out, there))

-- What was computed before stays.
stays : (before : List ℕ) (u : View) (assigns : List Assign) → IsOrdered before assigns → AgreeOn before u (all_computed u assigns)
stays before u [] o = record { inputs = refl; store = refl; sites = refl; words = λ net h. refl }
stays before u (a ∷ assigns) o =
    let r = stays (a.net ∷ before) (computed u a) assigns o.2 in
    record {
      inputs = r.inputs;
      store = r.store;
      sites = r.sites;
      words = λ net h.
          sym (get_or-set_other u.nets a.net net (a.value u) 0 (apart_from before a.net net o.0 h))
          ∙ r.words net (or_right (a.net == net) (is_in net before) h);
    }

-- So each net has in the end the value of its assign.
each_held : (before : List ℕ) (u : View) (assigns : List Assign) (count : ℕ) → count ≡ length u.nets → Each (FitsIn count) assigns → IsOrdered before assigns →
    Each (Held (all_computed u assigns)) assigns
each_held before u [] count long fits o = tt
each_held before u (a ∷ assigns) count long fits o =
    let w : View = all_computed (computed u a) assigns in
    let many : length w.nets ≡ length u.nets = as_many u (a ∷ assigns) in
    let inside : a.net < length u.nets = subst (λ n. a.net < n) long fits.0 in
    let within : a.net < length w.nets = subst (λ n. a.net < n) (sym many) inside in
    let r = stays (a.net ∷ before) (computed u a) assigns o.2 in
    let here = r.words a.net (or_left (a.net == a.net) (is_in a.net before) (eq-eqb a.net a.net refl)) in (
      slice_get-get_or w.nets a.net 0 within
          ∙ ap (λ (n : ℕ). Some n) (sym here ∙ get_or-set_same u.nets a.net (a.value u) 0 inside ∙ o.1 u w (stays before u (a ∷ assigns) o)),
      each_held (a.net ∷ before) (computed u a) assigns count (long ∙ sym (length-set u.nets a.net (a.value u))) fits.1 o.2,
    )

pub settled : (d : Design) (order : List ℕ) (v : View) → d.combinational ≡ [] → Settles d order → IsSettled d (with_nets v (settled_by d order v))
settled d order v none s =
    let zeros : List ℕ = replicate d.nets 0 in
    let u : View = with_nets v zeros in
    let assigns : List Assign = elements_at d.assigns order in
    let held = each_held [] u assigns d.nets (sym (length-replicate d.nets 0)) (all_elements (FitsIn d.nets) d.assigns order (fit d order s)) s.ordered in
    record {
      number = as_many u assigns ∙ length-replicate d.nets 0;
      held = subst (AreHeld d.assigns) (but_nets u assigns) (are_held d.assigns (all_computed u assigns) (all_from_elements (Held (all_computed u assigns)) d.assigns order s.every held));
      kept = subst (λ c. AreKept c (with_nets v (settled_by d order v))) (sym none) tt;
    }

-- ---- nets that have settled

-- one net more is as it is where all have settled
agrees_more : (before : List ℕ) (u w : View) (a : Assign) → a.net < length u.nets → Held w a → LooksOnlyAt before a.value → AgreeOn before u w →
    AgreeOn (a.net ∷ before) (computed u a) w
agrees_more before u w a within held looks agree = record {
  inputs = agree.inputs;
  store = agree.store;
  sites = agree.sites;
  words = λ net h. elim (cases_eq net a.net) [
    | inl same ↦
        get_or-set_at u.nets a.net net (a.value u) 0 same within ∙ looks u w agree
        ∙ sym (get_or_from_slice_get w.nets net (a.value w) 0 (ap (slice_get w.nets) same ∙ held))
    | inr apart ↦
        get_or-set_other u.nets a.net net (a.value u) 0 apart
        ∙ agree.words net (elim (or_cases (a.net == net) (is_in net before) h) [
          | inl here ↦ absurd (apart (sym (eqb-true a.net net here)))
          | inr behind ↦ behind
        ])
  ];
}

all_agree : (before : List ℕ) (u w : View) (assigns : List Assign) (count : ℕ) → count ≡ length u.nets → Each (FitsIn count) assigns → Each (Held w) assigns →
    IsOrdered before assigns → AgreeOn before u w → AgreeOn (nets_behind before assigns) (all_computed u assigns) w
all_agree before u w [] count long fits held o agree = agree
all_agree before u w (a ∷ assigns) count long fits held o agree =
    all_agree (a.net ∷ before) (computed u a) w assigns count (long ∙ sym (length-set u.nets a.net (a.value u))) fits.1 held.1 o.2
    (agrees_more before u w a (subst (λ n. a.net < n) long fits.0) held.0 o.1 agree)

pub alone : (d : Design) (order : List ℕ) (v : View) (nets : List ℕ) → Settles d order → IsSettled d (with_nets v nets) → nets ≡ settled_by d order v
alone d order v nets s settled =
    let zeros : List ℕ = replicate d.nets 0 in
    let u : View = with_nets v zeros in
    let w : View = with_nets v nets in
    let assigns : List Assign = elements_at d.assigns order in
    let none : AgreeOn [] u w = record { inputs = refl; store = refl; sites = refl; words = λ net h. absurd (cc h) } in
    let all = all_agree [] u w assigns d.nets (sym (length-replicate d.nets 0)) (all_elements (FitsIn d.nets) d.assigns order (fit d order s))
    (all_elements (Held w) d.assigns order (all_held d.assigns w settled.held)) s.ordered none in
    let there : (net : ℕ) → net < d.nets → is_in net (nets_behind [] assigns) ≡ true = λ net below.
    net_in (nets_behind [] assigns) d.assigns net (all_from_elements (HasNet (nets_behind [] assigns)) d.assigns order s.every (all_behind [] assigns))
    (s.nets net ∙ lt-ltb net d.nets below) in
    ext_get_or 0 nets (all_computed u assigns).nets (settled.number ∙ sym (as_many u assigns ∙ length-replicate d.nets 0))
    (λ i below. sym (all.words i (there i (subst (λ n. i < n) settled.number below))))
