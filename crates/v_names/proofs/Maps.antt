-- A map from keys to the numbers of their first elements, where the list has one element more.
use Rattle.std.proofs.Common.{◌≡◌, refl, sym, ap, ◌∙◌, ℕ, ◌+◌, List, [], ◌∷◌, ◌++◌, length, Bool, true, false, cond, Option, None, Some, arith}
use Rattle.std.specs.Prelude.{if◌then◌else◌, is_some, ◌==◌, bytes_eq}
use Rattle.std.specs.Ordering.{nat_cmp, is_eq}
use Rattle.std.specs.Cmp.Lexicographic.{slice_cmp}
use Rattle.std.specs.BTreeMap.{BTreeMap, get, Updates}
use Rattle.std.proofs.lemmas.Map.Text.{is_eq-slice_cmp}
use Rattle.std.proofs.lemmas.Slice.Eq.{bytes_eq-Decides}
use Rattle.std.proofs.lemmas.Grind.{common_steps}
use Rattle.std.proofs.lemmas.List.{length-append}
use Rattle.std.proofs.lemmas.Bool.{eqb-true}
use Rattle.v_meaning.specs.declared.names.Entry.{Entry}
use Rattle.v_names.specs.Numbers.{first_where}
use Rattle.v_names.proofs.First.{or_else, first_push}

new_case : (b : Bool) (r : Option ℕ) (n : ℕ) → (b ≡ true → r ≡ None) → cond b (Some n) r ≡ or_else r (if b then Some n else None)
new_case true r n h = ap (λ (o : Option ℕ). or_else o (Some n)) (sym (h refl))
new_case false None n h = refl
new_case false (Some k) n h = refl

old_case : (b : Bool) (r : Option ℕ) (n : ℕ) → (b ≡ true → is_some r ≡ true) → r ≡ or_else r (if b then Some n else None)
old_case true None n h = absurd (cc (h refl))
old_case true (Some k) n h = refl
old_case false None n h = refl
old_case false (Some k) n h = refl

-- ---- names

abbrev pub NamesFound : BTreeMap (List ℕ) ℕ → List Entry → Type 0
NamesFound numbers names = (name : List ℕ) → get (slice_cmp nat_cmp) numbers name ≡ first_where (λ (e : Entry). bytes_eq e.name name) names

none_if : (o : Option ℕ) → is_some o ≡ false → o ≡ None
none_if None h = refl
none_if (Some n) h = absurd (cc h)

pub one_longer : {A : Type 0} (xs : List A) (x : A) → length (xs ++ x ∷ []) ≡ length xs + 1
one_longer xs x = length-append xs (x ∷ [])

pub names_new : (old new : BTreeMap (List ℕ) ℕ) (names : List Entry) (e : Entry) (key : List ℕ) (n : ℕ) → key ≡ e.name → n ≡ length names →
    is_some (get (slice_cmp nat_cmp) old e.name) ≡ false → Updates (slice_cmp nat_cmp) old new key (Some n) → NamesFound old names → NamesFound new (names ++ e ∷ [])
names_new old new names e key n same count absent updates found q =
    updates.0 q
    ∙ ap (λ k. cond (is_eq (slice_cmp nat_cmp k q)) (Some n) (get (slice_cmp nat_cmp) old q)) same
    ∙ ap (λ m. cond (is_eq (slice_cmp nat_cmp e.name q)) (Some m) (get (slice_cmp nat_cmp) old q)) count
    ∙ ap (λ b. cond b (Some (length names)) (get (slice_cmp nat_cmp) old q)) (is_eq-slice_cmp e.name q)
    ∙ ap (cond (bytes_eq e.name q) (Some (length names))) (found q)
    ∙ new_case (bytes_eq e.name q) (first_where (λ (f : Entry). bytes_eq f.name q) names) (length names)
    (λ h. sym (found q) ∙ ap (get (slice_cmp nat_cmp) old) (sym ((bytes_eq-Decides e.name q).0 h)) ∙ none_if (get (slice_cmp nat_cmp) old e.name) absent)
    ∙ sym (first_push (λ (f : Entry). bytes_eq f.name q) names e)

pub names_again : (old : BTreeMap (List ℕ) ℕ) (names : List Entry) (e : Entry) → is_some (get (slice_cmp nat_cmp) old e.name) ≡ true →
    NamesFound old names → NamesFound old (names ++ e ∷ [])
names_again old names e present found q =
    found q
    ∙ old_case (bytes_eq e.name q) (first_where (λ (f : Entry). bytes_eq f.name q) names) (length names)
    (λ same. ap is_some (sym (found q) ∙ ap (get (slice_cmp nat_cmp) old) (sym ((bytes_eq-Decides e.name q).0 same))) ∙ present)
    ∙ sym (first_push (λ (f : Entry). bytes_eq f.name q) names e)

-- ---- places

abbrev pub PlacesFound : BTreeMap ℕ ℕ → List ℕ → Type 0
PlacesFound numbers places = (place : ℕ) → get nat_cmp numbers place ≡ first_where (λ (other : ℕ). other == place) places

same_number : (a b : ℕ) → is_eq (nat_cmp a b) ≡ (a == b)
same_number a b = grind (arith, common_steps)

pub places_new : (old new : BTreeMap ℕ ℕ) (places : List ℕ) (p n : ℕ) → n ≡ length places → is_some (get nat_cmp old p) ≡ false →
    Updates nat_cmp old new p (Some n) → PlacesFound old places → PlacesFound new (places ++ p ∷ [])
places_new old new places p n count absent updates found q =
    updates.0 q
    ∙ ap (λ m. cond (is_eq (nat_cmp p q)) (Some m) (get nat_cmp old q)) count
    ∙ ap (λ b. cond b (Some (length places)) (get nat_cmp old q)) (same_number p q)
    ∙ ap (cond (p == q) (Some (length places))) (found q)
    ∙ new_case (p == q) (first_where (λ (other : ℕ). other == q) places) (length places)
    (λ same. sym (found q) ∙ ap (get nat_cmp old) (sym (eqb-true p q same)) ∙ none_if (get nat_cmp old p) absent)
    ∙ sym (first_push (λ (other : ℕ). other == q) places p)

pub places_again : (old : BTreeMap ℕ ℕ) (places : List ℕ) (p : ℕ) → is_some (get nat_cmp old p) ≡ true → PlacesFound old places → PlacesFound old (places ++ p ∷ [])
places_again old places p present found q =
    found q
    ∙ old_case (p == q) (first_where (λ (other : ℕ). other == q) places) (length places)
    (λ same. ap is_some (sym (found q) ∙ ap (get nat_cmp old) (sym (eqb-true p q same))) ∙ present)
    ∙ sym (first_push (λ (other : ℕ). other == q) places p)
