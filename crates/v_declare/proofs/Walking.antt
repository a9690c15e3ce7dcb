-- The first fault of a walk: of nothing, of faults behind one another, and of the rounds of a loop.
use Rattle.std.proofs.Common.{◌≡◌, ◌<◌, ◌≤◌, ◌+◌, ℕ, suc, List, [], ◌∷◌, ◌++◌, flat_map, length, drop, drop-cons, get_or, add-one, Bool, true, false, not, Result, Ok, Err, refl, sym, ap, subst, ◌∙◌}
use Rattle.std.specs.Prelude.{fold}
use Rattle.std.specs.Result.{IsErrAnd}
use Rattle.std.proofs.lemmas.Result.{err_from_is_err_and}
use Rattle.std.proofs.lemmas.List.{drop_all}
use Rattle.std.proofs.lemmas.List.Concat.{flat_map-cons}
use Rattle.lz_base.specs.declared.rule.Rule.TheVariants as r
use Rattle.lz_base.specs.declared.fault.Stop.{Stop}
use Rattle.lz_base.specs.declared.fault.Stop.TheVariants as stop
use Rattle.v_meaning.specs.declared.names.Entry.{Entry}
use Rattle.v_meaning.specs.MarkRules.{place_if}
use Rattle.v_declare.specs.Walks.{first_of, StopsAt, Judges, along}

-- ---- faults behind one another

none_of : (xs : List ℕ) → first_of xs ≡ [] → xs ≡ []
none_of [] h = refl
none_of (x ∷ xs) h = absurd (cc h)

-- the same first fault
pub same_stop : (e : Stop) (xs zs : List ℕ) → first_of zs ≡ first_of xs → StopsAt xs e → StopsAt zs e
same_stop (stop.Fault fault) xs zs is h = (h.0, is ∙ h.1)
same_stop stop.OutOfMemory xs zs is h = tt

pub same_answer : {T : Type 0} (answer : Result T Stop) (xs zs : List ℕ) → first_of zs ≡ first_of xs → Judges xs answer → Judges zs answer
same_answer (Ok x) xs zs is h = is ∙ h
same_answer (Err e) xs zs is h = same_stop e xs zs is h

-- what comes behind a fault is no matter
first_stays : (xs ys : List ℕ) (at : ℕ) → first_of xs ≡ at ∷ [] → first_of (xs ++ ys) ≡ at ∷ []
first_stays [] ys at h = absurd (cc h)
first_stays (x ∷ xs) ys at h = h

pub stops_first : (e : Stop) (xs ys zs : List ℕ) → zs ≡ xs ++ ys → StopsAt xs e → StopsAt zs e
stops_first (stop.Fault fault) xs ys zs is h = (h.0, ap first_of is ∙ first_stays xs ys fault.at h.1)
stops_first stop.OutOfMemory xs ys zs is h = tt

-- where there is no fault before, those behind decide
pub behind_none : (xs ys zs : List ℕ) → zs ≡ xs ++ ys → first_of xs ≡ [] → first_of zs ≡ first_of ys
behind_none xs ys zs is none = ap first_of is ∙ ap (λ (l : List ℕ). first_of (l ++ ys)) (none_of xs none)

pub stops_behind : (e : Stop) (xs ys zs : List ℕ) → zs ≡ xs ++ ys → first_of xs ≡ [] → StopsAt ys e → StopsAt zs e
stops_behind e xs ys zs is none = same_stop e ys zs (behind_none xs ys zs is none)

pub answers_behind : {T : Type 0} (answer : Result T Stop) (xs ys zs : List ℕ) → zs ≡ xs ++ ys → first_of xs ≡ [] → Judges ys answer → Judges zs answer
answers_behind answer xs ys zs is none = same_answer answer ys zs (behind_none xs ys zs is none)

-- an error that is handed on
pub fails : {T : Type 0} (answer : Result T Stop) (e : Stop) (zs : List ℕ) → IsErrAnd answer (λ d. d ≡ e) → StopsAt zs e → Judges zs answer
fails answer e zs is h = let p = err_from_is_err_and answer is in subst (Judges zs) (sym (p.1 ∙ ap Err p.2)) h

-- E7 at one place
pub at_place : (test : Bool) (at : ℕ) (e : Stop) → test ≡ false → e ≡ stop.Fault (record { rule = r.E7; at = at }) → StopsAt (place_if (not test) at) e
at_place test at e is same = rw (is, same) (refl, refl)

pub no_place : (test : Bool) (at : ℕ) → test ≡ true → first_of (place_if (not test) at) ≡ []
no_place test at is = rw is refl

-- ---- loops

pub next_is : {A : Type 0} (xs : List A) (i : ℕ) (x : A) → i < length xs → x ≡ get_or xs i x → drop i xs ≡ x ∷ drop (i + 1) xs
next_is xs i x h is = rw (add-one i) (drop-cons xs i x h ∙ ap (λ y. y ∷ drop (suc i) xs) (sym is))

-- none of the elements before this one has a fault
pub record Left {A : Type 0} (faults : A → List ℕ) (xs : List A) (i : ℕ) : Type 0 where
  pub same : first_of (flat_map faults xs) ≡ first_of (flat_map faults (drop i xs))

left_is : {A : Type 0} (faults : A → List ℕ) (xs : List A) (i : ℕ) (x : A) → i < length xs → x ≡ get_or xs i x →
    flat_map faults (drop i xs) ≡ faults x ++ flat_map faults (drop (i + 1) xs)
left_is {A = A} faults xs i x h is = ap (λ (l : List A). flat_map faults l) (next_is xs i x h is) ∙ flat_map-cons faults x (drop (i + 1) xs)

pub left_next : {A : Type 0} (faults : A → List ℕ) (xs : List A) (i : ℕ) (x : A) → i < length xs → x ≡ get_or xs i x → first_of (faults x) ≡ [] →
    Left faults xs i → Left faults xs (i + 1)
left_next faults xs i x h is none l = record {
  same = l.same ∙ behind_none (faults x) (flat_map faults (drop (i + 1) xs)) (flat_map faults (drop i xs)) (left_is faults xs i x h is) none;
}

pub left_stops : {A : Type 0} (faults : A → List ℕ) (xs : List A) (i : ℕ) (x : A) (e : Stop) → i < length xs → x ≡ get_or xs i x → StopsAt (faults x) e →
    Left faults xs i → StopsAt (flat_map faults xs) e
left_stops faults xs i x e h is stops l =
    same_stop e (flat_map faults (drop i xs)) (flat_map faults xs) l.same
    (stops_first e (faults x) (flat_map faults (drop (i + 1) xs)) (flat_map faults (drop i xs)) (left_is faults xs i x h is) stops)

pub left_ends : {A : Type 0} (faults : A → List ℕ) (xs : List A) (i : ℕ) → length xs ≤ i → Left faults xs i → first_of (flat_map faults xs) ≡ []
left_ends {A = A} faults xs i h l = l.same ∙ ap (λ (ys : List A). first_of (flat_map faults ys)) (drop_all i xs h)

-- None of the elements before this one has a fault, and these are the names behind them.
pub record Along {A : Type 0} (faults : List Entry → A → List ℕ) (behind : List Entry → A → List Entry) (begun : List Entry) (xs : List A) (i : ℕ) (now : List Entry) : Type 0 where
  pub same : first_of (along faults behind begun xs) ≡ first_of (along faults behind now (drop i xs))
  pub names : fold behind begun xs ≡ fold behind now (drop i xs)

pub along_begins : {A : Type 0} (faults : List Entry → A → List ℕ) (behind : List Entry → A → List Entry) (begun : List Entry) (xs : List A) → Along faults behind begun xs 0 begun
along_begins faults behind begun xs = record { same = refl; names = refl }

pub along_next : {A : Type 0} (faults : List Entry → A → List ℕ) (behind : List Entry → A → List Entry) (begun : List Entry) (xs : List A) (i : ℕ) (x : A) (now after : List Entry) →
    i < length xs → x ≡ get_or xs i x → first_of (faults now x) ≡ [] → after ≡ behind now x → Along faults behind begun xs i now → Along faults behind begun xs (i + 1) after
along_next {A = A} faults behind begun xs i x now after h is none new l = record {
  same = l.same ∙ ap (λ (ys : List A). first_of (along faults behind now ys)) (next_is xs i x h is)
      ∙ behind_none (faults now x) (along faults behind (behind now x) (drop (i + 1) xs)) (along faults behind now (x ∷ drop (i + 1) xs)) refl none
      ∙ ap (λ (ns : List Entry). first_of (along faults behind ns (drop (i + 1) xs))) (sym new);
  names = l.names ∙ ap (λ (ys : List A). fold behind now ys) (next_is xs i x h is) ∙ ap (λ (ns : List Entry). fold behind ns (drop (i + 1) xs)) (sym new);
}

pub along_stops : {A : Type 0} (faults : List Entry → A → List ℕ) (behind : List Entry → A → List Entry) (begun : List Entry) (xs : List A) (i : ℕ) (x : A) (now : List Entry) (e : Stop) →
    i < length xs → x ≡ get_or xs i x → StopsAt (faults now x) e → Along faults behind begun xs i now → StopsAt (along faults behind begun xs) e
along_stops {A = A} faults behind begun xs i x now e h is stops l =
    same_stop e (along faults behind now (drop i xs)) (along faults behind begun xs) l.same
    (stops_first e (faults now x) (along faults behind (behind now x) (drop (i + 1) xs)) (along faults behind now (drop i xs)) (ap (λ (ys : List A). along faults behind now ys) (next_is xs i x h is)) stops)

pub along_ends : {A : Type 0} (faults : List Entry → A → List ℕ) (behind : List Entry → A → List Entry) (begun : List Entry) (xs : List A) (i : ℕ) (now : List Entry) →
    length xs ≤ i → Along faults behind begun xs i now → first_of (along faults behind begun xs) ≡ []
along_ends {A = A} faults behind begun xs i now h l = l.same ∙ ap (λ (ys : List A). first_of (along faults behind now ys)) (drop_all i xs h)

pub along_behind : {A : Type 0} (faults : List Entry → A → List ℕ) (behind : List Entry → A → List Entry) (begun : List Entry) (xs : List A) (i : ℕ) (now : List Entry) →
    length xs ≤ i → Along faults behind begun xs i now → now ≡ fold behind begun xs
along_behind {A = A} faults behind begun xs i now h l = sym (l.names ∙ ap (λ (ys : List A). fold behind now ys) (drop_all i xs h))
