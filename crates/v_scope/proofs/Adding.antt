-- Occurrences that are appended one behind another, and by the rounds of a loop.
use Rattle.std.proofs.Common.{◌≡◌, ◌<◌, ◌≤◌, ◌+◌, ℕ, suc, List, [], ◌∷◌, ◌++◌, flat_map, length, drop, drop-cons, get_or, add-one, append_assoc, Result, Ok, Err, OnOk, refl, sym, ap, ◌∙◌}
use Rattle.std.proofs.lemmas.List.{map-append, append-nil, drop_all}
use Rattle.std.proofs.lemmas.List.Concat.{flat_map-cons}
use Rattle.v_meaning.specs.declared.names.Entry.{Entry}
use Rattle.v_meaning.specs.Marks.{Mark}
use Rattle.v_scope.specs.declared.occurrence.Occurrence.{Occurrence}
use Rattle.v_scope.specs.Occurrences.{mark_of, marks_in, Adds}

-- one occurrence
pub one_more : (old new : List Occurrence) (o : Occurrence) → new ≡ old ++ o ∷ [] → Adds old new (λ names. mark_of names o ∷ [])
one_more old new o is = record { added = λ names. ap (marks_in names) is ∙ map-append (mark_of names) old (o ∷ []) }

-- none
pub none_more : (all : List Occurrence) (f : List Entry → List Mark) → ((names : List Entry) → f names ≡ []) → Adds all all f
none_more all f h = record { added = λ names. sym (ap (λ (l : List Mark). marks_in names all ++ l) (h names) ∙ append-nil (marks_in names all)) }

-- the same marks
pub same_more : (a b : List Occurrence) (f h : List Entry → List Mark) → ((names : List Entry) → h names ≡ f names) → Adds a b f → Adds a b h
same_more a b f h is p = record { added = λ names. p.added names ∙ ap (λ (l : List Mark). marks_in names a ++ l) (sym (is names)) }

-- some, and then some more
pub then_more : (a b c : List Occurrence) (f g h : List Entry → List Mark) → ((names : List Entry) → h names ≡ f names ++ g names) → Adds a b f → Adds b c g → Adds a c h
then_more a b c f g h is p q = record {
  added = λ names. q.added names ∙ ap (λ (l : List Mark). l ++ g names) (p.added names) ∙ append_assoc (marks_in names a) (f names) (g names)
      ∙ ap (λ (l : List Mark). marks_in names a ++ l) (sym (is names));
}

on_ok : {T E : Type 0} {P Q : Type 0} (r : Result T E) → (P → Q) → OnOk r P → OnOk r Q
on_ok (Ok x) f p = f p
on_ok (Err e) f p = tt

-- the same where the last call's answer is handed on
pub same_end : {T E : Type 0} (r : Result T E) (a b : List Occurrence) (f h : List Entry → List Mark) → ((names : List Entry) → h names ≡ f names) → OnOk r (Adds a b f) → OnOk r (Adds a b h)
same_end r a b f h is p = on_ok r (same_more a b f h is) p

pub then_end : {T E : Type 0} (r : Result T E) (a b c : List Occurrence) (f g h : List Entry → List Mark) → ((names : List Entry) → h names ≡ f names ++ g names) → Adds a b f → OnOk r (Adds b c g) → OnOk r (Adds a c h)
then_end r a b c f g h is p q = on_ok r (then_more a b c f g h is p) q

-- three
pub three_end : {T E : Type 0} (r : Result T E) (a b c d : List Occurrence) (f g k h : List Entry → List Mark) → ((names : List Entry) → h names ≡ f names ++ g names ++ k names) → Adds a b f → Adds b c g → OnOk r (Adds c d k) → OnOk r (Adds a d h)
three_end r a b c d f g k h is p q s = then_end r a c d (λ names. f names ++ g names) k h is (then_more a b c f g (λ names. f names ++ g names) (λ names. refl) p q) s

-- some, and then those of a list
pub then_each : {A T E : Type 0} (r : Result T E) (a b c : List Occurrence) (f : List Entry → List Mark) (F : List Entry → A → List Mark) (xs ys : List A) → ys ≡ xs →
    Adds a b f → OnOk r (Adds b c (λ names. flat_map (F names) ys)) → OnOk r (Adds a c (λ names. f names ++ flat_map (F names) xs))
then_each {A = A} r a b c f F xs ys is p q =
    then_end r a b c f (λ names. flat_map (F names) ys) (λ names. f names ++ flat_map (F names) xs) (λ names. ap (λ (zs : List A). f names ++ flat_map (F names) zs) (sym is)) p q

-- What is listed and what the elements from this one on have is what was listed at first and what all have.
pub record Each {A : Type 0} (f : List Entry → A → List Mark) (xs : List A) (i : ℕ) (begun now : List Occurrence) : Type 0 where
  pub same : (names : List Entry) → marks_in names now ++ flat_map (f names) (drop i xs) ≡ marks_in names begun ++ flat_map (f names) xs

pub each_begins : {A : Type 0} (f : List Entry → A → List Mark) (xs : List A) (begun : List Occurrence) → Each f xs 0 begun begun
each_begins f xs begun = record { same = λ names. refl }

pub next_is : {A : Type 0} (xs : List A) (i : ℕ) (x : A) → i < length xs → x ≡ get_or xs i x → drop i xs ≡ x ∷ drop (i + 1) xs
next_is xs i x h is = rw (add-one i) (drop-cons xs i x h ∙ ap (λ y. y ∷ drop (suc i) xs) (sym is))

pub each_next : {A : Type 0} (f : List Entry → A → List Mark) (xs : List A) (i : ℕ) (x : A) (begun now after : List Occurrence) →
    i < length xs → x ≡ get_or xs i x → Adds now after (λ names. f names x) → Each f xs i begun now → Each f xs (i + 1) begun after
each_next {A = A} f xs i x begun now after h is p e = record {
  same = λ names. ap (λ (l : List Mark). l ++ flat_map (f names) (drop (i + 1) xs)) (p.added names)
      ∙ append_assoc (marks_in names now) (f names x) (flat_map (f names) (drop (i + 1) xs))
      ∙ ap (λ (l : List Mark). marks_in names now ++ l) (sym (ap (λ (ys : List A). flat_map (f names) ys) (next_is xs i x h is) ∙ flat_map-cons (f names) x (drop (i + 1) xs)))
      ∙ e.same names;
}

pub each_ends : {A : Type 0} (f : List Entry → A → List Mark) (xs : List A) (i : ℕ) (begun now : List Occurrence) → length xs ≤ i → Each f xs i begun now → Adds begun now (λ names. flat_map (f names) xs)
each_ends {A = A} f xs i begun now h e = record {
  added = λ names. sym (ap (λ (ys : List A). marks_in names now ++ flat_map (f names) ys) (drop_all i xs h) ∙ append-nil (marks_in names now)) ∙ e.same names;
}
