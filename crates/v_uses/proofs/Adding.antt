-- What is added step after step, and by the rounds of a loop.
use Rattle.std.proofs.Common.{◌≡◌, ◌<◌, ◌≤◌, ◌+◌, ℕ, suc, List, [], ◌∷◌, ◌++◌, map, flat_map, length, drop, drop-cons, get_or, add-one, append_assoc, Result, Ok, Err, OnOk, Bor, refl, sym, ap, ◌∙◌}
use Rattle.std.proofs.lemmas.List.{map-append, drop_all}
use Rattle.std.proofs.lemmas.List.Concat.{flat_map-cons}
use Rattle.v_syntax.specs.declared.token.Ident.{Ident}
use Rattle.v_meaning.specs.ProcessRules.{Written, reads_in, writes_in}
use Rattle.v_meaning.specs.Uses.{Read, Write}
use Rattle.v_uses.specs.declared.accesses.Accesses.{Accesses}
use Rattle.v_uses.specs.declared.gathered.Write as g
use Rattle.v_uses.specs.Gathered.{written_in}
use Rattle.v_uses.specs.Adding.{Adds, accessed}

-- one element behind a list, and more behind that
pub behind : {A B : Type 0} (f : A → B) (old new : List A) (x : A) (more : List B) → new ≡ old ++ x ∷ [] → map f new ++ more ≡ map f old ++ f x ∷ more
behind {A = A} {B = B} f old new x more is =
    ap (λ (l : List A). map f l ++ more) is ∙ ap (λ (l : List B). l ++ more) (map-append f old (x ∷ [])) ∙ append_assoc (map f old) (f x ∷ []) more

-- a name that is read
pub one_read : (old new : Accesses) (n : Bor Ident) → new.reads ≡ old.reads ++ n ∷ [] → new.writes ≡ old.writes → Adds accessed old new (λ (bits : ℕ). Read n.now bits ∷ [])
one_read old new n is same = record {
  added = λ bits more. ap (λ (l : List Ident). (l, map written_in new.writes ++ writes_in more)) (behind (λ (m : Bor Ident). m.now) old.reads new.reads n (reads_in more) is)
      ∙ ap (λ (l : List g.Write). (map (λ (m : Bor Ident). m.now) old.reads ++ n.now ∷ reads_in more, map written_in l ++ writes_in more)) same;
}

-- a target
pub one_write : (old new : Accesses) (w : g.Write) → new.writes ≡ old.writes ++ w ∷ [] → new.reads ≡ old.reads → Adds accessed old new (λ (bits : ℕ). Write w.name.now w.kind bits ∷ [])
one_write old new w is same = record {
  added = λ bits more. ap (λ (l : List Written). (map (λ (m : Bor Ident). m.now) new.reads ++ reads_in more, l)) (behind written_in old.writes new.writes w (writes_in more) is)
      ∙ ap (λ (l : List (Bor Ident)). (map (λ (m : Bor Ident). m.now) l ++ reads_in more, map written_in old.writes ++ written_in w ∷ writes_in more)) same;
}

-- none
pub none_more : {C S M R : Type 0} {seen : S → List M → R} {f : C → List M} (all : S) → ((c : C) → f c ≡ []) → Adds seen all all f
none_more {M = M} {seen = seen} all is = record { added = λ c more. ap (λ (l : List M). seen all (l ++ more)) (sym (is c)) }

-- the same, which now depend on something else
pub same_more : {C D S M R : Type 0} {seen : S → List M → R} {a b : S} {f : C → List M} {h : D → List M} (pick : D → C) → ((d : D) → h d ≡ f (pick d)) → Adds seen a b f → Adds seen a b h
same_more {M = M} {seen = seen} {a = a} pick is p = record { added = λ d more. p.added (pick d) more ∙ ap (λ (l : List M). seen a (l ++ more)) (sym (is d)) }

-- some, and then some more
pub then_more : {C S M R : Type 0} {seen : S → List M → R} {a b c : S} {f g h : C → List M} → ((x : C) → h x ≡ f x ++ g x) → Adds seen a b f → Adds seen b c g → Adds seen a c h
then_more {M = M} {seen = seen} {a = a} {f = f} {g = g} is p q = record {
  added = λ x more. q.added x more ∙ p.added x (g x ++ more) ∙ ap (seen a) (sym (append_assoc (f x) (g x) more)) ∙ ap (λ (l : List M). seen a (l ++ more)) (sym (is x));
}

-- three
pub three_more : {C S M R : Type 0} {seen : S → List M → R} {a b c d : S} {f g k h : C → List M} → ((x : C) → h x ≡ f x ++ g x ++ k x) →
    Adds seen a b f → Adds seen b c g → Adds seen c d k → Adds seen a d h
three_more is p q r = then_more is (then_more (λ x. refl) p q) r

-- where the last call's answer is handed on
pub on_ok : {T E : Type 0} {P Q : Type 0} (r : Result T E) → (P → Q) → OnOk r P → OnOk r Q
on_ok (Ok x) f p = f p
on_ok (Err e) f p = tt

-- ---- loops

-- What was gathered with the elements from this one on behind it is what was gathered at first with all elements behind it.
pub record Each {C S M R A : Type 0} (seen : S → List M → R) (f : C → A → List M) (xs : List A) (i : ℕ) (begun now : S) : Type 0 where
  pub same : (c : C) (more : List M) → seen now (flat_map (f c) (drop i xs) ++ more) ≡ seen begun (flat_map (f c) xs ++ more)

next_is : {A : Type 0} (xs : List A) (i : ℕ) (x : A) → i < length xs → x ≡ get_or xs i x → drop i xs ≡ x ∷ drop (i + 1) xs
next_is xs i x h is = rw (add-one i) (drop-cons xs i x h ∙ ap (λ y. y ∷ drop (suc i) xs) (sym is))

pub each_next : {C S M R A : Type 0} {seen : S → List M → R} (f : C → A → List M) {xs : List A} {i : ℕ} {x : A} {begun now after : S} →
    i < length xs → x ≡ get_or xs i x → Adds seen now after (λ c. f c x) → Each seen f xs i begun now → Each seen f xs (i + 1) begun after
each_next {M = M} {A = A} {seen = seen} f {xs = xs} {i = i} {x = x} {now = now} h is p e = record {
  same = λ c more. p.added c (flat_map (f c) (drop (i + 1) xs) ++ more)
      ∙ ap (seen now) (sym (append_assoc (f c x) (flat_map (f c) (drop (i + 1) xs)) more))
      ∙ ap (λ (l : List M). seen now (l ++ more)) (sym (ap (λ (ys : List A). flat_map (f c) ys) (next_is xs i x h is) ∙ flat_map-cons (f c) x (drop (i + 1) xs)))
      ∙ e.same c more;
}

pub each_ends : {C S M R A : Type 0} {seen : S → List M → R} (f : C → A → List M) {xs : List A} {i : ℕ} {begun now : S} → length xs ≤ i → Each seen f xs i begun now → Adds seen begun now (λ c. flat_map (f c) xs)
each_ends {A = A} {seen = seen} f {xs = xs} {i = i} {now = now} h e = record {
  added = λ c more. sym (ap (λ (ys : List A). seen now (flat_map (f c) ys ++ more)) (drop_all i xs h)) ∙ e.same c more;
}
