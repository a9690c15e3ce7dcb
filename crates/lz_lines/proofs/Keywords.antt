-- Which of several words stands at the front.
use Rattle.std.proofs.Common.{◌≡◌, ◌⊎◌, inl, inr, ℕ, ◌≤◌, List, [], ◌∷◌, ◌++◌, length, min, Bool, true, false, ◌==◌, ◌&&◌, cond, refl, arith, ap, sym, subst, ◌∙◌}
use Rattle.std.specs.Prelude.{⊤}
use Rattle.std.proofs.lemmas.Bool.Decides.{nat_tests}
use Rattle.lz_lines.specs.Fields.{IsWord}
use Rattle.lz_lines.specs.Forms.{Takes, Breaks, Anything, GoAlike}
use Rattle.lz_lines.specs.Keywords.{IsKey, OneOf, is_apart, is_apart_from, all_apart}
use Rattle.lz_lines.proofs.Forms.{either_one, either_other}

both : (a b : Bool) → (a && b) ≡ true → (a ≡ true) × (b ≡ true)
both true true e = (refl, refl)
both true false e = cc
both false b e = cc

are_equal : (x y : ℕ) → x ≡ y → (x == y) ≡ true
are_equal x y e = grind (arith, nat_tests)

-- what differs in a letter has no bytes in common
pub apart_front : (word other a b : List ℕ) → is_apart word other ≡ true → word ++ a ≡ other ++ b → ⊥
apart_front [] other a b h e = cc
apart_front (x ∷ xs) [] a b h e = cc
apart_front (x ∷ xs) (y ∷ ys) a b h e =
    let same : x ≡ y = cc (e) in
    let more : xs ++ a ≡ ys ++ b = cc (e) in
    at (x == y) refl same (λ t. apart_front xs ys a b t more) h
  where
    at : (t : Bool) → (x == y) ≡ t → x ≡ y → (is_apart xs ys ≡ true → ⊥) → cond t (is_apart xs ys) true ≡ true → ⊥
    at true t same more h = more h
    at false t same more h = let no : (x == y) ≡ true = are_equal x y same in cc

-- each of the words differs from one that is apart from them all
one_apart : {A : Type 0} (word : A → List ℕ) (last : A) (keys : List A) (text : List ℕ) → is_apart_from word text last keys ≡ true → (key : A) (other : List ℕ) → OneOf word last keys key other → is_apart text other ≡ true
one_apart word last [] text h key other is = ap (is_apart text) is.1 ∙ h
one_apart word last (k ∷ ks) text h key other (inl is) = ap (is_apart text) is.1 ∙ (both (is_apart text (word k)) _ h).0
one_apart word last (k ∷ ks) text h key other (inr is) = one_apart word last ks text (both (is_apart text (word k)) (is_apart_from word text last ks) h).1 key other is

no_keys : {A : Type 0} (keys : List A) → length keys ≡ 0 → keys ≡ []
no_keys [] e = refl
no_keys (k ∷ ks) e = absurd (omega (arith, e))

-- no other key is left
pub last_taken : {A : Type 0} (word : A → List ℕ) (last : A) (keys : List A) (spelled : List ℕ) {bytes rest : List ℕ} → length keys ≡ 0 → spelled ≡ word last → Takes (IsWord spelled) Anything bytes tt rest
    → Takes (OneOf word last keys) Anything bytes last rest
last_taken word last keys spelled {bytes = bytes} {rest = rest} none is t = subst (λ ks. Takes (OneOf word last ks) Anything bytes last rest) (sym (no_keys keys none)) (record {
  front = t.front;
  is = (refl, t.is ∙ is);
  split = t.split;
  only = λ u text behind other key any alike e. (key.0, (t.only tt text behind other (key.1 ∙ sym is) any alike e).1);
})

key_broken : {A : Type 0} (word : A → List ℕ) (key : A) (spelled : List ℕ) {bytes : List ℕ} {left : ℕ} → spelled ≡ word key → Breaks (IsWord spelled) Anything bytes left → Breaks (IsKey word key) Anything bytes left
key_broken word key spelled is b = record {
  front = b.front;
  back = b.back;
  split = b.split;
  size = b.size;
  begun = key;
  more = b.more;
  begins = (refl, b.begins ∙ is);
  stuck = λ u text behind other key any alike e. b.stuck tt text behind other (key.1 ∙ sym is) any alike e;
}

pub last_broken : {A : Type 0} (word : A → List ℕ) (last : A) (keys : List A) (spelled : List ℕ) {bytes : List ℕ} {left : ℕ} → length keys ≡ 0 → spelled ≡ word last → Breaks (IsWord spelled) Anything bytes left
    → Breaks (OneOf word last keys) Anything bytes left
last_broken word last keys spelled {bytes = bytes} {left = left} none is b = subst (λ ks. Breaks (OneOf word last ks) Anything bytes left) (sym (no_keys keys none)) (key_broken word last spelled is b)

-- the first of the words is taken, and then none of the others could be
pub key_first : {A : Type 0} (word : A → List ℕ) (last key : A) (others keys : List A) (spelled : List ℕ) {bytes rest : List ℕ} → all_apart word last keys ≡ true → keys ≡ key ∷ others → spelled ≡ word key
    → Takes (IsWord spelled) Anything bytes tt rest → Takes (OneOf word last keys) Anything bytes key rest
key_first {A = A} word last key others keys spelled {bytes = bytes} {rest = rest} apart all is t =
    subst (λ ks. Takes (OneOf word last ks) Anything bytes key rest) (sym all) (record { front = t.front; is = inl (refl, t.is ∙ is); split = t.split; only = at (ap (all_apart word last) (sym all) ∙ apart) })
  where
    at : all_apart word last (key ∷ others) ≡ true → (u : A) (text behind other : List ℕ) → OneOf word last (key ∷ others) u text → ⊤ → GoAlike rest other → t.front ++ other ≡ text ++ behind → (u ≡ key) × (other ≡ behind)
    at apart u text behind other (inl k) any alike e = (k.0, (t.only tt text behind other (k.1 ∙ sym is) tt alike e).1)
    at apart u text behind other (inr k) any alike e =
        absurd (apart_front (word key) text other behind (one_apart word last others (word key) (both (is_apart_from word (word key) last others) (all_apart word last others) apart).0 u text k)
        (ap (λ l. l ++ other) (sym (t.is ∙ is)) ∙ e))

-- another of the words is taken, and then the first could not be
pub key_later : {A : Type 0} (word : A → List ℕ) (last key : A) (others keys : List A) {bytes : List ℕ} {taken : A} {rest : List ℕ} → all_apart word last keys ≡ true → keys ≡ key ∷ others
    → Takes (OneOf word last others) Anything bytes taken rest → Takes (OneOf word last keys) Anything bytes taken rest
key_later {A = A} word last key others keys {bytes = bytes} {taken = taken} {rest = rest} apart all t =
    subst (λ ks. Takes (OneOf word last ks) Anything bytes taken rest) (sym all) (record { front = t.front; is = inr t.is; split = t.split; only = at (ap (all_apart word last) (sym all) ∙ apart) })
  where
    at : all_apart word last (key ∷ others) ≡ true → (u : A) (text behind other : List ℕ) → OneOf word last (key ∷ others) u text → ⊤ → GoAlike rest other → t.front ++ other ≡ text ++ behind → (u ≡ taken) × (other ≡ behind)
    at apart u text behind other (inl k) any alike e =
        absurd (apart_front (word key) t.front behind other (one_apart word last others (word key) (both (is_apart_from word (word key) last others) (all_apart word last others) apart).0 taken t.front t.is)
        (ap (λ l. l ++ behind) (sym k.1) ∙ sym e))
    at apart u text behind other (inr k) any alike e = t.only u text behind other k tt alike e

-- the rest keeps words apart that are
pub others_apart : {A : Type 0} (word : A → List ℕ) (last key : A) (others keys : List A) → all_apart word last keys ≡ true → keys ≡ key ∷ others → all_apart word last others ≡ true
others_apart word last key others keys apart all = (both (is_apart_from word (word key) last others) (all_apart word last others) (ap (all_apart word last) (sym all) ∙ apart)).1

-- none of the words is taken
pub key_none : {A : Type 0} (word : A → List ℕ) (last key : A) (others keys : List A) (spelled : List ℕ) {bytes : List ℕ} (l m : ℕ) → keys ≡ key ∷ others → spelled ≡ word key → Breaks (IsWord spelled) Anything bytes l
    → Breaks (OneOf word last others) Anything bytes m → Breaks (OneOf word last keys) Anything bytes (min l m)
key_none word last key others keys spelled {bytes = bytes} l m all is a b = subst (λ ks. Breaks (OneOf word last ks) Anything bytes (min l m)) (sym all) (at (le_or l m))
  where
    le_or : (l m : ℕ) → (l ≤ m) ⊎ (m ≤ l)
    le_or l m = grind (arith, nat_tests)

    at : (l ≤ m) ⊎ (m ≤ l) → Breaks (OneOf word last (key ∷ others)) Anything bytes (min l m)
    at (inl less) =
        let e : l ≡ min l m = omega arith in
        subst (λ n. Breaks (OneOf word last (key ∷ others)) Anything bytes n) e (either_one (IsKey word key) (OneOf word last others) Anything less (key_broken word key spelled is a) b)
    at (inr less) =
        let e : m ≡ min l m = omega arith in
        subst (λ n. Breaks (OneOf word last (key ∷ others)) Anything bytes n) e (either_other (IsKey word key) (OneOf word last others) Anything less (key_broken word key spelled is a) b)
