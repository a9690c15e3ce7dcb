-- Sites that are appended step after step, and by the rounds of a loop.
use Rattle.std.proofs.Common.{◌≡◌, ◌<◌, ◌≤◌, ◌+◌, ℕ, suc, List, [], ◌∷◌, ◌++◌, map, flat_map, length, drop, drop-cons, get_or, add-one, append_assoc, Bool, true, Result, Ok, Err, OnOk, refl, sym, ap, ◌∙◌}
use Rattle.std.specs.Prelude.{◌&&◌}
use Rattle.std.specs.List.{list_all}
use Rattle.std.proofs.lemmas.Bool.{le-leb}
use Rattle.std.proofs.lemmas.List.{map-append, append-nil, drop_all}
use Rattle.std.proofs.lemmas.List.Concat.{flat_map-cons}
use Rattle.v_meaning.specs.Sites.{Site}
use Rattle.v_core.specs.declared.modules.TypedSite.{TypedSite}
use Rattle.v_core.specs.Formed.{is_width}
use Rattle.v_sites.specs.Found.{site_in, are_words}
use Rattle.v_sites.specs.Adding.{Adds}
use Rattle.v_sites.proofs.Sound.{one_of}

-- a word behind others
word_behind : (old : List TypedSite) (s : TypedSite) → is_width s.width ≡ true → are_words (old ++ s ∷ []) ≡ are_words old
word_behind [] s h = ap (λ (b : Bool). b && true) h
word_behind (x ∷ old) s h = ap (λ (b : Bool). is_width x.width && b) (word_behind old s h)

-- one site
pub one_more : (sound : Bool) (old new : List TypedSite) (s : TypedSite) → 1 ≤ s.width → s.width ≤ 128 → new ≡ old ++ s ∷ [] → Adds sound old new (site_in s ∷ [])
one_more sound old new s least most is = record {
  added = λ h. ap (λ (l : List TypedSite). map site_in l) is ∙ map-append site_in old (s ∷ []);
  words = ap are_words is ∙ word_behind old s (λ i. le-leb 1 s.width least i && le-leb s.width 128 most i);
}

-- none
pub none_more : (sound : Bool) (found : List TypedSite) (f : List Site) → (sound ≡ true → f ≡ []) → Adds sound found found f
none_more sound found f is = record { added = λ h. sym (ap (λ (l : List Site). map site_in found ++ l) (is h) ∙ append-nil (map site_in found)); words = refl }

-- the same sites
pub same_more : {s u : Bool} {a b : List TypedSite} {f h : List Site} → (u ≡ true → s ≡ true) → h ≡ f → Adds s a b f → Adds u a b h
same_more {a = a} sound is p = record { added = λ h. p.added (sound h) ∙ ap (λ (l : List Site). map site_in a ++ l) (sym is); words = p.words }

-- some, and then some more
pub then_more : {s t u : Bool} {a b c : List TypedSite} {f g h : List Site} → (u ≡ true → s ≡ true) → (u ≡ true → t ≡ true) → h ≡ f ++ g →
    Adds s a b f → Adds t b c g → Adds u a c h
then_more {a = a} {f = f} {g = g} first second is p q = record {
  added = λ h. q.added (second h) ∙ ap (λ (l : List Site). l ++ g) (p.added (first h)) ∙ append_assoc (map site_in a) f g ∙ ap (λ (l : List Site). map site_in a ++ l) (sym is);
  words = q.words ∙ p.words;
}

-- three
pub three_more : {s t w u : Bool} {a b c d : List TypedSite} {f g k h : List Site} → (u ≡ true → s ≡ true) → (u ≡ true → t ≡ true) → (u ≡ true → w ≡ true) → h ≡ f ++ g ++ k →
    Adds s a b f → Adds t b c g → Adds w c d k → Adds u a d h
three_more first second third is p q r = then_more (λ h. h) third is (then_more first second refl p q) r

-- where the last call's answer is handed on
pub on_ok : {T E : Type 0} {P Q : Type 0} (r : Result T E) → (P → Q) → OnOk r P → OnOk r Q
on_ok (Ok x) f p = f p
on_ok (Err e) f p = tt

-- ---- loops

-- If all elements are sound, what was found and the sites of the elements from this one on are what was found at first and the
-- sites of all elements. What was found has words where those had that were found at first.
pub record Each {A : Type 0} (sound : A → Bool) (f : A → List Site) (xs : List A) (i : ℕ) (begun now : List TypedSite) : Type 0 where
  pub same : list_all sound xs ≡ true → map site_in now ++ flat_map f (drop i xs) ≡ map site_in begun ++ flat_map f xs
  pub words : are_words now ≡ are_words begun

next_is : {A : Type 0} (xs : List A) (i : ℕ) (x : A) → i < length xs → x ≡ get_or xs i x → drop i xs ≡ x ∷ drop (i + 1) xs
next_is xs i x h is = rw (add-one i) (drop-cons xs i x h ∙ ap (λ y. y ∷ drop (suc i) xs) (sym is))

pub each_next : {A : Type 0} (sound : A → Bool) (f : A → List Site) {xs : List A} {i : ℕ} {x : A} {begun now after : List TypedSite} →
    i < length xs → x ≡ get_or xs i x → Adds (sound x) now after (f x) → Each sound f xs i begun now → Each sound f xs (i + 1) begun after
each_next {A = A} sound f {xs = xs} {i = i} {x = x} {now = now} h is p e = record {
  same = λ all. ap (λ (l : List Site). l ++ flat_map f (drop (i + 1) xs)) (p.added (one_of sound xs i x h is all))
      ∙ append_assoc (map site_in now) (f x) (flat_map f (drop (i + 1) xs))
      ∙ ap (λ (l : List Site). map site_in now ++ l) (sym (ap (λ (ys : List A). flat_map f ys) (next_is xs i x h is) ∙ flat_map-cons f x (drop (i + 1) xs)))
      ∙ e.same all;
  words = p.words ∙ e.words;
}

pub each_ends : {A : Type 0} (sound : A → Bool) (f : A → List Site) {xs : List A} {i : ℕ} {begun now : List TypedSite} → length xs ≤ i → Each sound f xs i begun now →
    Adds (list_all sound xs) begun now (flat_map f xs)
each_ends {A = A} sound f {xs = xs} {i = i} {now = now} h e = record {
  added = λ all. sym (ap (λ (ys : List A). map site_in now ++ flat_map f ys) (drop_all i xs h) ∙ append-nil (map site_in now)) ∙ e.same all;
  words = e.words;
}
