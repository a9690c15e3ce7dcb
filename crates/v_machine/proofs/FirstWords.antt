-- The words of a memory, made one after another, and what they add to a moment.
use Rattle.std.proofs.Common.{◌≡◌, ◌≤◌, ◌<◌, ◌+◌, ◌-◌, ◌*◌, ap, sym, ◌∙◌, subst, arith, refl, ℕ, zero, suc, add-one, append_assoc, Some, false, length, drop, map, take, ◌++◌, List, [], ◌∷◌, Bool}
use Rattle.std.specs.Prelude.{◌^◌, replicate, reverse}
use Rattle.std.proofs.lemmas.List.{length-drop, map-append}
use Rattle.std.proofs.lemmas.Grind.{common_steps}
use Rattle.std.proofs.lemmas.Nat.{pow_pos}
use Rattle.lz_base.specs.Bits.{number_of}
use Rattle.v_meaning.specs.Designs.{words_from}
use Rattle.v_meaning.specs.declared.names.Entry.{Entry}
use Rattle.v_values.specs.Moments.{MemoryValue, MomentValue}
use Rattle.v_values.specs.Seen.{AreBelow, all_counts, all_widths, all_words}
use Rattle.v_machine.specs.Firsts.{added_as}

-- so many of the words are made, and these bits are left for the others
pub record AreLeft (width count made : ℕ) (bits : List Bool) (words : List ℕ) (left : List Bool) : Type 0 where
  pub values : words ++ words_from (replicate (count - made) width) left ≡ words_from (replicate count width) bits
  pub rest : left ≡ drop (made * width) bits
  pub many : (count - made) * width ≤ length left
  pub below : AreBelow width words

drop_again : {X : Type 0} (a b : ℕ) (xs : List X) → drop b (drop a xs) ≡ drop (a + b) xs
drop_again a b xs = sym (drop_both a b xs) where
  drop_both : {X : Type 0} (s n : ℕ) (xs : List X) → drop (s + n) xs ≡ drop n (drop s xs)
  drop_both s n xs = grind (arith, common_steps)

-- a memory has as many words as are made
pub words_made : (count width : ℕ) (bits : List Bool) → length (words_from (replicate count width) bits) ≡ count
words_made zero width bits = refl
words_made (suc n) width bits = ap suc (words_made n width (drop width bits))

times_more : (k w : ℕ) → (k + 1) * w ≡ k * w + w
times_more k w = grind arith

pub is_below : (width n : ℕ) (words : List ℕ) → AreBelow width words → n < 2 ^ width → AreBelow width (words ++ n ∷ [])
is_below width n [] h below zero = below
is_below width n [] h below (suc i) = pow_pos width
is_below width n (x ∷ xs) h below zero = h 0
is_below width n (x ∷ xs) h below (suc i) = is_below width n xs (λ j. h (suc j)) below i

pub word_next : (width count made : ℕ) (bits : List Bool) (words pushed : List ℕ) (left own rest : List Bool) (n : ℕ) → made < count → own ≡ take width left →
    rest ≡ drop width left → n ≡ number_of (reverse own) → n < 2 ^ width → pushed ≡ words ++ n ∷ [] → AreLeft width count made bits words left →
    AreLeft width count (made + 1) bits pushed rest
word_next width count made bits words pushed left own rest n h front back value below push a =
    let k : ℕ = count - (made + 1) in
    let e : count - made ≡ k + 1 = omega arith in
    let all : (k + 1) * width ≤ length left = subst (λ (m : ℕ). m * width ≤ length left) e a.many in
    let more : words_from (replicate (count - made) width) left ≡ number_of (reverse (take width left)) ∷ words_from (replicate k width) (drop width left) =
    ap (λ (m : ℕ). words_from (replicate m width) left) (e ∙ add-one k) in
    record {
      values = (λ i. push i ++ words_from (replicate k width) (back i)) ∙ append_assoc words (n ∷ []) (words_from (replicate k width) (drop width left))
          ∙ ap (λ (m : ℕ). words ++ m ∷ words_from (replicate k width) (drop width left)) (value ∙ ap (λ (bs : List Bool). number_of (reverse bs)) front)
          ∙ sym (ap (λ (ms : List ℕ). words ++ ms) more) ∙ a.values;
      rest = back ∙ ap (drop width) a.rest ∙ drop_again (made * width) width bits ∙ ap (λ (m : ℕ). drop m bits) (sym (times_more made width));
      many = omega (arith, ap (λ (bs : List Bool). length bs) back, length-drop width left, all, times_more k width);
      below = subst (AreBelow width) (sym push) (is_below width n words a.below below);
    }

last_seen : {X : Type 0} (f : MemoryValue → X) (memories pushed : List MemoryValue) (one other : MemoryValue) → pushed ≡ memories ++ one ∷ [] → one ≡ other →
    map f pushed ≡ map f memories ++ f other ∷ []
last_seen f memories pushed one other push is = ap (map f) push ∙ map-append f memories (one ∷ []) ∙ ap (λ (x : MemoryValue). map f memories ++ f x ∷ []) is

-- the words of one more memory
pub memory_added : (e : Entry) (bits : List Bool) (count : ℕ) (m : MomentValue) (memories pushed : List MemoryValue) (one : MemoryValue) →
    one ≡ record { width = e.width; words = words_from (replicate count e.width) bits } → pushed ≡ memories ++ one ∷ [] → m.view.store.memories ≡ all_words memories →
    m.shape.memories ≡ all_widths memories → m.shape.counts ≡ all_counts memories →
    record {
      view = record m.view { store = record m.view.store { memories = all_words pushed } };
      shape = record m.shape { memories = all_widths pushed; counts = all_counts pushed };
    } ≡ added_as false (Some count) e bits m
memory_added e bits count m memories pushed one is push words widths counts =
    let other : MemoryValue = record { width = e.width; words = words_from (replicate count e.width) bits } in
    let words_last = last_seen (λ x. x.words) memories pushed one other push is ∙ ap (λ (ws : List (List ℕ)). ws ++ other.words ∷ []) (sym words) in
    let widths_last = last_seen (λ x. x.width) memories pushed one other push is ∙ ap (λ (ns : List ℕ). ns ++ e.width ∷ []) (sym widths) in
    let counts_last = last_seen (λ x. length x.words) memories pushed one other push is ∙ (λ i. sym counts i ++ words_made count e.width bits i ∷ []) in
    λ i. record {
      view = record m.view { store = record m.view.store { memories = words_last i } };
      shape = record m.shape { memories = widths_last i; counts = counts_last i };
    }
