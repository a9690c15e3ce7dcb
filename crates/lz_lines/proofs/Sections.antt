-- Lines section by section.
use Rattle.std.proofs.Common.{◌≡◌, ℕ, List, [], ◌∷◌, ◌++◌, flat_map, Bool, true, false, ◌&&◌, ◌||◌, not, if◌then◌else◌, is_some, IsSome, Option, None, Some, inl, inr, refl, ap, sym, subst, ◌∙◌, append_assoc, append-nil}
use Rattle.std.proofs.lemmas.List.Concat.{flat_map-cons}
use Rattle.lz_base.specs.declared.name.Port.{Port}
use Rattle.lz_lines.specs.Forms.{Lines}
use Rattle.lz_lines.specs.Keywords.{OneOf}
use Rattle.lz_lines.specs.Sections.{Section, Clock, Inputs, Flops, may_come, none, sections, those}
use Rattle.lz_lines.specs.Shared.{clock_line, input_line}
use Rattle.lz_lines.proofs.Listed.{flat_more}

pub both : (a b : Bool) → (a && b) ≡ true → (a ≡ true) × (b ≡ true)
both true true e = (refl, refl)
both true false e = cc
both false b e = cc

module _ {K : Type 0} (word : K → List ℕ) (last : K) (may : K → Bool) where
  -- a word that may come is that of a key for which the test holds, as it does for the last one
  pub opens : (ks : List K) (k : K) (text : List ℕ) → may last ≡ true → OneOf word last (those may ks) k text → (may k ≡ true) × (text ≡ word k)
  opens [] k text end is = (ap may is.0 ∙ end, is.1 ∙ ap word (sym is.0))
  opens (x ∷ xs) k text end is = at (may x) refl is (λ more. opens xs k text end more)
    where
      at : (b : Bool) → may x ≡ b → OneOf word last (if b then x ∷ those may xs else those may xs) k text → (OneOf word last (those may xs) k text → (may k ≡ true) × (text ≡ word k)) → (may k ≡ true) × (text ≡ word k)
      at true e (inl is) on = (ap may is.0 ∙ e, is.1 ∙ ap word (sym is.0))
      at true e (inr is) on = on is
      at false e is on = on is

  -- the word of a key for which the test holds may come
  pub comes : (ks : List K) (k : K) (text : List ℕ) → may k ≡ true → OneOf word last ks k text → OneOf word last (those may ks) k text
  comes [] k text e is = is
  comes (x ∷ xs) k text e (inl is) = at (may x) (ap may (sym is.0) ∙ e)
    where
      at : (b : Bool) → b ≡ true → OneOf word last (if b then x ∷ those may xs else those may xs) k text
      at true d = inl is
      at false d = cc
  comes (x ∷ xs) k text e (inr is) = at (may x) (comes xs k text e is)
    where
      at : (b : Bool) → OneOf word last (those may xs) k text → OneOf word last (if b then x ∷ those may xs else those may xs) k text
      at true more = inr more
      at false more = more

-- so may that of the last one
pub last_comes : {K : Type 0} (word : K → List ℕ) (last : K) (ks : List K) → OneOf word last ks last (word last)
last_comes word last [] = (refl, refl)
last_comes word last (k ∷ ks) = inr (last_comes word last ks)

pub inputs_may : (o l f c i : Bool) → o ≡ true → l ≡ true → f ≡ true → may_come o l f c i Inputs ≡ true
inputs_may o l f c i d e g = rw (d, e, g) refl

pub flops_may : (o l f : Bool) (clock : Option (List ℕ)) (i : Bool) → o ≡ true → l ≡ true → IsSome clock → may_come o l f (is_some clock) i Flops ≡ true
flops_may o l f None i d e some = cc
flops_may o l true (Some c) i d e some = rw (d, e) refl
flops_may o l false (Some c) i d e some = rw (d, e) refl

none_is : {A : Type 0} (xs : List A) → none xs ≡ true → xs ≡ []
none_is [] e = refl
none_is (x ∷ xs) e = cc

no_clock : (c : Option (List ℕ)) → not (is_some c) ≡ true → c ≡ None
no_clock None e = refl
no_clock (Some c) e = cc

cut_three : (x : List ℕ) → x ++ [] ++ [] ++ [] ≡ x
cut_three x = append-nil (x ++ [] ++ []) ∙ append-nil (x ++ []) ∙ append-nil x

cut_two : (x : List ℕ) → x ++ [] ++ [] ≡ x
cut_two x = append-nil (x ++ []) ∙ append-nil x

-- a part more, before parts that are empty
in_part : (front part more line new old : List ℕ) → more ≡ part ++ line → new ≡ front ++ more → old ≡ front ++ part → new ≡ old ++ line
in_part front part more line new old e f g = f ∙ ap (λ l. front ++ l) e ∙ sym (append_assoc front part line) ∙ ap (λ l. l ++ line) (sym g)

-- A line that may come next stands behind those that are there: `out` are the lines of outputs, and `o` tells that there
-- are none.
module _ {F C : Type 0} (flop_line : F → List ℕ) (cell_line : C → List ℕ) (clock : Option (List ℕ)) (ins : List Port) (fs : List F) (cs : List C) (out : List ℕ) (o : Bool) (empty : o ≡ true → out ≡ []) where
  abbrev may : Section → Bool
  may = may_come o (none cs) (none fs) (is_some clock) (none ins)

  abbrev body : Option (List ℕ) → List Port → List F → List C → List ℕ → List ℕ
  body = sections flop_line cell_line

  pub clock_more : (name : List ℕ) → may Clock ≡ true → body (Some name) ins fs cs out ≡ body clock ins fs cs out ++ clock_line (Some name)
  clock_more name h =
      let a = both o _ h in
      let b = both (none cs) _ a.1 in
      let c = both (none fs) _ b.1 in
      let d = both (not (is_some clock)) _ c.1 in
      rw (no_clock clock d.0, none_is ins d.1, none_is fs c.0, none_is cs b.0, empty a.0) (cut_three (clock_line (Some name) ++ []) ∙ append-nil (clock_line (Some name)))

  pub input_more : (p : Port) → may Inputs ≡ true → body clock (ins ++ p ∷ []) fs cs out ≡ body clock ins fs cs out ++ input_line p
  input_more p h =
      let a = both o _ h in
      let b = both (none cs) _ a.1 in
      rw (none_is fs b.1, none_is cs b.0, empty a.0) (in_part (clock_line clock) (flat_map input_line ins) (flat_map input_line (ins ++ p ∷ [])) (input_line p) _ _ (flat_more input_line ins p)
      (cut_three (clock_line clock ++ flat_map input_line (ins ++ p ∷ []))) (cut_three (clock_line clock ++ flat_map input_line ins)))

  pub flop_more : (f : F) → may Flops ≡ true → body clock ins (fs ++ f ∷ []) cs out ≡ body clock ins fs cs out ++ flop_line f
  flop_more f h =
      let a = both o _ h in
      let b = both (none cs) _ a.1 in
      let front = clock_line clock ++ flat_map input_line ins in
      rw (none_is cs b.0, empty a.0) (in_part front (flat_map flop_line fs) (flat_map flop_line (fs ++ f ∷ [])) (flop_line f) _ _ (flat_more flop_line fs f)
      (cut_two (front ++ flat_map flop_line (fs ++ f ∷ []))) (cut_two (front ++ flat_map flop_line fs)))

  pub cell_more : (c : C) → o ≡ true → body clock ins fs (cs ++ c ∷ []) out ≡ body clock ins fs cs out ++ cell_line c
  cell_more c h =
      let front = clock_line clock ++ flat_map input_line ins ++ flat_map flop_line fs in
      rw (empty h) (in_part front (flat_map cell_line cs) (flat_map cell_line (cs ++ c ∷ [])) (cell_line c) _ _ (flat_more cell_line cs c)
      (append-nil (front ++ flat_map cell_line (cs ++ c ∷ []))) (append-nil (front ++ flat_map cell_line cs)))

  pub output_more : (more line : List ℕ) → more ≡ out ++ line → body clock ins fs cs more ≡ body clock ins fs cs out ++ line
  output_more more line e =
      let front = clock_line clock ++ flat_map input_line ins ++ flat_map flop_line fs ++ flat_map cell_line cs in
      ap (λ l. front ++ l) e ∙ sym (append_assoc front out line)

-- Lines of one section, one after another: `put` puts items behind those of a state.
module _ {S L X : Type 0} (IsLine : S → L → List ℕ → Type 0) (step : S → L → S) (MayEnd : S → Type 0) (last : List ℕ) (line : X → L) (spelled : X → List ℕ) (put : S → List X → S) (Fit : S → List X → Type 0)
    (first : (n : S) (x : X) (xs : List X) → Fit n (x ∷ xs) → IsLine n (line x) (spelled x) × Fit (step n (line x)) xs)
    (put_none : (n : S) → put n [] ≡ n) (put_first : (n : S) (x : X) (xs : List X) → put n (x ∷ xs) ≡ put (step n (line x)) xs) where
  pub lines_of : (n m : S) (xs : List X) (t : List ℕ) → Fit n xs → Lines IsLine step MayEnd last (put n xs) m t → Lines IsLine step MayEnd last n m (flat_map spelled xs ++ t)
  lines_of n m [] t fit g = subst (λ s. Lines IsLine step MayEnd last s m t) (put_none n) g
  lines_of n m (x ∷ xs) t fit g =
      let f = first n x xs fit in
      let rest = lines_of (step n (line x)) m xs t f.1 (subst (λ s. Lines IsLine step MayEnd last s m t) (put_first n x xs) g) in
      (line x ∷ rest.0, (spelled x, flat_map spelled xs ++ t, f.0, rest.1, ap (λ l. l ++ t) (flat_map-cons spelled x xs) ∙ append_assoc (spelled x) (flat_map spelled xs) t))

-- the lines of all sections, grouped from the end, and behind the model's name
pub from_end : (a b c d e f : List ℕ) → (a ++ b ++ c ++ d ++ e) ++ f ≡ a ++ (b ++ (c ++ (d ++ (e ++ f))))
from_end a b c d e f = append_assoc (a ++ b ++ c ++ d) e f ∙ append_assoc (a ++ b ++ c) d (e ++ f) ∙ append_assoc (a ++ b) c (d ++ (e ++ f)) ∙ append_assoc a b (c ++ (d ++ (e ++ f)))

pub behind_name : (a c i f l o e g : List ℕ) → (a ++ 10 ∷ c) ++ i ++ f ++ l ++ o ++ e ++ g ≡ a ++ 10 ∷ (c ++ i ++ f ++ l ++ o ++ (e ++ g))
behind_name a c i f l o e g =
    let one : (a ++ 10 ∷ c) ++ i ≡ a ++ 10 ∷ (c ++ i) = append_assoc a (10 ∷ c) i in
    let two : (a ++ 10 ∷ c) ++ i ++ f ≡ a ++ 10 ∷ (c ++ i ++ f) = ap (λ x. x ++ f) one ∙ append_assoc a (10 ∷ (c ++ i)) f in
    let three : (a ++ 10 ∷ c) ++ i ++ f ++ l ≡ a ++ 10 ∷ (c ++ i ++ f ++ l) = ap (λ x. x ++ l) two ∙ append_assoc a (10 ∷ (c ++ i ++ f)) l in
    let four : (a ++ 10 ∷ c) ++ i ++ f ++ l ++ o ≡ a ++ 10 ∷ (c ++ i ++ f ++ l ++ o) = ap (λ x. x ++ o) three ∙ append_assoc a (10 ∷ (c ++ i ++ f ++ l)) o in
    append_assoc ((a ++ 10 ∷ c) ++ i ++ f ++ l ++ o) e g ∙ ap (λ x. x ++ (e ++ g)) four ∙ append_assoc a (10 ∷ (c ++ i ++ f ++ l ++ o)) (e ++ g)
