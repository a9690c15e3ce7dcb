-- Bits that grow step by step.
use Rattle.std.proofs.Common.{◌≡◌, ◌<◌, ◌≤◌, ◌+◌, ◌*◌, ◌/◌, ◌%◌, ◌==◌, ◌^◌, ◌&&◌, ℕ, zero, suc, List, [], ◌∷◌, ◌++◌, length, take, get_or, slice_get, Some, Bool, true, false, if◌then◌else◌, arith, refl, ap, sym, subst, ◌∙◌, length-append, append_assoc, append-nil}
use Rattle.std.proofs.Math.ListN.{get_or-append, set}
use Rattle.std.proofs.Math.Seq.{get_or-append_seam}
use Rattle.std.proofs.Math.Nat.{pow-le-pow_right, pow-suc}
use Rattle.std.proofs.lemmas.Nat.{shr-shr}
use Rattle.std.proofs.lemmas.List.{get_or-take}
use Rattle.std.proofs.lemmas.Option.{slice_get_within}
use Rattle.std.specs.Int.Bits.{bit_and, bit_xor}
use mathlib.Core.Bool.{xor}
use Rattle.lz_circuit.specs.Values.{majority, value_at}
use Rattle.n_cells.specs.Netlist.{AllBelow}
use Rattle.n_cells.specs.Run.{index_of, table_bit}
use Rattle.n_sim.specs.declared.step.Step.{Step}
use Rattle.n_sim.specs.Steps.{AreBackwards, Extends, Holds, IsFront, StepBelow, run_steps, step_bit}
use Rattle.n_sim.specs.Lanes.{lane, stream}
use Rattle.n_sim.proofs.Streams.{chosen, lane_and, lane_at, lane_xor, put_one}

-- the bits that are there stay
pub steps_keep : (values : List Bool) (ss : List Step) (p : ℕ) → p < length values → value_at (run_steps values ss) p ≡ value_at values p
steps_keep values [] p lt = refl
steps_keep values (s ∷ ss) p lt =
    let longer : p < length (values ++ step_bit values s ∷ []) = omega (arith, length-append values (step_bit values s ∷ [])) in
    steps_keep (values ++ step_bit values s ∷ []) ss p longer ∙ get_or-append values (step_bit values s ∷ []) false p lt

pub steps_length : (values : List Bool) (ss : List Step) → length (run_steps values ss) ≡ length values + length ss
steps_length values [] = omega arith
steps_length values (s ∷ ss) = omega (arith, steps_length (values ++ step_bit values s ∷ []) ss, length-append values (step_bit values s ∷ []))

steps_append : (values : List Bool) (ss ts : List Step) → run_steps values (ss ++ ts) ≡ run_steps (run_steps values ss) ts
steps_append values [] ts = refl
steps_append values (s ∷ ss) ts = steps_append (values ++ step_bit values s ∷ []) ss ts

-- a step's bit comes from the bits before it
pub step_keeps : (values : List Bool) (ss : List Step) (s : Step) → StepBelow (length values) s → step_bit (run_steps values ss) s ≡ step_bit values s
step_keeps values ss s below =
    let base = steps_keep values ss s.base below.0 in
    let change = steps_keep values ss s.change below.1 in
    let by = steps_keep values ss s.by below.2 in
    rw (base, change, by) refl

-- the bit at a step's place is the step's
pub step_there : (values : List Bool) (ss : List Step) (i : ℕ) (s : Step) → AreBackwards (length values) ss → slice_get ss i ≡ Some s
    → value_at (run_steps values ss) (length values + i) ≡ step_bit (run_steps values ss) s
step_there values [] i s back is = cc
step_there values (t ∷ ss) zero s back is =
    let e : t ≡ s = cc in
    let vs = values ++ step_bit values t ∷ [] in
    let here : length values + zero ≡ length values = omega arith in
    let last : length values < length vs = omega (arith, length-append values (step_bit values t ∷ [])) in
    ap (value_at (run_steps vs ss)) here
    ∙ steps_keep vs ss (length values) last
    ∙ get_or-append_seam values (step_bit values t) [] false
    ∙ sym (step_keeps values (t ∷ ss) t back.0)
    ∙ ap (step_bit (run_steps vs ss)) e
step_there values (t ∷ ss) (suc i) s back is =
    let vs = values ++ step_bit values t ∷ [] in
    let long : length values + 1 ≡ length vs = omega (arith, length-append values (step_bit values t ∷ [])) in
    let place : length values + suc i ≡ length vs + i = omega (arith, long) in
    ap (value_at (run_steps vs ss)) place ∙ step_there vs ss i s (subst (λ n. AreBackwards n ss) long back.1) is

-- one step more
back_more : (first high : ℕ) (ss : List Step) (s : Step) → high ≡ first + length ss → AreBackwards first ss → StepBelow high s → AreBackwards first (ss ++ s ∷ [])
back_more first high [] s e back below =
    let here : high ≡ first = omega (arith, e) in
    (subst (λ h. StepBelow h s) here below, tt)
back_more first high (t ∷ ss) s e back below = (back.0, back_more (first + 1) high ss s (omega (arith, e)) back.1 below)

slice_get_last : (ss : List Step) (s : Step) → slice_get (ss ++ s ∷ []) (length ss) ≡ Some s
slice_get_last [] s = refl
slice_get_last (t ∷ ss) s = slice_get_last ss s

-- nothing more
pub extends_same : (first : ℕ) (ss : List Step) → AreBackwards first ss → Extends first ss ss
extends_same first ss back = record { back = back; more = ([], sym (append-nil ss)) }

pub extends_more : (first : ℕ) (old new : List Step) (s : Step) → AreBackwards first old → StepBelow (first + length old) s → new ≡ old ++ s ∷ [] → Extends first old new
extends_more first old new s back below e = record {
  back = subst (AreBackwards first) (sym e) (back_more first (first + length old) old s refl back below);
  more = (s ∷ [], e);
}

pub extends_on : (first : ℕ) (a b c : List Step) → Extends first a b → Extends first b c → Extends first a c
extends_on first a b c x y = record {
  back = y.back;
  more = (x.more.0 ++ y.more.0, y.more.1 ∙ ap (λ l. l ++ y.more.0) x.more.1 ∙ append_assoc a x.more.0 y.more.0);
}

pub extends_long : (first : ℕ) (old new : List Step) → Extends first old new → length old ≤ length new
extends_long first old new x = omega (arith, ap length x.more.1, length-append old x.more.0)

-- the bits of the steps that were there stay
pub extends_keep : (first : ℕ) (old new : List Step) (front : List Bool) (p : ℕ) → Extends first old new → length front ≡ first → p < first + length old
    → value_at (run_steps front new) p ≡ value_at (run_steps front old) p
extends_keep first old new front p x long lt =
    let there : p < length (run_steps front old) = omega (arith, steps_length front old) in
    ap (λ ss. value_at (run_steps front ss) p) x.more.1
    ∙ ap (λ vs. value_at vs p) (steps_append front old x.more.0)
    ∙ steps_keep (run_steps front old) x.more.0 p there

pub index_on : (first : ℕ) (old new : List Step) (front : List Bool) (leaves : List ℕ) → Extends first old new → length front ≡ first → AllBelow (first + length old) leaves
    → index_of (run_steps front old) leaves ≡ index_of (run_steps front new) leaves
index_on first old new front [] x long below = refl
index_on first old new front (l ∷ ls) x long below =
    ap (λ b. (if b then 1 else 0) + 2 * index_of (run_steps front old) ls) (sym (extends_keep first old new front l x long below.0))
    ∙ ap (λ i. (if value_at (run_steps front new) l then 1 else 0) + 2 * i) (index_on first old new front ls x long below.1)

-- what a place holds it goes on to hold
pub holds_on : (first : ℕ) (old new : List Step) (place : ℕ) (f : List Bool → Bool) → Extends first old new → Holds first old place f
    → ((front : List Bool) → length front ≡ first → f (run_steps front old) ≡ f (run_steps front new)) → Holds first new place f
holds_on first old new place f x h stays = record {
  there = omega (arith, extends_long first old new x, h.there);
  value = λ front is. extends_keep first old new front place x is.long h.there ∙ h.value front is ∙ stays front is.long;
}

pub table_on : (first : ℕ) (old new : List Step) (place table : ℕ) (leaves : List ℕ) → Extends first old new → AllBelow (first + length old) leaves
    → Holds first old place (λ values. table_bit table (index_of values leaves)) → Holds first new place (λ values. table_bit table (index_of values leaves))
table_on first old new place table leaves x below h =
    holds_on first old new place (λ values. table_bit table (index_of values leaves)) x h (λ front long. ap (table_bit table) (index_on first old new front leaves x long below))

-- the place of a step that is there, and of one that is appended
pub found_holds : (first : ℕ) (ss : List Step) (i place : ℕ) (s : Step) → AreBackwards first ss → slice_get ss i ≡ Some s → place ≡ first + i → Holds first ss place (λ values. step_bit values s)
found_holds first ss i place s back is e =
    let within = slice_get_within ss i s is in
    record {
      there = omega (arith, within, e);
      value = λ front at.
          let here : place ≡ length front + i = omega (arith, e, at.long) in
          ap (value_at (run_steps front ss)) here ∙ step_there front ss i s (subst (λ n. AreBackwards n ss) (sym at.long) back) is;
    }

pub put_holds : (first : ℕ) (old new : List Step) (place : ℕ) (s : Step) → Extends first old new → new ≡ old ++ s ∷ [] → place ≡ first + length old → Holds first new place (λ values. step_bit values s)
put_holds first old new place s x e at = found_holds first new (length old) place s x.back (ap (λ l. slice_get l (length old)) e ∙ slice_get_last old s) at

-- the constants
pub constant_zero : (first : ℕ) (ss : List Step) (front : List Bool) → 2 ≤ first → IsFront first front → value_at (run_steps front ss) 0 ≡ false
constant_zero first ss front some is = steps_keep front ss 0 (omega (arith, is.long)) ∙ is.zero

pub constant_one : (first : ℕ) (ss : List Step) (front : List Bool) → 2 ≤ first → IsFront first front → value_at (run_steps front ss) 1 ≡ true
constant_one first ss front some is = steps_keep front ss 1 (omega (arith, is.long)) ∙ is.one

-- one more leaf at the top
one_more : (b : Bool) (x i k more : ℕ) → more ≡ i + (if b then 2 ^ k else 0) → x + 2 * more ≡ x + 2 * i + (if b then 2 ^ suc k else 0)
one_more false x i k more e = omega (arith, e)
one_more true x i k more e = omega (arith, e, pow-suc 2 k)

no_more : (b : Bool) → (if b then 1 else 0) + 2 * 0 ≡ 0 + (if b then 2 ^ 0 else 0)
no_more false = refl
no_more true = refl

index_more : (values : List Bool) (others : List ℕ) (last : ℕ) → index_of values (others ++ last ∷ []) ≡ index_of values others + (if value_at values last then 2 ^ length others else 0)
index_more values [] last = no_more (value_at values last)
index_more values (l ∷ ls) last = one_more (value_at values last) (if value_at values l then 1 else 0) (index_of values ls) (length ls) (index_of values (ls ++ last ∷ [])) (index_more values ls last)

pub below_parts : (high : ℕ) (others : List ℕ) (last : ℕ) → AllBelow high (others ++ last ∷ []) → AllBelow high others × (last < high)
below_parts high [] last below = (tt, below.0)
below_parts high (l ∷ ls) last below =
    let more = below_parts high ls last below.1 in
    ((below.0, more.0), more.1)

-- a bit of a table's upper part
upper_bit : (table k i : ℕ) → table_bit (table / 2 ^ k) i ≡ table_bit table (i + k)
upper_bit table k i =
    let e : k + i ≡ i + k = omega arith in
    ap (λ x. x % 2 == 1) (shr-shr table k i ∙ ap (λ m. table / 2 ^ m) e)

half_step : (table k i : ℕ) (by low high : Bool) → low ≡ table_bit table i → high ≡ table_bit (table / 2 ^ k) i → (if by then high else low) ≡ table_bit table (i + (if by then k else 0))
half_step table k i false low high l h = l ∙ ap (table_bit table) (omega arith)
half_step table k i true low high l h = h ∙ upper_bit table k i

-- the exclusive or of both halves, let through, turns the lower half into the upper
blend_step : (table k i : ℕ) (by low high : Bool) → low ≡ table_bit table i → high ≡ table_bit (bit_xor table (table / 2 ^ k)) i → xor low (high && by) ≡ table_bit table (i + (if by then k else 0))
blend_step table k i by low high l h =
    let upper = table_bit (table / 2 ^ k) i in
    ap (λ x. xor low (x && by)) (h ∙ lane_xor i table (table / 2 ^ k) ∙ ap (λ x. xor x upper) (sym l))
    ∙ chosen by low upper
    ∙ half_step table k i by low upper l refl

-- a table of one more leaf, from its lower half and the exclusive or of both
pub table_holds : (first : ℕ) (ss : List Step) (table changed base change last place : ℕ) (others leaves : List ℕ) → leaves ≡ others ++ last ∷ []
    → changed ≡ bit_xor table (table / 2 ^ (2 ^ length others))
    → Holds first ss base (λ values. table_bit table (index_of values others)) → Holds first ss change (λ values. table_bit changed (index_of values others))
    → Holds first ss place (λ values. step_bit values (record { base = base; change = change; by = last }))
    → Holds first ss place (λ values. table_bit table (index_of values leaves))
table_holds first ss table changed base change last place others leaves split half low high step = record {
  there = step.there;
  value = λ front is.
      let v = run_steps front ss in
      step.value front is
      ∙ blend_step table (2 ^ length others) (index_of v others) (value_at v last) (value_at v base) (value_at v change) (low.value front is) (high.value front is ∙ ap (λ t. table_bit t (index_of v others)) half)
      ∙ ap (table_bit table) (sym (index_more v others last) ∙ ap (index_of v) (sym split));
}

-- the word of a step, behind the words before it
pub word_on : (j : ℕ) (words : List ℕ) (next : ℕ) (s : Step) → next < length words → StepBelow next s
    → take (next + 1) (stream j (set words next (bit_xor (get_or words s.base 0) (bit_and (get_or words s.change 0) (get_or words s.by 0)))))
    ≡ take next (stream j words) ++ step_bit (take next (stream j words)) s ∷ []
word_on j words next s lt below =
    let front = take next (stream j words) in
    let at : (n : ℕ) → n < next → lane j (get_or words n 0) ≡ value_at front n = λ n h. lane_at j words n ∙ sym (get_or-take next (stream j words) n false h) in
    put_one j words next _ (step_bit front s) lt
    (lane_xor j (get_or words s.base 0) (bit_and (get_or words s.change 0) (get_or words s.by 0))
    ∙ ap (λ b. xor (lane j (get_or words s.base 0)) b) (lane_and j (get_or words s.change 0) (get_or words s.by 0))
    ∙ ap (λ b. xor b (lane j (get_or words s.change 0) && lane j (get_or words s.by 0))) (at s.base below.0)
    ∙ ap (λ b. xor (value_at front s.base) (b && lane j (get_or words s.by 0))) (at s.change below.1)
    ∙ ap (λ b. xor (value_at front s.base) (value_at front s.change && b)) (at s.by below.2))

-- a table over no leaf
bit_place : (first : ℕ) (ss : List Step) (front : List Bool) (b : ℕ) → 2 ≤ first → IsFront first front → b < 2 → value_at (run_steps front ss) b ≡ (b == 1)
bit_place first ss front zero some is lt = constant_zero first ss front some is
bit_place first ss front (suc zero) some is lt = constant_one first ss front some is
bit_place first ss front (suc (suc b)) some is lt = absurd (omega arith)

pub none_holds : (first : ℕ) (ss : List Step) (table place : ℕ) (leaves : List ℕ) → 2 ≤ first → length leaves ≡ 0 → place ≡ table % 2 → Holds first ss place (λ values. table_bit table (index_of values leaves))
none_holds first ss table place [] some none e =
    let low : place < 2 = omega (arith, e) in
    let bit : place ≡ table / 2 ^ 0 % 2 = omega (arith, e) in
    record {
      there = omega (arith, some, low);
      value = λ front is. bit_place first ss front place some is low ∙ ap (λ b. b == 1) bit;
    }
none_holds first ss table place (l ∷ ls) some none e = absurd (omega (arith, none))

and_true : (b : Bool) → b && true ≡ b
and_true false = refl
and_true true = refl

-- the exclusive or of two bits
pub xor_holds : (first : ℕ) (ss : List Step) (a b place : ℕ) → 2 ≤ first → Holds first ss place (λ values. step_bit values (record { base = a; change = b; by = 1 })) → Holds first ss place (λ values. xor (value_at values a) (value_at values b))
xor_holds first ss a b place some h = record {
  there = h.there;
  value = λ front is.
      let v = run_steps front ss in
      h.value front is
      ∙ ap (λ x. xor (value_at v a) (value_at v b && x)) (constant_one first ss front some is)
      ∙ ap (xor (value_at v a)) (and_true (value_at v b));
}

pub power_small : (n : ℕ) → n < 6 → 2 ^ n < 64
power_small n lt =
    let two : 0 < 2 = omega arith in
    let le : n ≤ 5 = omega arith in
    omega (arith, pow-le-pow_right {n = 2} two le)

-- what two steps and exclusive ors hold they go on to hold
pub step_on : (first : ℕ) (old new : List Step) (place : ℕ) (s : Step) → Extends first old new → StepBelow (first + length old) s → Holds first old place (λ values. step_bit values s)
    → Holds first new place (λ values. step_bit values s)
step_on first old new place s x below h =
    holds_on first old new place (λ values. step_bit values s) x h
    (λ front long.
    let base = extends_keep first old new front s.base x long below.0 in
    let change = extends_keep first old new front s.change x long below.1 in
    let by = extends_keep first old new front s.by x long below.2 in
    rw (base, change, by) refl)

pub xor_on : (first : ℕ) (old new : List Step) (place a b : ℕ) → Extends first old new → a < first + length old → b < first + length old → Holds first old place (λ values. xor (value_at values a) (value_at values b))
    → Holds first new place (λ values. xor (value_at values a) (value_at values b))
xor_on first old new place a b x la lb h =
    holds_on first old new place (λ values. xor (value_at values a) (value_at values b)) x h
    (λ front long.
    let ea = extends_keep first old new front a x long la in
    let eb = extends_keep first old new front b x long lb in
    rw (ea, eb) refl)

-- a sum, from the exclusive or of two of its bits
pub sum_holds : (first : ℕ) (ss : List Step) (a b d either sum : ℕ) → Holds first ss either (λ values. xor (value_at values b) (value_at values d)) → Holds first ss sum (λ values. xor (value_at values a) (value_at values either))
    → Holds first ss sum (λ values. xor (value_at values a) (xor (value_at values b) (value_at values d)))
sum_holds first ss a b d either sum he hs = record {
  there = hs.there;
  value = λ front is. hs.value front is ∙ ap (xor (value_at (run_steps front ss) a)) (he.value front is);
}

majority_is : (a b d : Bool) → xor (xor false (b && d)) (a && xor b d) ≡ majority a b d
unfolding xor
majority_is false false false = refl
majority_is false false true = refl
majority_is false true false = refl
majority_is false true true = refl
majority_is true false false = refl
majority_is true false true = refl
majority_is true true false = refl
majority_is true true true = refl

-- a majority, which is that of two bits that are both 1, changed by the third where they differ
pub carry_holds : (first : ℕ) (ss : List Step) (a b d either both carry : ℕ) → 2 ≤ first → Holds first ss either (λ values. xor (value_at values b) (value_at values d))
    → Holds first ss both (λ values. step_bit values (record { base = 0; change = b; by = d }))
    → Holds first ss carry (λ values. step_bit values (record { base = both; change = a; by = either }))
    → Holds first ss carry (λ values. majority (value_at values a) (value_at values b) (value_at values d))
carry_holds first ss a b d either both carry some he hb hc = record {
  there = hc.there;
  value = λ front is.
      let v = run_steps front ss in
      hc.value front is
      ∙ ap (λ x. xor x (value_at v a && value_at v either)) (hb.value front is ∙ ap (λ x. xor x (value_at v b && value_at v d)) (constant_zero first ss front some is))
      ∙ ap (λ x. xor (xor false (value_at v b && value_at v d)) (value_at v a && x)) (he.value front is)
      ∙ majority_is (value_at v a) (value_at v b) (value_at v d);
}
