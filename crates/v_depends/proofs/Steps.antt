-- A name that depends on another in any number of steps does so in as many steps as there are dependences.
use Rattle.std.proofs.Common.{◌≡◌, ◌≤◌, ◌<◌, ℕ, zero, suc, List, [], ◌∷◌, ◌++◌, length, Bool, true, false, refl, sym, ap, ◌∙◌, inl, inr, ◌⊎◌, arith}
use Rattle.std.specs.Prelude.{◌||◌, if◌then◌else◌, bytes_eq}
use Rattle.std.proofs.lemmas.Bool.{or_cases, or_left, or_right}
use Rattle.lz_base.specs.Names.{is_among}
use Rattle.v_meaning.specs.ProcessRules.{Dependence, direct, depends_in}
use Rattle.v_depends.specs.Pairs.{depends_by}
use Rattle.v_depends.proofs.Membership.{bytes_same, bytes_self, any_out, any_in}

-- ---- one step

-- From a name one step leads to the other, or on to it.
abbrev pub Onward : ℕ → List Dependence → List ℕ → List ℕ → Type 0
Onward k ds z y = (z ≡ y) ⊎ (depends_in k ds z y ≡ true)

pub step_out : (k : ℕ) (ds : List Dependence) (x y : List ℕ) → depends_in (suc k) ds x y ≡ true → (z : List ℕ) × (is_among z (direct ds x) ≡ true) × Onward k ds z y
step_out k ds x y h =
    let r = any_out (λ next. bytes_eq next y || depends_in k ds next y) (direct ds x) h in (
      r.0,
      r.1,
      elim (or_cases (bytes_eq r.0 y) (depends_in k ds r.0 y) r.2) [
        | inl same ↦ inl (bytes_same r.0 y same)
        | inr on ↦ inr on
      ],
    )

pub step_in : (k : ℕ) (ds : List Dependence) (x y z : List ℕ) → is_among z (direct ds x) ≡ true → Onward k ds z y → depends_in (suc k) ds x y ≡ true
step_in k ds x y z h (inl same) = any_in (λ next. bytes_eq next y || depends_in k ds next y) (direct ds x) z h (or_left (bytes_eq z y) (depends_in k ds z y) (bytes_self z y same))
step_in k ds x y z h (inr on) = any_in (λ next. bytes_eq next y || depends_in k ds next y) (direct ds x) z h (or_right (bytes_eq z y) (depends_in k ds z y) on)

-- ---- without the dependences of one name

abbrev without : List ℕ → List Dependence → List Dependence
without x [] = []
without x (d ∷ ds) = if bytes_eq d.name x then without x ds else d ∷ without x ds

apart_from : (a x w : List ℕ) → bytes_eq a x ≡ true → bytes_eq x w ≡ false → bytes_eq a w ≡ false
apart_from a x w same apart = ap (λ b. bytes_eq b w) (bytes_same a x same) ∙ apart

no_step_case : (b : Bool) (d : Dependence) (x : List ℕ) (more : List Dependence) → bytes_eq d.name x ≡ b → direct more x ≡ [] → direct (if b then more else d ∷ more) x ≡ []
no_step_case true d x more e h = h
no_step_case false d x more e h = ap (λ (b : Bool). (if b then d.on else []) ++ direct more x) e ∙ h

no_step : (x : List ℕ) (ds : List Dependence) → direct (without x ds) x ≡ []
no_step x [] = refl
no_step x (d ∷ ds) = no_step_case (bytes_eq d.name x) d x (without x ds) refl (no_step x ds)

same_steps_case : (b : Bool) (d : Dependence) (x w : List ℕ) (more ds : List Dependence) → bytes_eq d.name x ≡ b → bytes_eq x w ≡ false → direct more w ≡ direct ds w →
    direct (if b then more else d ∷ more) w ≡ direct (d ∷ ds) w
same_steps_case true d x w more ds e apart h = h ∙ ap (λ (b : Bool). (if b then d.on else []) ++ direct ds w) (sym (apart_from d.name x w e apart))
same_steps_case false d x w more ds e apart h = ap (λ (l : List (List ℕ)). (if bytes_eq d.name w then d.on else []) ++ l) h

same_steps : (x w : List ℕ) (ds : List Dependence) → bytes_eq x w ≡ false → direct (without x ds) w ≡ direct ds w
same_steps x w [] apart = refl
same_steps x w (d ∷ ds) apart = same_steps_case (bytes_eq d.name x) d x w (without x ds) ds refl apart (same_steps x w ds apart)

no_longer_case : (b : Bool) (d : Dependence) (more : List Dependence) (n : ℕ) → length more ≤ n → length (if b then more else d ∷ more) ≤ suc n
no_longer_case true d more n h = omega arith
no_longer_case false d more n h = omega arith

no_longer : (x : List ℕ) (ds : List Dependence) → length (without x ds) ≤ length ds
no_longer x [] = omega arith
no_longer x (d ∷ ds) = no_longer_case (bytes_eq d.name x) d (without x ds) (length ds) (no_longer x ds)

-- Where a name depends on another directly, fewer are left.
shorter_case : (b : Bool) (d : Dependence) (x z : List ℕ) (more ds : List Dependence) → bytes_eq d.name x ≡ b → length more ≤ length ds →
    (is_among z (direct ds x) ≡ true → length more < length ds) → is_among z ((if b then d.on else []) ++ direct ds x) ≡ true → length (if b then more else d ∷ more) < suc (length ds)
shorter_case true d x z more ds e all h step = omega arith
shorter_case false d x z more ds e all h step = omega (arith, h step)

shorter : (x z : List ℕ) (ds : List Dependence) → is_among z (direct ds x) ≡ true → length (without x ds) < length ds
shorter x z [] step = absurd (cc step)
shorter x z (d ∷ ds) step = shorter_case (bytes_eq d.name x) d x z (without x ds) ds refl (no_longer x ds) (shorter x z ds) step

kept_step : (b : Bool) (x w z : List ℕ) (ds : List Dependence) → bytes_eq x w ≡ b → is_among z (direct (without x ds) w) ≡ true → is_among z (direct ds w) ≡ true
kept_step true x w z ds e h =
    let none : false ≡ true = sym (ap (is_among z) (ap (direct (without x ds)) (sym (bytes_same x w e)) ∙ no_step x ds)) ∙ h in
    absurd (cc none)
kept_step false x w z ds e h = ap (is_among z) (sym (same_steps x w ds e)) ∙ h

kept_steps : (k : ℕ) (x w y : List ℕ) (ds : List Dependence) → depends_in k (without x ds) w y ≡ true → depends_in k ds w y ≡ true
kept_steps zero x w y ds h = absurd (cc h)
kept_steps (suc k) x w y ds h =
    let r = step_out k (without x ds) w y h in
    step_in k ds w y r.0 (kept_step (bytes_eq x w) x w r.0 ds refl r.1) (elim r.2 [
      | inl same ↦ inl same
      | inr on ↦ inr (kept_steps k x r.0 y ds on)
    ])

-- ---- the last visit to a name

-- A name is reached without a step from x.
abbrev Avoids : List ℕ → List Dependence → List ℕ → List ℕ → Type 0
Avoids x ds w y = (n : ℕ) × (depends_in n (without x ds) w y ≡ true)

-- x has a step from which that holds, or which leads there.
abbrev Leaves : List ℕ → List Dependence → List ℕ → Type 0
Leaves x ds y = (z : List ℕ) × (is_among z (direct ds x) ≡ true) × ((z ≡ y) ⊎ Avoids x ds z y)

at_visit : (x w y z : List ℕ) (ds : List Dependence) → x ≡ w → is_among z (direct ds w) ≡ true → (z ≡ y) ⊎ (Avoids x ds z y ⊎ Leaves x ds y) → Leaves x ds y
at_visit x w y z ds here step (inl same) = (z, ap (λ v. is_among z (direct ds v)) here ∙ step, inl same)
at_visit x w y z ds here step (inr (inl far)) = (z, ap (λ v. is_among z (direct ds v)) here ∙ step, inr far)
at_visit x w y z ds here step (inr (inr later)) = later

elsewhere : (x w y z : List ℕ) (ds : List Dependence) → bytes_eq x w ≡ false → is_among z (direct ds w) ≡ true → (z ≡ y) ⊎ (Avoids x ds z y ⊎ Leaves x ds y) → Avoids x ds w y ⊎ Leaves x ds y
elsewhere x w y z ds apart step (inl same) = inl (1, step_in 0 (without x ds) w y z (ap (is_among z) (same_steps x w ds apart) ∙ step) (inl same))
elsewhere x w y z ds apart step (inr (inl far)) = inl (suc far.0, step_in far.0 (without x ds) w y z (ap (is_among z) (same_steps x w ds apart) ∙ step) (inr far.1))
elsewhere x w y z ds apart step (inr (inr later)) = inr later

visit : (b : Bool) (x w y z : List ℕ) (ds : List Dependence) → bytes_eq x w ≡ b → is_among z (direct ds w) ≡ true → (z ≡ y) ⊎ (Avoids x ds z y ⊎ Leaves x ds y) → Avoids x ds w y ⊎ Leaves x ds y
visit true x w y z ds e step h = inr (at_visit x w y z ds (bytes_same x w e) step h)
visit false x w y z ds e step h = elsewhere x w y z ds e step h

last_visit : (k : ℕ) (x w y : List ℕ) (ds : List Dependence) → depends_in k ds w y ≡ true → Avoids x ds w y ⊎ Leaves x ds y
last_visit zero x w y ds h = absurd (cc h)
last_visit (suc k) x w y ds h =
    let r = step_out k ds w y h in
    visit (bytes_eq x w) x w y r.0 ds refl r.1 (elim r.2 [
      | inl same ↦ inl same
      | inr on ↦ inr (last_visit k x r.0 y ds on)
    ])

-- A name that reaches another does so by a last step from itself.
leaves : (k : ℕ) (x y : List ℕ) (ds : List Dependence) → depends_in k ds x y ≡ true → Leaves x ds y
leaves zero x y ds h = absurd (cc h)
leaves (suc k) x y ds h =
    let r = step_out k ds x y h in
    at_visit x x y r.0 ds refl r.1 (elim r.2 [
      | inl same ↦ inl same
      | inr on ↦ inr (last_visit k x r.0 y ds on)
    ])

-- ---- a bound for the steps

bounded : (n k : ℕ) (x y : List ℕ) (ds : List Dependence) → length ds ≤ n → depends_in k ds x y ≡ true → depends_in n ds x y ≡ true
bounded zero k x y [] few h = let l = leaves k x y [] h in absurd (cc l.1)
bounded zero k x y (d ∷ ds) few h = absurd (omega arith)
bounded (suc n) k x y ds few h =
    let l = leaves k x y ds h in
    let fewer : length (without x ds) ≤ n = omega (arith, shorter x l.0 ds l.1) in
    step_in n ds x y l.0 l.1 (elim l.2 [
      | inl same ↦ inl same
      | inr far ↦ inr (kept_steps n x l.0 y ds (bounded n far.0 l.0 y (without x ds) fewer far.1))
    ])

pub in_any_steps : (k : ℕ) (x y : List ℕ) (ds : List Dependence) → depends_in k ds x y ≡ true → depends_by ds x y ≡ true
in_any_steps k x y ds h =
    let few : length ds ≤ length ds = omega arith in
    bounded (length ds) k x y ds few h

-- ---- a name depends on another where it does so directly, or directly on one that does

pub depends_direct : (x y : List ℕ) (ds : List Dependence) → is_among y (direct ds x) ≡ true → depends_by ds x y ≡ true
depends_direct x y ds h = in_any_steps 1 x y ds (step_in 0 ds x y y h (inl refl))

pub depends_on : (x z y : List ℕ) (ds : List Dependence) → is_among z (direct ds x) ≡ true → depends_by ds z y ≡ true → depends_by ds x y ≡ true
depends_on x z y ds h on = in_any_steps (suc (length ds)) x y ds (step_in (length ds) ds x y z h (inr on))
