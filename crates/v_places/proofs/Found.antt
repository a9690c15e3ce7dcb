-- Sites that stand one behind another are found by their places.
use Rattle.std.proofs.Common.{◌≡◌, ◌≤◌, ◌<◌, ◌≢◌, ◌+◌, ℕ, zero, suc, Bool, true, false, ◌==◌, if◌then◌else◌, List, [], ◌∷◌, map, length, Some, All, slice_get, get_or, add-one, one-add, refl, sym, ap, subst, ◌∙◌, arith}
use Rattle.std.specs.List.Sorted.{IsStrictlyIncreasing}
use Rattle.std.proofs.lemmas.Bool.{eq-eqb, eqb-true}
use Rattle.std.proofs.lemmas.Option.{slice_get-get_or}
use Rattle.v_syntax.specs.declared.token.Token.{Token}
use Rattle.v_syntax.specs.declared.module.Module.{Module}
use Rattle.v_syntax.specs.Tokens.{AreTokens}
use Rattle.v_syntax.specs.ModuleGrammar.{Derives}
use Rattle.v_meaning.specs.declared.names.Entry.{Entry}
use Rattle.v_meaning.specs.Expressions.{number_of_place}
use Rattle.v_meaning.specs.Sites.{Site, module_sites}
use Rattle.v_places.specs.Openings.{module_openings, place_of, bits_read}
use Rattle.v_places.proofs.Spans.{Spans, spans_behind}
use Rattle.v_places.proofs.Modules.{takes_module}
use Rattle.v_places.proofs.Thinning.{Thins, none, keep, drop, thin_module}

increasing : (from to : ℕ) (xs : List Site) → Spans from xs to → IsStrictlyIncreasing (map place_of xs)
increasing from to [] h k below = absurd (omega arith)
increasing from to (s ∷ []) h k below = absurd (omega arith)
increasing from to (s ∷ u ∷ more) h zero below = let p : s.at + 1 ≤ u.at = h.1.0 in omega arith
increasing from to (s ∷ u ∷ more) h (suc k) below = rw add-one (let q = increasing (s.at + 1) to (u ∷ more) h.1 k (omega arith) in rw add-one at q)

-- those that are left of what stands one behind another do so too
spans_thin : (from to : ℕ) {xs ys : List Site} → Thins xs ys → Spans from xs to → Spans from ys to
spans_thin from to none h = h
spans_thin from to (keep s p) h = (h.0, spans_thin (s.at + 1) to p h.1)
spans_thin from to (drop s {ys = ys} w p) h =
    let first : from ≤ s.at = h.0 in
    spans_behind from (s.at + 1) to ys (omega arith) (spans_thin (s.at + 1) to p h.1)

same_place : (at : ℕ) → (at == at) ≡ true
same_place at = eq-eqb at at refl

apart_case : (b : Bool) (at other : ℕ) → (at == other) ≡ b → at ≢ other → b ≡ false
apart_case true at other is h = absurd (h (eqb-true at other is))
apart_case false at other is h = refl

apart : (at other : ℕ) → at ≢ other → (at == other) ≡ false
apart at other h = apart_case (at == other) at other refl h

-- each is at this place or behind it
spans_from : (from to : ℕ) (xs : List Site) (i : ℕ) (s : Site) → Spans from xs to → slice_get xs i ≡ Some s → from ≤ s.at
spans_from from to [] i s h there = absurd cc
spans_from from to (x ∷ xs) zero s h there = let same : x ≡ s = cc in subst (λ (y : Site). from ≤ y.at) same h.0
spans_from from to (x ∷ xs) (suc i) s h there =
    let first : from ≤ x.at = h.0 in
    let later : x.at + 1 ≤ s.at = spans_from (x.at + 1) to xs i s h.1 there in
    omega arith

-- the site of a number has this number
number_of_site : (from to : ℕ) (xs : List Site) (i : ℕ) (s : Site) → Spans from xs to → slice_get xs i ≡ Some s → number_of_place (map place_of xs) s.at ≡ i
number_of_site from to [] i s h there = absurd cc
number_of_site from to (x ∷ xs) zero s h there =
    let same : x ≡ s = cc in
    let here : (x.at == s.at) ≡ true = subst (λ (y : Site). (x.at == y.at) ≡ true) same (same_place x.at) in
    rw here refl
number_of_site from to (x ∷ xs) (suc i) s h there =
    let behind : x.at + 1 ≤ s.at = spans_from (x.at + 1) to xs i s h.1 there in
    let other : (x.at == s.at) ≡ false = apart x.at s.at (λ same. absurd (omega arith)) in
    let below : number_of_place (map place_of xs) s.at ≡ i = number_of_site (x.at + 1) to xs i s h.1 there in
    rw (other, below) (one-add i)

none_case : (x at n : ℕ) (xs : List ℕ) (b : Bool) → (x == at) ≡ b → (Some x ≡ Some at → ⊥) → n ≡ length xs → (if b then 0 else 1 + n) ≡ length (x ∷ xs)
none_case x at n xs true is h below = absurd (h (ap (λ (n : ℕ). Some n) (eqb-true x at is)))
none_case x at n xs false is h below = rw below (one-add (length xs))

-- a place where none is has the number behind the last one
pub number_of_none : (places : List ℕ) (at : ℕ) → ((i : ℕ) → slice_get places i ≡ Some at → ⊥) → number_of_place places at ≡ length places
number_of_none [] at h = refl
number_of_none (x ∷ xs) at h = none_case x at (number_of_place xs at) xs (x == at) refl (h 0) (number_of_none xs at (λ i. h (suc i)))

-- ---- how many bits are read at a place

bits_here : (s : Site) (more : List Site) → bits_read (s ∷ more) s.at ≡ s.width
bits_here s more = rw (same_place s.at) refl

bits_past : (s : Site) (more : List Site) (at : ℕ) → (s.at == at) ≡ false → bits_read (s ∷ more) at ≡ bits_read more at
bits_past s more at other = rw (other, one-add (number_of_place (map place_of more) at)) refl

bits_before : (from to at : ℕ) (sites : List Site) → at < from → Spans from sites to → bits_read sites at ≡ 0
bits_before from to at [] before h = refl
bits_before from to at (s ∷ more) before h =
    let first : from ≤ s.at = h.0 in
    let below : at < s.at = omega arith in
    let later : at < s.at + 1 = omega arith in
    bits_past s more at (apart s.at at (λ same. absurd (omega arith))) ∙ bits_before (s.at + 1) to at more later h.1

-- of what stands one behind another, each has its bits, whether it is left or has none
bits_found : (from to : ℕ) {xs ys : List Site} → Thins xs ys → Spans from xs to → (i : ℕ) (c : Site) → slice_get xs i ≡ Some c → bits_read ys c.at ≡ c.width
bits_found from to none h i c there = absurd cc
bits_found from to (keep s {ys = ys} p) h zero c there = let same : s ≡ c = cc in subst (λ (x : Site). bits_read (s ∷ ys) x.at ≡ x.width) same (bits_here s ys)
bits_found from to (keep s {xs = xs} {ys = ys} p) h (suc i) c there =
    let behind : s.at + 1 ≤ c.at = spans_from (s.at + 1) to xs i c h.1 there in
    bits_past s ys c.at (apart s.at c.at (λ same. absurd (omega arith))) ∙ bits_found (s.at + 1) to p h.1 i c there
bits_found from to (drop s {ys = ys} w p) h zero c there =
    let same : s ≡ c = cc in
    let below : s.at < s.at + 1 = omega arith in
    subst (λ (x : Site). bits_read ys x.at ≡ x.width) same (bits_before (s.at + 1) to s.at ys below (spans_thin (s.at + 1) to p h.1) ∙ sym w)
bits_found from to (drop s p w) h (suc i) c there = bits_found (s.at + 1) to w h.1 i c there

all_bits_found : (from to : ℕ) {xs ys : List Site} → Thins xs ys → Spans from xs to → All (λ c. bits_read ys c.at ≡ c.width) xs
all_bits_found from to {xs = xs} p h k d below = bits_found from to p h k (get_or xs k d) (slice_get-get_or xs k d below)

-- ---- the sites of a module

module _ (from end : ℕ) (tokens : List Token) (m : Module) (are : AreTokens from end tokens) (derived : Derives tokens m) (names : List Entry) where
  openings_span : (to : ℕ) × Spans from (module_openings names m.items) to
  openings_span = let r = (takes_module names tokens m derived).spans from end are in (r.0, r.2)

  sites_span : (to : ℕ) × Spans from (module_sites names m.items) to
  sites_span = (openings_span.0, spans_thin from openings_span.0 (thin_module names m.items) openings_span.1)

  pub sites_increase : IsStrictlyIncreasing (map place_of (module_sites names m.items))
  sites_increase = increasing from sites_span.0 (module_sites names m.items) sites_span.1

  pub number_of_each : (i : ℕ) (s : Site) → slice_get (module_sites names m.items) i ≡ Some s → number_of_place (map place_of (module_sites names m.items)) s.at ≡ i
  number_of_each i s there = number_of_site from sites_span.0 (module_sites names m.items) i s sites_span.1 there

  pub bits_of_each : All (λ s. bits_read (module_sites names m.items) s.at ≡ s.width) (module_openings names m.items)
  bits_of_each = all_bits_found from openings_span.0 (thin_module names m.items) openings_span.1
