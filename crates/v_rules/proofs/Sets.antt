-- Names that sets have met: by which kind they are first written, and whether two processes write them.
use Rattle.std.proofs.Common.{◌≡◌, List, [], ◌∷◌, ◌++◌, filter, cond, Bool, true, false, Bor, refl, sym, ap, ◌∙◌, true≢false}
use Rattle.std.specs.Prelude.{ℕ, ◌||◌, ◌&&◌, bytes_eq}
use Rattle.std.specs.BTreeSet.{BTreeSet}
use Rattle.std.proofs.lemmas.Slice.Eq.{bytes_eq-Decides}
use Rattle.lz_base.specs.Met.{Met}
use Rattle.lz_base.specs.Names.{is_among}

-- ---- names among others

-- a test of a name's bytes
pub tested : (key name : List ℕ) (test : Bool) (names : List (List ℕ)) → key ≡ name → test ≡ is_among key names → test ≡ is_among name names
tested key name test names same is = is ∙ ap (λ k. is_among k names) same

swap : (a b c : Bool) → (a || (b || c)) ≡ (b || (a || c))
swap true true c = refl
swap true false c = refl
swap false b c = refl

or_assoc : (a b c : Bool) → (a || (b || c)) ≡ ((a || b) || c)
or_assoc true b c = refl
or_assoc false b c = refl

pub among_push : (q key : List ℕ) (names : List (List ℕ)) → is_among q (names ++ key ∷ []) ≡ (bytes_eq key q || is_among q names)
among_push q key [] = refl
among_push q key (other ∷ names) = ap (λ b. bytes_eq other q || b) (among_push q key names) ∙ swap (bytes_eq other q) (bytes_eq key q) (is_among q names)

pub met_before : (met : BTreeSet (Bor (List ℕ))) (names : List (List ℕ)) (key : List ℕ) → Met met (names ++ key ∷ []) → Met met (key ∷ names)
met_before met names key m q = m q ∙ among_push q.now key names

pub among_more : (q : List ℕ) (xs ys : List (List ℕ)) → is_among q (xs ++ ys) ≡ (is_among q xs || is_among q ys)
among_more q [] ys = refl
among_more q (x ∷ xs) ys = ap (λ b. bytes_eq x q || b) (among_more q xs ys) ∙ or_assoc (bytes_eq x q) (is_among q xs) (is_among q ys)

among_cond : (q n : List ℕ) (test : Bool) (names : List (List ℕ)) → is_among q (cond test (n ∷ names) names) ≡ cond test (bytes_eq n q || is_among q names) (is_among q names)
among_cond q n true names = refl
among_cond q n false names = refl

passes_too : (here there same rest : Bool) → (same ≡ true → here ≡ there) → cond here (same || (there && rest)) (there && rest) ≡ (there && (same || rest))
passes_too true true same rest h = refl
passes_too true false true rest h = absurd (true≢false (h refl))
passes_too true false false rest h = refl
passes_too false true true rest h = absurd (true≢false (sym (h refl)))
passes_too false true false rest h = refl
passes_too false false same rest h = refl

and_false : (b : Bool) → (b && false) ≡ false
and_false true = refl
and_false false = refl

pub among_filter : (test : List ℕ → Bool) (q : List ℕ) (names : List (List ℕ)) → is_among q (filter test names) ≡ (test q && is_among q names)
among_filter test q [] = sym (and_false (test q))
among_filter test q (n ∷ names) =
    among_cond q n (test n) (filter test names)
    ∙ ap (λ b. cond (test n) (bytes_eq n q || b) b) (among_filter test q names)
    ∙ passes_too (test n) (test q) (bytes_eq n q) (is_among q names) (λ same. ap test ((bytes_eq-Decides n q).0 same))
