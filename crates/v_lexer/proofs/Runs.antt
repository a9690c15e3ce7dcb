-- The front of bytes that pass a test.
use Rattle.std.proofs.Common.{◌≡◌, ◌≢◌, ◌≤◌, ◌-◌, ℕ, Bool, true, false, not, ◌==◌, List, [], ◌∷◌, ◌++◌, refl, sym, ap, ◌∙◌, arith, length, take, length-append, if◌then◌else◌, inl, inr}
use Rattle.std.specs.List.{list_all}
use Rattle.std.proofs.lemmas.Bool.{and_parts, eq-eqb}
use Rattle.std.proofs.Math.Seq.{take-append_seam}
use Rattle.v_syntax.specs.Tokens.{stops}
use Rattle.lz_base.specs.Names.{IsAmong}
use Rattle.v_lexer.specs.Scan.{front_of, rest_of}

pub not_true : (b : Bool) → not b ≡ true → b ≡ false
not_true true is = sym is
not_true false is = refl

-- the front and the rest are the whole
pub front_rest : (test : ℕ → Bool) (bytes : List ℕ) → bytes ≡ front_of test bytes ++ rest_of test bytes
front_rest test [] = refl
front_rest test (byte ∷ bytes) =
    elim (test byte) as (λ b. byte ∷ bytes ≡ (if b then byte ∷ front_of test bytes else []) ++ (if b then rest_of test bytes else byte ∷ bytes))
    [ true ↦ ap (λ l. byte ∷ l) (front_rest test bytes) | false ↦ refl ]

pub rest_fits : (test : ℕ → Bool) (bytes : List ℕ) → length (rest_of test bytes) ≤ length bytes
rest_fits test bytes = omega (arith, ap length (front_rest test bytes), length-append (front_of test bytes) (rest_of test bytes))

take_front : (front rest : List ℕ) → take (length (front ++ rest) - length rest) (front ++ rest) ≡ front
take_front front rest =
    let n : length (front ++ rest) - length rest ≡ length front = omega (arith, length-append front rest) in
    ap (λ n. take n (front ++ rest)) n ∙ take-append_seam front rest

-- what stands before the rest is the front
pub front_is_taken : (test : ℕ → Bool) (bytes : List ℕ) → take (length bytes - length (rest_of test bytes)) bytes ≡ front_of test bytes
front_is_taken test bytes =
    ap (λ l. take (length l - length (rest_of test bytes)) l) (front_rest test bytes) ∙ take_front (front_of test bytes) (rest_of test bytes)

-- each byte of the front passes
pub front_passes : (test : ℕ → Bool) (bytes : List ℕ) → list_all test (front_of test bytes) ≡ true
front_passes test [] = refl
front_passes test (byte ∷ bytes) =
    elim (test byte) as (λ b. test byte ≡ b → list_all test (if b then byte ∷ front_of test bytes else []) ≡ true)
    [ true ↦ λ e. rw e (front_passes test bytes) | false ↦ λ e. refl ] refl

-- No longer front passes: where passing bytes begin the whole, they are at most the front.
pub front_is_longest : (test : ℕ → Bool) (other more bytes : List ℕ) → bytes ≡ other ++ more → list_all test other ≡ true → length other ≤ length (front_of test bytes)
front_is_longest test [] more bytes is all = omega arith
front_is_longest test (x ∷ other) more [] is all = cc
front_is_longest test (x ∷ other) more (byte ∷ bytes) is all =
    let same : byte ≡ x = cc in
    let rest : bytes ≡ other ++ more = cc in
    let both = and_parts (test x) (list_all test other) all in
    let passes : test byte ≡ true = ap test same ∙ both.0 in
    rw passes (omega (arith, front_is_longest test other more bytes rest both.1))

-- one of words that all pass a test passes it
pub one_passes : (test : List ℕ → Bool) (words : List (List ℕ)) (word : List ℕ) → IsAmong word words → list_all test words ≡ true → test word ≡ true
one_passes test [] word is all = absurd is
one_passes test (other ∷ words) word (inl same) all = ap test same ∙ (and_parts (test other) (list_all test words) all).0
one_passes test (other ∷ words) word (inr is) all = one_passes test words word is (and_parts (test other) (list_all test words) all).1

-- Bytes that pass, and then one that does not or the end, are the front and the rest.
pub front_exact : (test : ℕ → Bool) (front rest : List ℕ) → list_all test front ≡ true → stops test rest ≡ true → front_of test (front ++ rest) ≡ front
front_exact test [] [] all stop = refl
front_exact test [] (byte ∷ rest) all stop = rw (not_true (test byte) stop) refl
front_exact test (byte ∷ front) rest all stop =
    let both = and_parts (test byte) (list_all test front) all in
    rw both.0 (ap (λ l. byte ∷ l) (front_exact test front rest both.1 stop))

pub rest_exact : (test : ℕ → Bool) (front rest : List ℕ) → list_all test front ≡ true → stops test rest ≡ true → rest_of test (front ++ rest) ≡ rest
rest_exact test [] [] all stop = refl
rest_exact test [] (byte ∷ rest) all stop = rw (not_true (test byte) stop) refl
rest_exact test (byte ∷ front) rest all stop =
    let both = and_parts (test byte) (list_all test front) all in
    rw both.0 (rest_exact test front rest both.1 stop)

-- what is left does not pass
pub rest_stops : (test : ℕ → Bool) (bytes : List ℕ) → stops test (rest_of test bytes) ≡ true
rest_stops test [] = refl
rest_stops test (byte ∷ bytes) =
    elim (test byte) as (λ b. test byte ≡ b → stops test (if b then rest_of test bytes else byte ∷ bytes) ≡ true)
    [ true ↦ λ e. rest_stops test bytes | false ↦ λ e. rw e refl ] refl

-- behind bytes that pass no more is left than follows them
pub rest_at_most : (test : ℕ → Bool) (front more : List ℕ) → list_all test front ≡ true → length (rest_of test (front ++ more)) ≤ length more
rest_at_most test [] more all = rest_fits test more
rest_at_most test (byte ∷ front) more all =
    let both = and_parts (test byte) (list_all test front) all in
    rw both.0 (rest_at_most test front more both.1)

-- the second byte
abbrev pub second : List ℕ → ℕ
second [] = 0
second (a ∷ []) = 0
second (a ∷ b ∷ bytes) = b

pub unlike : (a b : ℕ) → (a == b) ≡ false → a ≢ b
unlike a b differ = λ is. let same : (a == b) ≡ true = eq-eqb a b is in cc
