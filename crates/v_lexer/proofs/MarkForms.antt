-- The first mark of the table that fits is the longest.
use Rattle.std.specs.Prelude.{⊤}
use Rattle.std.proofs.Common.{◌≡◌, ◌≢◌, ◌≤◌, ℕ, zero, suc, Bool, true, false, ◌&&◌, List, [], ◌∷◌, ◌++◌, refl, sym, ap, subst, ◌∙◌, arith, length, drop, if◌then◌else◌, Some, None, slice_get, nat_le, nat_eq}
use Rattle.std.specs.List.{starts_with}
use Rattle.std.proofs.lemmas.Slice.Eq.{starts_is}
use Rattle.std.proofs.lemmas.Bool.{and_parts}
use Rattle.std.proofs.lemmas.Bool.Decides.{Decides-eqb}
use Rattle.v_syntax.specs.declared.token.Mark.{Mark}
use Rattle.v_syntax.specs.declared.token.Mark.TheVariants as m
use Rattle.v_syntax.specs.Tokens.{mark_spelling}
use Rattle.v_lexer.specs.Scan.{mark_in, marks}

abbrev Table : Type 0
Table = List (List ℕ × Mark)

-- each entry has its mark's spelling
abbrev AreMarks : Table → Type 0
AreMarks [] = ⊤
AreMarks (entry ∷ table) = (entry.0 ≡ mark_spelling entry.1) × AreMarks table

-- no entry is longer than this, nor than an earlier entry
abbrev descends : ℕ → Table → Bool
descends most [] = true
descends most (entry ∷ table) = nat_le (length entry.0) most && descends (length entry.0) table

fits : (bytes spelled : List ℕ) → starts_with nat_eq bytes spelled ≡ true → bytes ≡ spelled ++ drop (length spelled) bytes
fits bytes spelled is = (starts_is Decides-eqb bytes spelled (starts_with nat_eq bytes spelled) refl).0 is

fits_not : (bytes spelled more : List ℕ) → starts_with nat_eq bytes spelled ≡ false → bytes ≢ spelled ++ more
fits_not bytes spelled more is = λ same. let yes : starts_with nat_eq bytes spelled ≡ true = (starts_is Decides-eqb bytes spelled (starts_with nat_eq bytes spelled) refl).1 more same in cc

-- what is found stands at the front
found_fits : (table : Table) (bytes : List ℕ) (found : Mark) (len : ℕ) → AreMarks table → mark_in table bytes ≡ Some (found, len)
    → (len ≡ length (mark_spelling found)) × (bytes ≡ mark_spelling found ++ drop len bytes)
found_fits [] bytes found len are is = absurd (cc)
found_fits (entry ∷ table) bytes found len are is =
    elim (starts_with nat_eq bytes entry.0) as (λ b. starts_with nat_eq bytes entry.0 ≡ b → (if b then Some (entry.1, length entry.0) else mark_in table bytes) ≡ Some (found, len)
    → (len ≡ length (mark_spelling found)) × (bytes ≡ mark_spelling found ++ drop len bytes)) [
      | true ↦ λ t e.
          let pair : (entry.1, length entry.0) ≡ (found, len) = cc in
          let same : entry.1 ≡ found = ap (λ (p : Mark × ℕ). p.0) pair in
          let n : length entry.0 ≡ len = ap (λ (p : Mark × ℕ). p.1) pair in
          let spelled : entry.0 ≡ mark_spelling found = are.0 ∙ ap mark_spelling same in
          (sym n ∙ ap length spelled, fits bytes entry.0 t ∙ ap (λ l. l ++ drop (length entry.0) bytes) spelled ∙ ap (λ k. mark_spelling found ++ drop k bytes) n)
      | false ↦ λ t e. found_fits table bytes found len are.1 e
    ] refl is

le_from : (m n : ℕ) → nat_le m n ≡ true → m ≤ n
le_from m n is = grind arith

-- no entry is longer than the first bound
below : (table : Table) (most i : ℕ) (spelled : List ℕ) (mark : Mark) → descends most table ≡ true → slice_get table i ≡ Some (spelled, mark) → length spelled ≤ most
below [] most i spelled mark down at = absurd (cc)
below (entry ∷ table) most zero spelled mark down at =
    let parts = and_parts (nat_le (length entry.0) most) (descends (length entry.0) table) down in
    let pair : entry ≡ (spelled, mark) = cc in
    subst (λ (l : List ℕ). length l ≤ most) (ap (λ (p : List ℕ × Mark). p.0) pair) (le_from _ _ parts.0)
below (entry ∷ table) most (suc i) spelled mark down at =
    let parts = and_parts (nat_le (length entry.0) most) (descends (length entry.0) table) down in
    omega (arith, below table (length entry.0) i spelled mark parts.1 at, le_from _ _ parts.0)

-- A mark of the table that fits is no longer than the one that is found, and one is found.
longest : (table : Table) (most i : ℕ) (mark : Mark) (bytes more : List ℕ) → descends most table ≡ true → slice_get table i ≡ Some (mark_spelling mark, mark)
    → bytes ≡ mark_spelling mark ++ more → (found : Mark × ℕ) × (mark_in table bytes ≡ Some found) × (length (mark_spelling mark) ≤ found.1)
longest [] most i mark bytes more down at is = absurd (cc)
longest (entry ∷ table) most zero mark bytes more down at is =
    let pair : entry ≡ (mark_spelling mark, mark) = cc in
    let same : entry.0 ≡ mark_spelling mark = ap (λ (p : List ℕ × Mark). p.0) pair in
    elim (starts_with nat_eq bytes entry.0) as (λ b. starts_with nat_eq bytes entry.0 ≡ b
    → (found : Mark × ℕ) × ((if b then Some (entry.1, length entry.0) else mark_in table bytes) ≡ Some found) × (length (mark_spelling mark) ≤ found.1)) [
      | true ↦ λ t. ((entry.1, length entry.0), refl, omega (arith, ap length same))
      | false ↦ λ t. absurd (fits_not bytes entry.0 more t (is ∙ ap (λ l. l ++ more) (sym same)))
    ] refl
longest (entry ∷ table) most (suc i) mark bytes more down at is =
    let parts = and_parts (nat_le (length entry.0) most) (descends (length entry.0) table) down in
    elim (starts_with nat_eq bytes entry.0) as (λ b.
    (found : Mark × ℕ) × ((if b then Some (entry.1, length entry.0) else mark_in table bytes) ≡ Some found) × (length (mark_spelling mark) ≤ found.1)) [
      | true ↦ ((entry.1, length entry.0), refl, below table (length entry.0) i (mark_spelling mark) mark parts.1 at)
      | false ↦ longest table (length entry.0) i mark bytes more parts.1 at is
    ]

marks_descend : descends 3 marks ≡ true
unfolding marks
marks_descend = refl

marks_spelled : AreMarks marks
unfolding marks mark_spelling
marks_spelled = (refl, (refl, (refl, (refl, (refl, (refl, (refl, (refl, (refl, (refl, (refl, (refl, (refl, (refl, (refl, (refl, (refl, (refl, (refl, (refl, (refl, (refl, (refl, (refl, (refl, (refl, (refl, (refl, (refl, (refl, (refl, (refl, (refl, (refl, (refl, (refl, (refl, (refl, tt))))))))))))))))))))))))))))))))))))))

-- each mark stands in the table
mark_listed : (mark : Mark) → (i : ℕ) × (slice_get marks i ≡ Some (mark_spelling mark, mark))
unfolding marks mark_spelling
mark_listed m.ShiftLeftSigned = (0, refl)
mark_listed m.ShiftRightSigned = (1, refl)
mark_listed m.AndAnd = (2, refl)
mark_listed m.OrOr = (3, refl)
mark_listed m.EqualEqual = (4, refl)
mark_listed m.BangEqual = (5, refl)
mark_listed m.LessEqual = (6, refl)
mark_listed m.GreaterEqual = (7, refl)
mark_listed m.ShiftLeft = (8, refl)
mark_listed m.ShiftRight = (9, refl)
mark_listed m.TildeAmpersand = (10, refl)
mark_listed m.TildeBar = (11, refl)
mark_listed m.TildeCaret = (12, refl)
mark_listed m.CaretTilde = (13, refl)
mark_listed m.OpenParen = (14, refl)
mark_listed m.CloseParen = (15, refl)
mark_listed m.Semicolon = (16, refl)
mark_listed m.Comma = (17, refl)
mark_listed m.OpenBracket = (18, refl)
mark_listed m.CloseBracket = (19, refl)
mark_listed m.OpenBrace = (20, refl)
mark_listed m.CloseBrace = (21, refl)
mark_listed m.Colon = (22, refl)
mark_listed m.Dot = (23, refl)
mark_listed m.Hash = (24, refl)
mark_listed m.At = (25, refl)
mark_listed m.Question = (26, refl)
mark_listed m.Equal = (27, refl)
mark_listed m.Plus = (28, refl)
mark_listed m.Minus = (29, refl)
mark_listed m.Star = (30, refl)
mark_listed m.Bang = (31, refl)
mark_listed m.Tilde = (32, refl)
mark_listed m.Ampersand = (33, refl)
mark_listed m.Bar = (34, refl)
mark_listed m.Caret = (35, refl)
mark_listed m.Less = (36, refl)
mark_listed m.Greater = (37, refl)

-- a mark by itself is found
pub mark_found : (mark : Mark) → mark_in marks (mark_spelling mark) ≡ Some (mark, length (mark_spelling mark))
unfolding marks mark_spelling
mark_found m.ShiftLeftSigned = refl
mark_found m.ShiftRightSigned = refl
mark_found m.AndAnd = refl
mark_found m.OrOr = refl
mark_found m.EqualEqual = refl
mark_found m.BangEqual = refl
mark_found m.LessEqual = refl
mark_found m.GreaterEqual = refl
mark_found m.ShiftLeft = refl
mark_found m.ShiftRight = refl
mark_found m.TildeAmpersand = refl
mark_found m.TildeBar = refl
mark_found m.TildeCaret = refl
mark_found m.CaretTilde = refl
mark_found m.OpenParen = refl
mark_found m.CloseParen = refl
mark_found m.Semicolon = refl
mark_found m.Comma = refl
mark_found m.OpenBracket = refl
mark_found m.CloseBracket = refl
mark_found m.OpenBrace = refl
mark_found m.CloseBrace = refl
mark_found m.Colon = refl
mark_found m.Dot = refl
mark_found m.Hash = refl
mark_found m.At = refl
mark_found m.Question = refl
mark_found m.Equal = refl
mark_found m.Plus = refl
mark_found m.Minus = refl
mark_found m.Star = refl
mark_found m.Bang = refl
mark_found m.Tilde = refl
mark_found m.Ampersand = refl
mark_found m.Bar = refl
mark_found m.Caret = refl
mark_found m.Less = refl
mark_found m.Greater = refl

pub mark_fits : (bytes : List ℕ) (found : Mark) (len : ℕ) → mark_in marks bytes ≡ Some (found, len)
    → (len ≡ length (mark_spelling found)) × (bytes ≡ mark_spelling found ++ drop len bytes)
mark_fits bytes found len is = found_fits marks bytes found len marks_spelled is

pub mark_longest : (bytes : List ℕ) (found mark : Mark) (len : ℕ) (more : List ℕ) → mark_in marks bytes ≡ Some (found, len) → bytes ≡ mark_spelling mark ++ more
    → length (mark_spelling mark) ≤ len
mark_longest bytes found mark len more is fits =
    let listed = mark_listed mark in
    let best = longest marks 3 listed.0 mark bytes more marks_descend listed.1 fits in
    let pair : best.0 ≡ (found, len) = cc in
    omega (arith, best.2, ap (λ (p : Mark × ℕ). p.1) pair)

pub no_mark : (bytes : List ℕ) (mark : Mark) (more : List ℕ) → mark_in marks bytes ≡ None → bytes ≢ mark_spelling mark ++ more
no_mark bytes mark more none = λ fits.
    let listed = mark_listed mark in
    let best = longest marks 3 listed.0 mark bytes more marks_descend listed.1 fits in
    let found : mark_in marks bytes ≡ Some best.0 = best.1 in
    cc
