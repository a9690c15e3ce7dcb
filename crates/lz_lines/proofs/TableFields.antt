-- Look-up tables, field by field.
use Rattle.std.proofs.Common.{◌≡◌, inl, ℕ, ◌≤◌, ◌<◌, ◌^◌, List, [], ◌∷◌, ◌++◌, length, flat_map, refl, arith, ap, sym, subst, ◌∙◌, append-nil}
use Rattle.std.proofs.lemmas.Nat.{pow_pos}
use Rattle.std.proofs.Math.Nat.{pow-le-pow_right}
use Rattle.lz_lines.specs.Fields.{AreNumbers, IsHex, IsNumber, field, greatest, hex, number}
use Rattle.lz_lines.specs.Forms.{Anything, Done, EndNumbers, IsParted, Then}
use Rattle.lz_lines.specs.Tables.{IsTable, table_fields}
use Rattle.lz_lines.proofs.Forms.{After, after_same, after_start}
use Rattle.lz_lines.proofs.Standing.{Some_, field_parted, numbers_parted, some_then, zeros, zeros_there}

-- what is left behind the numbers, of which there are so many
abbrev pub Bits : ℕ → List ℕ → List ℕ × ℕ → List ℕ → Type 0
Bits count ns = Then (IsHex (2 ^ count)) (λ table. Done (ns, table))

abbrev pub Behind : ℕ → List ℕ → List ℕ × ℕ → List ℕ → Type 0
Behind count ns t text = (count ≤ length ns) × Bits count ns t text

abbrev pub Counted : ℕ → List ℕ × ℕ → List ℕ → Type 0
Counted count = Then (AreNumbers count count greatest) (Behind count)

abbrev pub Table : ℕ → List ℕ × ℕ → List ℕ → Type 0
Table most = Then (IsNumber 0 most) Counted

table_to : (most : ℕ) (t : List ℕ × ℕ) (text : List ℕ) → Table most t text → IsTable most t text
table_to most t text (count, front, back, iscount, (ns, f, b, are, (enough, (table, g, last, ishex, done, h)), d), e) =
    let many : count ≡ length ns = omega (arith, are.0, are.1) in
    let made : IsTable most (ns, table) text = (
      subst (λ n. n ≤ most) many iscount.1,
      are.2,
      subst (λ n. table < 2 ^ (2 ^ n)) many ishex.0,
      e ∙ (λ i. (iscount.2 ∙ ap number many) i ++ (d ∙ (λ j. are.3 j ++ (h ∙ (λ k. (ishex.1 ∙ ap (λ n. field (hex (2 ^ n) table)) many) k ++ done.1 k) ∙ append-nil (field (hex (2 ^ length ns) table))) j)) i),
    ) in
    subst (λ (u : List ℕ × ℕ). IsTable most u text) (sym done.0) made

table_from : (most : ℕ) (t : List ℕ × ℕ) (text : List ℕ) → IsTable most t text → Table most t text
table_from most (ns, table) text is = (
  length ns,
  number (length ns),
  flat_map number ns ++ field (hex (2 ^ length ns) table),
  (omega arith, is.0, refl),
  (
    ns,
    flat_map number ns,
    field (hex (2 ^ length ns) table),
    (omega arith, omega arith, is.1, refl),
    (omega arith, (table, field (hex (2 ^ length ns) table), [], (is.2, refl), (refl, refl), sym (append-nil (field (hex (2 ^ length ns) table))))),
    refl,
  ),
  is.3,
)

pub table_after : (most : ℕ) (bytes : List ℕ) → After (IsTable most) Anything bytes (Table most) bytes
table_after most bytes = after_same (Table most) (after_start (IsTable most) Anything bytes) (table_to most) (table_from most)

-- what can stand behind each field, and how it begins
pub bits_some : (count : ℕ) (ns text : List ℕ) → AreNumbers count count greatest ns text → Some_ (Behind count ns)
bits_some count ns text is =
    let end_ = some_then (IsHex (2 ^ count)) (λ table. Done (ns, table)) 0 (field (hex (2 ^ count) 0)) (pow_pos (2 ^ count), refl) ((ns, 0), [], (refl, refl)) in
    (end_.0, end_.1, (is.0, end_.2))

pub counted_some : (count : ℕ) → Some_ (Counted count)
counted_some count =
    let z = zeros_there count count count (omega arith) (omega arith) in
    some_then (AreNumbers count count greatest) (Behind count) (zeros count) (flat_map number (zeros count)) z (bits_some count (zeros count) (flat_map number (zeros count)) z)

bits_parted : (count : ℕ) (ns : List ℕ) (t : List ℕ × ℕ) (text behind : List ℕ) → Behind count ns t text → IsParted (text ++ behind)
bits_parted count ns t text behind is = field_parted (IsHex (2 ^ count)) (λ table. Done (ns, table)) (λ n t h. (hex (2 ^ count) n, h.1)) t text behind is.1

pub bits_end : (count : ℕ) (ns : List ℕ) (t : List ℕ × ℕ) (text behind : List ℕ) → Behind count ns t text → EndNumbers count ns (text ++ behind)
bits_end count ns t text behind is = (bits_parted count ns t text behind is, λ fewer. absurd (omega (arith, fewer, is.0)))

pub counted_parted : (count : ℕ) (t : List ℕ × ℕ) (text behind : List ℕ) → Counted count t text → IsParted (text ++ behind)
counted_parted count = numbers_parted count count (Behind count) (bits_parted count)

power_grows : (i j : ℕ) → i ≤ j → 2 ^ i ≤ 2 ^ j
power_grows i j h = pow-le-pow_right (omega arith) h

-- a table has at most 64 bits
pub table_fits : (table width count : ℕ) → count ≤ 6 → width ≡ 2 ^ count → table < 2 ^ width → table < 2 ^ 64
table_fits table width count few e fits =
    let w : width ≤ 64 = omega (arith, e, power_grows count 6 few) in
    omega (arith, fits, power_grows width 64 w)
