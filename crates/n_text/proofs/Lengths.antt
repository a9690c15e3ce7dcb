-- How long the line of a look-up table is.
use Rattle.std.proofs.Common.{◌≡◌, ℕ, zero, suc, ◌+◌, ◌/◌, ◌%◌, ◌≤◌, ◌^◌, List, [], ◌∷◌, ◌++◌, length, flat_map, arith, refl, ap}
use Rattle.std.proofs.lemmas.List.{length-append}
use Rattle.lz_lines.specs.Fields.{number, field, hex, hex_digits, hex_digit}
use Rattle.lz_lines.specs.References.{wrong_numbers}
use Rattle.lz_lines.proofs.Lengths.{number_digit}
use Rattle.n_cells.specs.declared.netlist.Stored.TheVariants as stored
use Rattle.n_cells.specs.Leaves.{most_leaves}
use Rattle.n_cells.specs.Text.{cell_line}
use Rattle.n_text.specs.Referred.{wrong_cell}

hex_length : (k n : ℕ) → length (hex_digits k n) ≡ k
hex_length zero n = refl
hex_length (suc k) n = let e = length-append (hex_digits k (n / 16)) (hex_digit (n % 16) ∷ []) in omega (arith, e, hex_length k (n / 16))

pub lut_length : (leaves : List ℕ) (table : ℕ) → length leaves ≤ most_leaves → length (cell_line (stored.Lut leaves table)) ≡ 5 + length (flat_map number leaves) + 2 + (2 ^ length leaves + 3) / 4
lut_length leaves table few =
    let a = number (length leaves) in
    let b = flat_map number leaves in
    let d = hex (2 ^ length leaves) table in
    let e = length-append (a ++ b ++ field d) (10 ∷ []) in
    let f = length-append (a ++ b) (field d) in
    let g = length-append a b in
    omega (arith, e, f, g, number_digit (length leaves) (omega (arith, few)), hex_length ((2 ^ length leaves + 3) / 4) table)

-- a table's line is judged by its leaves
pub lut_places : (next place : ℕ) (leaves : List ℕ) (table : ℕ) → length leaves ≤ most_leaves → wrong_cell next place (stored.Lut leaves table) ≡ wrong_numbers next (place + 5) leaves
lut_places next place leaves table few =
    let begins : place + 3 + length (number (length leaves)) ≡ place + 5 = omega (arith, number_digit (length leaves) (omega (arith, few))) in
    ap (λ k. wrong_numbers next k leaves) begins
