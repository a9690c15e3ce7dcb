-- Outputs, whose ports and nets stand in two lists, one after another.
use Rattle.std.proofs.Common.{◌≡◌, ℕ, ◌+◌, ◌<◌, List, ◌++◌, [], ◌∷◌, length, refl, drop, slice_get, get_or, Some, arith, ap, sym, subst, ◌∙◌}
use Rattle.lz_base.specs.declared.name.Port.{Port}
use Rattle.lz_lines.specs.References.{wrong_output}
use Rattle.lz_lines.specs.Shared.{output_line}
use Rattle.lz_base.proofs.Lists.{drop_next, item_or, item_there}
use Rattle.n_cells.specs.Netlist.{FillOutputs}
use Rattle.n_cells.specs.Text.{output_lines}
use Rattle.n_text.specs.Referred.{wrong_outputs}

pub filled_length : (ps : List Port) (ns : List (List ℕ)) → FillOutputs ps ns → length ps ≡ length ns
filled_length [] [] h = refl
filled_length [] (n ∷ ns) h = absurd h
filled_length (p ∷ ps) [] h = absurd h
filled_length (p ∷ ps) (n ∷ ns) h = let e = filled_length ps ns h.1 in omega (arith, e)

-- the port of an output that was read is there, and so are its nets
pub output_there : (ps : List Port) (ns : List (List ℕ)) (i : ℕ) (d : Port) (n m : List ℕ) → FillOutputs ps ns → i < length ps → m ≡ get_or ns i m → n ≡ m
    → (slice_get ps i ≡ Some (get_or ps i d)) × (slice_get ns i ≡ Some n)
output_there ps ns i d n m filled within is same = (item_or ps i d within, item_there ns i m (omega (arith, within, filled_length ps ns filled)) is ∙ ap Some (sym same))

-- the line of the output at an index comes next
pub output_lines_next : (ps : List Port) (ns : List (List ℕ)) (i : ℕ) (p : Port) (n : List ℕ) → slice_get ps i ≡ Some p → slice_get ns i ≡ Some n
    → output_lines (drop i ps) (drop i ns) ≡ output_line p.name n ++ output_lines (drop (i + 1) ps) (drop (i + 1) ns)
output_lines_next ps ns i p n at_p at_n = rw (drop_next ps i p at_p, drop_next ns i n at_n) refl

pub outputs_next : (known : List (List ℕ)) (count place : ℕ) (ps : List Port) (ns : List (List ℕ)) (i : ℕ) (p : Port) (n : List ℕ) → slice_get ps i ≡ Some p → slice_get ns i ≡ Some n
    → wrong_outputs known count place (drop i ps) (drop i ns)
    ≡ wrong_output known count place p.name n ++ wrong_outputs (known ++ p.name ∷ []) count (place + length (output_line p.name n)) (drop (i + 1) ps) (drop (i + 1) ns)
outputs_next known count place ps ns i p n at_p at_n = rw (drop_next ps i p at_p, drop_next ns i n at_n) refl

pub filled_next : (ps : List Port) (ns : List (List ℕ)) (i : ℕ) (p : Port) (n : List ℕ) → slice_get ps i ≡ Some p → slice_get ns i ≡ Some n
    → FillOutputs (drop i ps) (drop i ns) → FillOutputs (drop (i + 1) ps) (drop (i + 1) ns)
filled_next ps ns i p n at_p at_n h =
    let both : FillOutputs (p ∷ drop (i + 1) ps) (n ∷ drop (i + 1) ns) =
    subst (λ (qs : List Port). FillOutputs qs (n ∷ drop (i + 1) ns)) (drop_next ps i p at_p) (subst (λ (ms : List (List ℕ)). FillOutputs (drop i ps) ms) (drop_next ns i n at_n) h) in
    both.1
