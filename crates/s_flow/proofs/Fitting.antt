-- Words that fit widths fit the ports of these widths.
use Rattle.std.proofs.Common.{◌≡◌, ◌<◌, ◌≤◌, ◌^◌, ℕ, zero, suc, List, [], ◌∷◌, ◌++◌, ◌+◌, length, get_or, take, drop, ◌∙◌, Bool, slice_get, Some, refl, sym, ap, subst, arith, append-nil, length-append}
use Rattle.std.proofs.lemmas.List.{take_more}
use Rattle.std.proofs.lemmas.Nat.{pow_pos}
use Rattle.std.proofs.lemmas.Grind.{common_steps}
use Rattle.lz_base.specs.Bits.{word_bits, words_bits}
use Rattle.lz_base.specs.WordValue.{WordValue}
use Rattle.lz_base.specs.Ports.{FitPorts}
use Rattle.lz_base.specs.declared.name.Port.{Port}
use Rattle.lz_circuit.specs.Lines.{HaveWidths, port_bits}
use Rattle.n_cells.specs.Netlist.{NetlistValue}
use Rattle.n_cells.specs.Run.{IsValuation, Runs, shown, next_state}
use Rattle.t_trace.specs.Widths.{AreWidths, FitWidths, CyclesFit}
use Rattle.s_flow.specs.Simulation.{widths_of}
use Rattle.s_flow.proofs.Streams.{length_low}

pub fit_ports : (ports : List Port) (words : List WordValue) → FitWidths (widths_of ports) words → FitPorts ports words
fit_ports [] [] fit = tt
fit_ports [] (w ∷ words) fit = absurd fit
fit_ports (p ∷ ports) [] fit = absurd fit
fit_ports (p ∷ ports) (w ∷ words) fit =
    (fit.0, rw fit.0 fit.1, fit_ports ports words fit.2)

-- the widths of ports are widths of words
pub are_widths : (ports : List Port) → HaveWidths ports → AreWidths (widths_of ports)
are_widths [] have = tt
are_widths (p ∷ ports) have = (have.0, have.1, are_widths ports have.2)

-- a run of one cycle more
pub runs_on : (n : NetlistValue) (state : List Bool) (input : List WordValue) (cycles rest : List (List WordValue)) (out : List WordValue) (values next : List Bool)
    → IsValuation n input state values → out ≡ shown n values → next ≡ next_state n state values → Runs n next cycles rest → Runs n state (input ∷ cycles) (out ∷ rest)
runs_on n state input cycles rest out values next valued is moved run = (values, valued, is, subst (λ s. Runs n s cycles rest) moved run)

-- the width of a port that is there
pub width_there : (ports : List Port) (i : ℕ) (p : Port) → HaveWidths ports → i < length ports → p ≡ get_or ports i p → (1 ≤ p.width) × (p.width ≤ 128)
width_there [] i p have within is = absurd (omega arith)
width_there (q ∷ ports) zero p have within is = rw is (have.0, have.1)
width_there (q ∷ ports) (suc i) p have within is = width_there ports i p have.2 (omega arith) is

-- one port and its word more
pub fit_more : (ports : List Port) (words : List WordValue) (p : Port) (w : WordValue) → FitPorts ports words → w.width ≡ p.width → w.value < 2 ^ w.width → FitPorts (ports ++ p ∷ []) (words ++ w ∷ [])
fit_more [] [] p w fit width fits = (width, fits, tt)
fit_more [] (v ∷ words) p w fit width fits = absurd fit
fit_more (q ∷ ports) [] p w fit width fits = absurd fit
fit_more (q ∷ ports) (v ∷ words) p w fit width fits = (fit.0, fit.1, fit_more ports words p w fit.2 width fits)

-- the same behind the ports before an index
pub fit_next : (ports : List Port) (i : ℕ) (words : List WordValue) (p : Port) (w : WordValue) → i < length ports → p ≡ get_or ports i p → FitPorts (take i ports) words
    → w.width ≡ p.width → w.value < 2 ^ w.width → FitPorts (take (i + 1) ports) (words ++ w ∷ [])
fit_next ports i words p w within is fit width fits =
    let more : take (i + 1) ports ≡ take i ports ++ p ∷ [] = take_more ports i p within ∙ ap (λ (q : Port). take i ports ++ q ∷ []) (sym is) in
    rw more (fit_more (take i ports) words p w fit width fits)

-- the words of a cycle that is there fit
pub cycle_there : (widths : List ℕ) (cycles : List (List WordValue)) (i : ℕ) (words : List WordValue) → CyclesFit widths (drop i cycles) → i < length cycles → words ≡ get_or cycles i words → FitWidths widths words
cycle_there widths [] i words fit within is = absurd (omega arith)
cycle_there widths (c ∷ cycles) zero words fit within is = rw is fit.0
cycle_there widths (c ∷ cycles) (suc i) words fit within is = cycle_there widths cycles i words fit (omega arith) is

-- a word of 0 fits its port
pub zero_fits : (w : WordValue) (width : ℕ) → w ≡ record { width = width; value = 0 } → (w.width ≡ width) × (w.value < 2 ^ w.width)
zero_fits w width is =
    let some : 0 < 2 ^ width = pow_pos width in
    rw is (refl, some)

drop_past : (xs : List (List WordValue)) (i : ℕ) → length xs ≤ i → drop i xs ≡ []
drop_past xs i h = grind (arith, common_steps)

-- a run is whole where no cycle is left
pub run_ends : (n : NetlistValue) (state first : List Bool) (cycles shown_so_far : List (List WordValue)) (i : ℕ) → length cycles ≤ i
    → ((rest : List (List WordValue)) → Runs n state (drop i cycles) rest → Runs n first cycles (shown_so_far ++ rest)) → Runs n first cycles shown_so_far
run_ends n state first cycles shown_so_far i past run =
    let ended : Runs n state (drop i cycles) [] = rw (drop_past cycles i past) tt in
    rw append-nil at (run [] ended)

-- the words of a line that is there fit
pub line_fits : (ports : List Port) (lines : List (List WordValue)) → CyclesFit (widths_of ports) lines → (j : ℕ) (line : List WordValue) → slice_get lines j ≡ Some line → FitPorts ports line
line_fits ports [] fit j line is = absurd (cc)
line_fits ports (l ∷ lines) fit zero line is =
    let same : l ≡ line = cc in
    fit_ports ports line (rw (← same) fit.0)
line_fits ports (l ∷ lines) fit (suc j) line is = line_fits ports lines fit.1 j line is

-- words that fit ports have as many bits as these
pub bits_fit : (ports : List Port) (words : List WordValue) → FitPorts ports words → length (words_bits words) ≡ port_bits ports
bits_fit [] [] fit = refl
bits_fit [] (w ∷ words) fit = absurd fit
bits_fit (p ∷ ports) [] fit = absurd fit
bits_fit (p ∷ ports) (w ∷ words) fit = omega (arith, length-append (word_bits w) (words_bits words), length_low w.width w.value, bits_fit ports words fit.2, fit.0)

-- the lines before and behind one of the list fit
pub fit_parts : (widths : List ℕ) (lines : List (List WordValue)) (i : ℕ) → CyclesFit widths lines → CyclesFit widths (take i lines) × CyclesFit widths (drop i lines)
fit_parts widths [] zero fit = (tt, tt)
fit_parts widths [] (suc i) fit = (tt, tt)
fit_parts widths (l ∷ lines) zero fit = (tt, fit)
fit_parts widths (l ∷ lines) (suc i) fit = let parts = fit_parts widths lines i fit.1 in ((fit.0, parts.0), parts.1)
