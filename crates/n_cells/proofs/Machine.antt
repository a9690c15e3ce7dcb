-- A netlist as a machine: it goes on, and does one thing in each cycle. With enables that are always 1 it runs as one
-- without enables.
use Rattle.std.proofs.Common.{◌≡◌, ◌↔◌, ◌<◌, ℕ, suc, List, [], ◌∷◌, length, map, get_or, Bool, true, false, refl, sym, ap, ◌∙◌, arith, if◌then◌else◌}
use Rattle.std.proofs.lemmas.List.{get_or-take}
use Rattle.std.proofs.lemmas.Simd.{length-zip2}
use Rattle.lz_base.specs.Ports.{FitPorts}
use Rattle.lz_base.specs.WordValue.{WordValue}
use Rattle.lz_machine.specs.Machine.{Lasts}
use Rattle.lz_circuit.specs.Values.{value_at}
use Rattle.lz_circuit.proofs.Laws.{HasOneValuation, step_there, step_alone, never_stops}
use Rattle.n_cells.specs.declared.format.Format.TheVariants.{One}
use Rattle.n_cells.specs.declared.netlist.Flop.{Flop}
use Rattle.n_cells.specs.AsMachine.{NetlistDoes, netlist_circuit, netlist_machine}
use Rattle.n_cells.specs.Form.{HaveEnables}
use Rattle.n_cells.specs.Netlist.{NetlistValue, IsWellFormed, first_net}
use Rattle.n_cells.specs.OldRun.{OldRuns, old_next_state}
use Rattle.n_cells.specs.Run.{IsValuation, Runs, after_edge, shown, next_state}
use Rattle.n_cells.specs.Walk.{walked}
use Rattle.n_cells.proofs.Valuation.{valuation_same, valuation_there}

-- the flip-flops keep their number
pub length_next : (n : NetlistValue) (state values : List Bool) → length state ≡ length n.flops → length (next_state n state values) ≡ length n.flops
length_next n state values e = length-zip2 (λ (f : Flop) bit. if value_at values f.enable then value_at values f.net else bit) n.flops state (sym e)

-- a well-formed netlist has one valuation
one : (n : NetlistValue) → IsWellFormed n → HasOneValuation (netlist_circuit n) (length n.flops) (walked n)
one n fine = record {
  there = λ inputs state. valuation_there n inputs state fine;
  alone = λ inputs state a b. valuation_same n inputs state a b fine;
  bits = length_next n;
}

-- what it does under the values that come out net after net
pub does_there : (n : NetlistValue) (inputs : List WordValue) (state : List Bool) → IsWellFormed n → FitPorts n.inputs inputs → length state ≡ length n.flops
    → NetlistDoes n state inputs (shown n (walked n inputs state)) (next_state n state (walked n inputs state))
does_there n inputs state fine = step_there (netlist_circuit n) (length n.flops) (walked n) inputs state (one n fine)

-- and it does nothing else
pub does_alone : (n : NetlistValue) (inputs outputs : List WordValue) (state after : List Bool) → IsWellFormed n → FitPorts n.inputs inputs → length state ≡ length n.flops
    → NetlistDoes n state inputs outputs after → (outputs ≡ shown n (walked n inputs state)) × (after ≡ next_state n state (walked n inputs state))
does_alone n inputs outputs state after fine = step_alone (netlist_circuit n) (length n.flops) (walked n) inputs outputs state after (one n fine)

-- it never stops
pub goes_on : (n : NetlistValue) (state : List Bool) (cycles : ℕ) → IsWellFormed n → length state ≡ length n.flops → Lasts (netlist_machine n) cycles state
goes_on n state cycles fine = never_stops (netlist_circuit n) (length n.flops) (walked n) state cycles (one n fine)

edge_same : (values : List Bool) (fs : List Flop) (bits : List Bool) → value_at values 1 ≡ true → HaveEnables One fs → length bits ≡ length fs
    → after_edge values fs bits ≡ map (λ f. value_at values f.net) fs
edge_same values [] bits one enabled e = refl
edge_same values (f ∷ fs) [] one enabled e = absurd (omega arith)
edge_same values (f ∷ fs) (bit ∷ bits) one enabled e =
    ap (λ k. (if value_at values k then value_at values f.net else bit) ∷ after_edge values fs bits) enabled.0
    ∙ ap (λ b. (if b then value_at values f.net else bit) ∷ after_edge values fs bits) one
    ∙ ap (λ l. value_at values f.net ∷ l) (edge_same values fs bits one enabled.1 (omega arith))

-- net 1 is the constant 1
one_is_true : (n : NetlistValue) (inputs : List WordValue) (state values : List Bool) → IsValuation n inputs state values → value_at values 1 ≡ true
one_is_true n inputs state values v =
    let here : 1 < first_net n.inputs n.flops = omega arith in
    sym (get_or-take (first_net n.inputs n.flops) values 1 false here) ∙ ap (λ l. get_or l 1 false) v.front

next_same : (n : NetlistValue) (inputs : List WordValue) (state values : List Bool) → HaveEnables One n.flops → length state ≡ length n.flops → IsValuation n inputs state values
    → next_state n state values ≡ old_next_state n values
next_same n inputs state values enabled bits v = edge_same values n.flops state (one_is_true n inputs state values v) enabled bits

length_old : (values : List Bool) (fs : List Flop) → length (map (λ f. value_at values f.net) fs) ≡ length fs
length_old values [] = refl
length_old values (f ∷ fs) = ap suc (length_old values fs)

to_old : (n : NetlistValue) (state : List Bool) (cycles outputs : List (List WordValue)) → HaveEnables One n.flops → length state ≡ length n.flops → Runs n state cycles outputs → OldRuns n state cycles outputs
to_old n state [] [] enabled bits r = tt
to_old n state [] (o ∷ os) enabled bits r = absurd r
to_old n state (i ∷ is) [] enabled bits r = absurd r
to_old n state (i ∷ is) (o ∷ os) enabled bits r =
    let e = next_same n i state r.0 enabled bits r.1 in
    (r.0, r.1, r.2, to_old n (old_next_state n r.0) is os enabled (length_old r.0 n.flops) (rw e at r.3))

from_old : (n : NetlistValue) (state : List Bool) (cycles outputs : List (List WordValue)) → HaveEnables One n.flops → length state ≡ length n.flops → OldRuns n state cycles outputs → Runs n state cycles outputs
from_old n state [] [] enabled bits r = tt
from_old n state [] (o ∷ os) enabled bits r = absurd r
from_old n state (i ∷ is) [] enabled bits r = absurd r
from_old n state (i ∷ is) (o ∷ os) enabled bits r =
    let e = next_same n i state r.0 enabled bits r.1 in
    let more = from_old n (old_next_state n r.0) is os enabled (length_old r.0 n.flops) r.3 in
    (r.0, r.1, r.2, rw e more)

-- enables that are always 1 change nothing
pub runs_as_old : (n : NetlistValue) (state : List Bool) (cycles outputs : List (List WordValue)) → HaveEnables One n.flops → length state ≡ length n.flops
    → Runs n state cycles outputs ↔ OldRuns n state cycles outputs
runs_as_old n state cycles outputs enabled bits = (to_old n state cycles outputs enabled bits, from_old n state cycles outputs enabled bits)
