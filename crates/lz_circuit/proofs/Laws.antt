-- A circuit with one valuation in each cycle does one thing in each cycle, and never stops.
use Rattle.std.proofs.Common.{◌≡◌, ℕ, List, length, Bool, refl, ap, ◌∙◌}
use Rattle.lz_base.specs.Ports.{FitPorts}
use Rattle.lz_base.specs.WordValue.{WordValue}
use Rattle.lz_machine.specs.Machine.{Lasts}
use Rattle.lz_machine.proofs.Laws.{lasts_by}
use Rattle.lz_circuit.specs.Circuit.{Circuit, CircuitDoes, circuit_machine}

-- With so many flip-flops, it has one valuation for words that fit its inputs and as many bits, the one that is given
-- here, and as many bits behind the edge.
pub record HasOneValuation (c : Circuit) (flops : ℕ) (values_of : List WordValue → List Bool → List Bool) : Type 0 where
  pub there : (inputs : List WordValue) (state : List Bool) → FitPorts c.inputs inputs → length state ≡ flops → c.IsValuation inputs state (values_of inputs state)
  pub alone : (inputs : List WordValue) (state a b : List Bool) → c.IsValuation inputs state a → c.IsValuation inputs state b → a ≡ b
  pub bits : (state values : List Bool) → length state ≡ flops → length (c.next state values) ≡ flops

-- what it does under its valuation
pub step_there : (c : Circuit) (flops : ℕ) (values_of : List WordValue → List Bool → List Bool) (inputs : List WordValue) (state : List Bool) → HasOneValuation c flops values_of
    → FitPorts c.inputs inputs → length state ≡ flops
    → CircuitDoes c state inputs (c.shown (values_of inputs state)) (c.next state (values_of inputs state))
step_there c flops values_of inputs state one fit bits = record {
  values = values_of inputs state;
  valued = one.there inputs state fit bits;
  shows = refl;
  goes_on = refl;
}

-- and it does nothing else
pub step_alone : (c : Circuit) (flops : ℕ) (values_of : List WordValue → List Bool → List Bool) (inputs outputs : List WordValue) (state after : List Bool) → HasOneValuation c flops values_of
    → FitPorts c.inputs inputs → length state ≡ flops → CircuitDoes c state inputs outputs after
    → (outputs ≡ c.shown (values_of inputs state)) × (after ≡ c.next state (values_of inputs state))
step_alone c flops values_of inputs outputs state after one fit bits does =
    let same : does.values ≡ values_of inputs state = one.alone inputs state does.values (values_of inputs state) does.valued (one.there inputs state fit bits) in
    (does.shows ∙ ap c.shown same, does.goes_on ∙ ap (c.next state) same)

-- it never stops
pub never_stops : (c : Circuit) (flops : ℕ) (values_of : List WordValue → List Bool → List Bool) (state : List Bool) (cycles : ℕ) → HasOneValuation c flops values_of → length state ≡ flops
    → Lasts (circuit_machine c) cycles state
never_stops c flops values_of state cycles one bits =
    lasts_by (circuit_machine c) (λ (s : List Bool). length s ≡ flops)
    (λ s many inputs fit. (
      (c.shown (values_of inputs s), c.next s (values_of inputs s), step_there c flops values_of inputs s one fit many),
      λ outputs after does. ap length does.goes_on ∙ one.bits s does.values many,
    ))
    cycles state bits
