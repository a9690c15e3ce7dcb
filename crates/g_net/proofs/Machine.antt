-- A network as a machine: it goes on, and does one thing in each cycle.
use Rattle.std.proofs.Common.{◌≡◌, ◌++◌, ℕ, List, length, Bool, sym, if◌then◌else◌}
use Rattle.std.proofs.lemmas.Simd.{length-zip2}
use Rattle.lz_base.specs.Bits.{words_bits}
use Rattle.lz_base.specs.Ports.{FitPorts}
use Rattle.lz_base.specs.WordValue.{WordValue}
use Rattle.lz_machine.specs.Machine.{Lasts}
use Rattle.lz_circuit.proofs.Laws.{HasOneValuation, step_there, step_alone, never_stops}
use Rattle.g_net.specs.declared.network.Flip.{Flip}
use Rattle.g_net.specs.AsMachine.{NetworkDoes, network_circuit, network_machine}
use Rattle.g_net.specs.Network.{NetworkValue, IsWellFormed}
use Rattle.g_net.specs.Run.{literal_value, shown, next_state}
use Rattle.g_net.specs.Walk.{values_of}
use Rattle.g_net.proofs.Valuation.{valuation_same, valuation_there}

-- the flip-flops keep their number
pub length_next : (n : NetworkValue) (state values : List Bool) → length state ≡ length n.flips → length (next_state n state values) ≡ length n.flips
length_next n state values e = length-zip2 (λ (f : Flip) bit. if literal_value values f.enable then literal_value values f.literal else bit) n.flips state (sym e)

-- a well-formed network has one valuation
one : (n : NetworkValue) → IsWellFormed n → HasOneValuation (network_circuit n) (length n.flips) (λ inputs state. values_of n (words_bits inputs ++ state))
one n fine = record {
  there = λ inputs state. valuation_there n inputs state fine;
  alone = λ inputs state a b. valuation_same n inputs state a b fine;
  bits = length_next n;
}

-- what it does under the values that come out node after node
pub does_there : (n : NetworkValue) (inputs : List WordValue) (state : List Bool) → IsWellFormed n → FitPorts n.inputs inputs → length state ≡ length n.flips
    → NetworkDoes n state inputs (shown n (values_of n (words_bits inputs ++ state))) (next_state n state (values_of n (words_bits inputs ++ state)))
does_there n inputs state fine = step_there (network_circuit n) (length n.flips) _ inputs state (one n fine)

-- and it does nothing else
pub does_alone : (n : NetworkValue) (inputs outputs : List WordValue) (state after : List Bool) → IsWellFormed n → FitPorts n.inputs inputs → length state ≡ length n.flips
    → NetworkDoes n state inputs outputs after → (outputs ≡ shown n (values_of n (words_bits inputs ++ state))) × (after ≡ next_state n state (values_of n (words_bits inputs ++ state)))
does_alone n inputs outputs state after fine = step_alone (network_circuit n) (length n.flips) _ inputs outputs state after (one n fine)

-- it never stops
pub goes_on : (n : NetworkValue) (state : List Bool) (cycles : ℕ) → IsWellFormed n → length state ≡ length n.flips → Lasts (network_machine n) cycles state
goes_on n state cycles fine = never_stops (network_circuit n) (length n.flips) _ state cycles (one n fine)
