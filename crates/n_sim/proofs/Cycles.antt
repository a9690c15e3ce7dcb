-- A cycle in a stream, from the words of the steps.
use Rattle.std.proofs.Common.{◌≡◌, ℕ, List, ◌∷◌, ◌++◌, length, map, get_or, Bool, true, false, arith, refl, ap, sym, ◌∙◌, length-append}
use Rattle.lz_base.specs.Bits.{words_bits}
use Rattle.lz_base.specs.Ports.{FitPorts}
use Rattle.lz_base.specs.WordValue.{WordValue}
use Rattle.lz_circuit.specs.Values.{value_at}
use Rattle.n_cells.specs.declared.netlist.Flop.{Flop}
use Rattle.n_cells.specs.Netlist.{NetlistValue, first_net}
use Rattle.n_cells.specs.Run.{after_edge, next_state, shown}
use Rattle.n_sim.specs.declared.step.Step.{Step}
use Rattle.n_sim.specs.Lanes.{stream}
use Rattle.n_sim.specs.Steps.{IsFront, IsLaidOut, joined}
use Rattle.n_sim.proofs.Places.{edge_moved, values_moved}
use Rattle.n_sim.proofs.Streams.{lanes_at, shown_bits}
use Rattle.n_sim.proofs.Words.{bits_fit}

-- the bits before the cells
pub front_is : (n : NetlistValue) (inputs : List WordValue) (state : List Bool) → FitPorts n.inputs inputs → length state ≡ length n.flops
    → IsFront (first_net n.inputs n.flops) (false ∷ true ∷ words_bits inputs ++ state)
front_is n inputs state fit many = record {
  long = omega (arith, length-append (words_bits inputs) state, bits_fit n.inputs inputs fit, many);
  zero = refl;
  one = refl;
}

-- the words at the outputs' places
pub cycle_shown : (n : NetlistValue) (steps : List Step) (places_shown : List ℕ) (flops : List Flop) (places words : List ℕ) (j : ℕ) (values : List Bool) → IsLaidOut n steps places_shown flops places
    → value_at (stream j words) 0 ≡ false → map (value_at (stream j words)) places ≡ values → stream j (map (λ k. get_or words k 0) places_shown) ≡ words_bits (shown n values)
cycle_shown n steps places_shown flops places words j values laid z e =
    let bits = stream j words in
    lanes_at j words places_shown
    ∙ ap (map (value_at bits)) laid.outputs
    ∙ values_moved bits places (joined n.nets) z
    ∙ ap (λ vs. map (value_at vs) (joined n.nets)) e
    ∙ sym (shown_bits values n.nets)

-- the flip-flops behind the edge
pub cycle_edge : (n : NetlistValue) (steps : List Step) (places_shown : List ℕ) (flops : List Flop) (places : List ℕ) (bits state values : List Bool) → IsLaidOut n steps places_shown flops places
    → value_at bits 0 ≡ false → map (value_at bits) places ≡ values → after_edge bits flops state ≡ next_state n state values
cycle_edge n steps places_shown flops places bits state values laid z e =
    ap (λ fs. after_edge bits fs state) laid.edges ∙ edge_moved bits places n.flops state z ∙ ap (λ vs. after_edge vs n.flops state) e
