-- As a machine, the netlist that a valid proposal makes does only what the network does.
use Rattle.std.proofs.Common.{◌≡◌, ℕ, List, [], ◌∷◌, ◌++◌, length, map, Bool, refl, ap, sym, subst, ◌∙◌}
use Rattle.lz_base.specs.Bits.{words_bits}
use Rattle.lz_base.specs.Ports.{FitPorts}
use Rattle.lz_base.specs.WordValue.{WordValue}
use Rattle.lz_machine.specs.Machine.{Lasts, Realises}
use Rattle.lz_machine.proofs.Laws.{follows_by}
use Rattle.n_cells.specs.declared.netlist.Flop.{Flop}
use Rattle.n_cells.specs.AsMachine.{netlist_machine, NetlistDoes}
use Rattle.n_cells.specs.Netlist as cells
use Rattle.n_cells.specs.Run as running
use Rattle.n_cells.specs.Walk.{walked}
use Rattle.g_net.specs.declared.network.Flip.{Flip}
use Rattle.g_net.specs.declared.proposal.Line.{Line}
use Rattle.g_net.specs.AsMachine.{network_machine, NetworkDoes}
use Rattle.g_net.specs.Network.{NetworkValue, IsWellFormed}
use Rattle.g_net.specs.Run as network
use Rattle.g_net.specs.Walk.{values_of}
use Rattle.m_valid.specs.Alike.{DoesAlike}
use Rattle.m_valid.specs.Assembly.{Assembled, assembled, flops_of, with_inverter, with_gates, sources}
use Rattle.m_valid.proofs.Forming.{so_many_flops}

-- the laws of netlists and of networks
abbrev pub NetlistAlone : Type 0
NetlistAlone =
    (n : cells.NetlistValue) (inputs outputs : List WordValue) (state after : List Bool) → cells.IsWellFormed n → FitPorts n.inputs inputs → length state ≡ length n.flops → NetlistDoes n state inputs outputs after
    → (outputs ≡ running.shown n (walked n inputs state)) × (after ≡ running.next_state n state (walked n inputs state))

abbrev pub NetlistLasts : Type 0
NetlistLasts = (n : cells.NetlistValue) (state : List Bool) (cycles : ℕ) → cells.IsWellFormed n → length state ≡ length n.flops → Lasts (netlist_machine n) cycles state

abbrev pub NetworkStep : Type 0
NetworkStep =
    (n : NetworkValue) (inputs : List WordValue) (state : List Bool) → IsWellFormed n → FitPorts n.inputs inputs → length state ≡ length n.flips
    → NetworkDoes n state inputs (network.shown n (values_of n (words_bits inputs ++ state))) (network.next_state n state (values_of n (words_bits inputs ++ state)))

abbrev pub NetworkBits : Type 0
NetworkBits = (n : NetworkValue) (state values : List Bool) → length state ≡ length n.flips → length (network.next_state n state values) ≡ length n.flips

abbrev pub NetworkBegins : Type 0
NetworkBegins = (n : NetworkValue) → length (network.first_state n) ≡ length n.flips

same_first : (m : Assembled) (fs : List Flip) → map (λ (f : Flop). f.first) (flops_of m fs) ≡ map (λ (f : Flip). f.first) fs
same_first m [] = refl
same_first m (f ∷ fs) = ap (λ l. f.first ∷ l) (same_first (with_inverter (with_inverter m f.literal) f.enable) fs)

pub realises : NetlistAlone → NetlistLasts → NetworkStep → NetworkBits → NetworkBegins → (n : NetworkValue) (lines : List Line) → IsWellFormed n → cells.IsWellFormed (assembled n lines)
    → ((inputs : List WordValue) (state : List Bool) → FitPorts n.inputs inputs → length state ≡ length n.flips → DoesAlike n lines inputs state (values_of n (words_bits inputs ++ state)))
    → Realises (network_machine n) (netlist_machine (assembled n lines))
realises alone lasts step bits begins n lines formed fine alike =
    let made = assembled n lines in
    let m = with_gates lines (sources n) n.gates in
    let flops : length made.flops ≡ length n.flips = so_many_flops m n.flips in
    let first : running.first_state made ≡ network.first_state n = same_first m n.flips in
    let many : length (running.first_state made) ≡ length n.flips = ap length first ∙ begins n in
    let related = λ (a b : List Bool). (a ≡ b) × (length b ≡ length n.flips) in
    record {
      name = refl;
      clock = refl;
      inputs = refl;
      outputs = refl;
      begins = (running.first_state made, refl);
      lasts = λ b starts cycles. lasts made b cycles fine (ap length starts ∙ many ∙ sym flops);
      follows = λ b starts. (
        b,
        starts ∙ first,
        λ cycles. follows_by (network_machine n) (netlist_machine made) related (λ a c r inputs fit outputs after does.
            let one = alone made inputs outputs c after fine fit (r.1 ∙ sym flops) does in
            let same = alike inputs c fit r.1 in
            let values = values_of n (words_bits inputs ++ c) in
            let shows : outputs ≡ network.shown n values = one.0 ∙ same.shown in
            let goes : after ≡ network.next_state n c values = one.1 ∙ same.next in
            let done : NetworkDoes n c inputs outputs after =
            subst (λ o. NetworkDoes n c inputs o after) (sym shows) (subst (λ s. NetworkDoes n c inputs (network.shown n values) s) (sym goes) (step n inputs c formed fit r.1)) in
            (after, subst (λ s. NetworkDoes n s inputs outputs after) (sym r.0) done, (refl, ap length goes ∙ bits n c values r.1))) cycles b b (refl, ap length starts ∙ many),
      );
    }
