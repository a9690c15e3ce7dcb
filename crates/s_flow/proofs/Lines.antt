-- What the lines of the netlist of a small module may refer to.
use Rattle.std.proofs.Common.{subst, ◌≡◌, ◌<◌, ◌≤◌, ◌+◌, ℕ, List, [], ◌∷◌, ◌++◌, length, map, true, false, ◌==◌, if◌then◌else◌, sym, ap, ◌∙◌, arith, length-append, append-nil}
use lib.Pointwise.{pointwise}
use Rattle.lz_base.specs.Names.{AreDistinct, IsAmong, AreAmong}
use Rattle.lz_base.specs.declared.name.Port.{Port}
use Rattle.v_syntax.specs.declared.small.SmallPort.{SmallPort}
use Rattle.n_cells.specs.Netlist.{AllBelow, FlopsBelow, cell_nets}
use Rattle.n_cells.specs.declared.netlist.Stored.TheVariants.{Lut}
use Rattle.v_syntax.specs.declared.small.SmallExpr.{SmallExpr}
use Rattle.v_syntax.specs.declared.small.SmallExpr.TheVariants.{One, Two}
use Rattle.v_syntax.specs.declared.small.SmallModule.{SmallModule}
use Rattle.v_syntax.specs.Small.{HasNames, input_names, register_names, port_names, read_names}
use Rattle.v_meaning.specs.Cycle.{bit_ports}
use Rattle.s_flow.specs.Made.{net_among, free_net, value_net, cells_of, flops_of}
use Rattle.s_flow.proofs.Names.{place_within, names_of_ports, among_parted, distinct_parted, distinct_front}

-- the clock, the inputs and the registers of a small module are distinct
pub names_distinct : (s : SmallModule) → HasNames s → AreDistinct (s.event.name ∷ input_names s.ports ++ register_names s.ports)
names_distinct s names = rw names.event (distinct_parted s.ports s.clock.name names.distinct)

-- the clock and the inputs alone are
pub inputs_distinct : (s : SmallModule) → HasNames s → AreDistinct (s.event.name ∷ input_names s.ports)
inputs_distinct s names = distinct_front (s.event.name ∷ input_names s.ports) (register_names s.ports) (names_distinct s names)

-- the names of the lines before the outputs, and those of the outputs, are
pub outputs_distinct : (s : SmallModule) (clock : List ℕ) (ports more : List SmallPort) → HasNames s → clock ≡ s.event.name → ports ≡ s.ports → more ≡ s.ports
    → AreDistinct (clock ∷ map (λ (p : Port). p.name) (bit_ports (input_names ports)) ++ [] ++ register_names more)
outputs_distinct s clock ports more names is_clock are_ports are_more =
    let whole : clock ∷ map (λ (p : Port). p.name) (bit_ports (input_names ports)) ++ [] ++ register_names more ≡ s.event.name ∷ input_names s.ports ++ register_names s.ports =
    ap (λ ns. clock ∷ ns ++ register_names more) (append-nil (map (λ (p : Port). p.name) (bit_ports (input_names ports))) ∙ names_of_ports (input_names ports) ∙ ap input_names are_ports)
    ∙ ap (λ (ps : List SmallPort). clock ∷ input_names s.ports ++ register_names ps) are_more
    ∙ ap (λ (name : List ℕ). name ∷ input_names s.ports ++ register_names s.ports) is_clock in
    subst AreDistinct (sym whole) (names_distinct s names)

net_below : (s : SmallModule) (name : List ℕ) → IsAmong name (port_names s.ports) → net_among (input_names s.ports) (register_names s.ports) name < free_net (input_names s.ports) (register_names s.ports)
net_below s name among =
    omega (arith, place_within (input_names s.ports ++ register_names s.ports) name (among_parted s.ports name among), length-append (input_names s.ports) (register_names s.ports))

-- the nets that the value reads are there before its cell
pub reads_below : (s : SmallModule) (count : ℕ) (names : List (List ℕ)) → free_net (input_names s.ports) (register_names s.ports) ≤ count → AreAmong names (port_names s.ports)
    → AllBelow count (map (net_among (input_names s.ports) (register_names s.ports)) names)
reads_below s count [] low among = tt
reads_below s count (name ∷ names) low among = (omega (arith, net_below s name among.0), reads_below s count names low among.1)

-- the net of the value is there behind its cell
pub value_below : (s : SmallModule) (value : SmallExpr) → AreAmong (read_names value) (port_names s.ports)
    → value_net (input_names s.ports) (register_names s.ports) value < free_net (input_names s.ports) (register_names s.ports) + cell_nets (cells_of (input_names s.ports) (register_names s.ports) value)
value_below s (One a) among =
    let ins = input_names s.ports in
    let regs = register_names s.ports in
    let there : net_among ins regs a.name.name < free_net ins regs = net_below s a.name.name among.0 in
    elim (a.inverted) as (λ v. (if v then free_net ins regs else net_among ins regs a.name.name) < free_net ins regs + cell_nets (if v then Lut (net_among ins regs a.name.name ∷ []) 1 ∷ [] else []))
    [ true ↦ omega arith | false ↦ omega arith ]
value_below s (Two a operator b) among = omega arith

-- the same, seen by the lists that the code has
pub value_there_below : (s : SmallModule) (ins regs : List (List ℕ)) (net count : ℕ) → HasNames s → ins ≡ input_names s.ports → regs ≡ register_names s.ports
    → net ≡ value_net ins regs s.value → free_net ins regs + cell_nets (cells_of ins regs s.value) ≤ count → net < count
value_there_below s ins regs net count names are_ins are_regs is long =
    let below : net < free_net ins regs + cell_nets (cells_of ins regs s.value) = rw (is, are_ins, are_regs) (value_below s s.value names.reads) in
    omega arith

-- the nets of the flip-flops are there
pub flops_below : (count own : ℕ) (names : List (List ℕ)) (target : List ℕ) (net : ℕ) → 1 < count → own + length names ≤ count → net < count → FlopsBelow count (flops_of own names target net)
flops_below count own [] target net two long there = tt
flops_below count own (n ∷ names) target net two long there = (
  elim (pointwise ◌==◌ n target) as (λ same. (if same then net else own) < count) [ true ↦ there | false ↦ omega arith ],
  two,
  flops_below count (own + 1) names target net two (omega arith) there,
)
