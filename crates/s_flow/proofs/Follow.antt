-- The netlist of a small module follows it.
use Rattle.std.proofs.Common.{◌≡◌, ◌<◌, ◌+◌, ◌*◌, ℕ, zero, suc, List, [], ◌∷◌, ◌++◌, length, map, Bool, true, false, not, ◌==◌, if◌then◌else◌, refl, sym, ap, ◌∙◌, arith, length-append, append_assoc}
use Rattle.std.proofs.lemmas.List.{length-map}
use Rattle.std.proofs.lemmas.List.{get_or-append-add, take_at}
use Rattle.std.proofs.Math.ListN.{get_or-append}
use lib.Pointwise.{pointwise}
use Rattle.lz_base.specs.Bits.{words_bits, word_bits, low_bits, word_of}
use Rattle.lz_base.specs.Names.{IsAmong, AreAmong}
use Rattle.lz_base.specs.Ports.{FitPorts}
use Rattle.lz_base.specs.WordValue.{WordValue}
use Rattle.lz_machine.specs.Machine.{Lasts, Realises}
use Rattle.lz_machine.proofs.Laws.{Steps, follows_by}
use Rattle.n_cells.specs.AsMachine.{NetlistDoes, netlist_machine}
use Rattle.lz_circuit.specs.Lines.{port_bits}
use Rattle.n_cells.specs.Netlist.{NetlistValue, IsWellFormed, first_net, cell_nets}
use Rattle.lz_circuit.specs.Values.{value_at}
use Rattle.n_cells.specs.Run.{IsValuation, CellsHold, shown, after_edge, next_state, first_state, table_bit}
use Rattle.n_cells.specs.declared.netlist.Flop.{Flop}
use Rattle.n_cells.specs.declared.netlist.Stored.TheVariants.{Lut}
use Rattle.v_syntax.specs.declared.small.SmallOperand.{SmallOperand}
use Rattle.v_syntax.specs.declared.small.SmallExpr.{SmallExpr}
use Rattle.v_syntax.specs.declared.small.SmallExpr.TheVariants.{One, Two}
use Rattle.v_syntax.specs.declared.small.SmallModule.{SmallModule}
use Rattle.v_syntax.specs.Small.{HasNames, input_names, register_names, port_names, read_names}
use Rattle.v_meaning.specs.Cycle.{bit_ports, inputs_of, read_of, operand_value, value_of, operate, shown_words, written}
use Rattle.v_meaning.specs.SmallMachine.{EverySchedule, ModuleDoes, module_machine}
use Rattle.s_flow.specs.Made.{place_of, net_among, free_net, inverted_if, cells_of, value_net, flops_of, nets_from, netlist_of, bit_number}
use Rattle.s_flow.proofs.Names.{bit_at_place, place_within, among_parted}
use Rattle.s_flow.proofs.Tables.{table_of_two, table_of_one}
use Rattle.s_flow.proofs.Schedules.{one_order}

low_bits_long : (width value : ℕ) → length (low_bits width value) ≡ width
low_bits_long zero value = refl
low_bits_long (suc width) value = ap suc (low_bits_long width _)

-- inputs of one bit have one bit each
pub inputs_long : (names : List (List ℕ)) (inputs : List WordValue) → FitPorts (bit_ports names) inputs → length (words_bits inputs) ≡ length names
inputs_long [] [] fit = refl
inputs_long [] (w ∷ ws) fit = absurd fit
inputs_long (n ∷ names) [] fit = absurd fit
inputs_long (n ∷ names) (w ∷ ws) fit =
    omega (arith, length-append (word_bits w) (words_bits ws), low_bits_long w.width w.value, fit.0, inputs_long names ws fit.2)

pub bits_of_ports : (names : List (List ℕ)) → port_bits (bit_ports names) ≡ length names
bits_of_ports [] = refl
bits_of_ports (n ∷ names) = omega (arith, bits_of_ports names)

pub flops_long : (own : ℕ) (names : List (List ℕ)) (target : List ℕ) (net : ℕ) → length (flops_of own names target net) ≡ length names
flops_long own [] target net = refl
flops_long own (n ∷ names) target net = ap suc (flops_long (own + 1) names target net)

-- the value of a net behind the front
behind : (front back : List Bool) (i : ℕ) → value_at (front ++ back) (length front + i) ≡ value_at back i
behind front back i = get_or-append-add front back i false

longer : (front : List Bool) (bit : Bool) → length (front ++ bit ∷ []) ≡ length front + 1
longer front bit = omega (arith, length-append front (bit ∷ []))

here : (front : List Bool) (bit : Bool) (back : List Bool) → value_at (front ++ bit ∷ back) (length front) ≡ bit
here front bit back = ap (value_at (front ++ bit ∷ back)) (omega arith) ∙ behind front (bit ∷ back) 0

moved : (front store back : List Bool) (bit : Bool) → front ++ bit ∷ store ++ back ≡ front ++ bit ∷ [] ++ store ++ back
moved front store back bit = ap (λ l. l ++ back) (sym (append_assoc front (bit ∷ []) store))

moved_on : (values front store back : List Bool) (bit : Bool) → values ≡ front ++ bit ∷ store ++ back → values ≡ front ++ bit ∷ [] ++ store ++ back
moved_on values front store back bit is = is ∙ moved front store back bit

own_bit : (values front store back : List Bool) (bit : Bool) → values ≡ front ++ bit ∷ store ++ back → value_at values (length front) ≡ bit
own_bit values front store back bit is =
    ap (λ l. value_at l (length front)) (is ∙ append_assoc front (bit ∷ store) back) ∙ here front bit (store ++ back)

-- what the flip-flops take, whose enables are 1: the assigned register the value, and each other its own bit
pub flops_next : (values front store back : List Bool) (names : List (List ℕ)) (target : List ℕ) (net : ℕ)
    → value_at values 1 ≡ true → values ≡ front ++ store ++ back → length names ≡ length store
    → after_edge values (flops_of (length front) names target net) store ≡ written names store target (value_at values net)
flops_next values front store back [] target net on is long = refl
flops_next values front [] back (n ∷ names) target net on is long = absurd (omega arith)
flops_next values front (bit ∷ store) back (n ∷ names) target net on is long =
    let own : value_at values (length front) ≡ bit = own_bit values front store back bit is in
    let one : value_at values (if pointwise ◌==◌ n target then net else length front) ≡ (if pointwise ◌==◌ n target then value_at values net else bit) =
    elim (pointwise ◌==◌ n target) as (λ same. value_at values (if same then net else length front) ≡ (if same then value_at values net else bit)) [ true ↦ refl | false ↦ own ] in
    let rest = rw (longer front bit) at (flops_next values (front ++ bit ∷ []) store back names target net on (moved_on values front store back bit is) (omega arith)) in
    let taken : (if value_at values 1 then value_at values (if pointwise ◌==◌ n target then net else length front) else bit) ≡ value_at values (if pointwise ◌==◌ n target then net else length front) =
    rw on refl in
    ap (λ v. v ∷ after_edge values (flops_of (length front + 1) names target net) store) (taken ∙ one)
    ∙ ap (λ vs. (if pointwise ◌==◌ n target then value_at values net else bit) ∷ vs) rest

-- the outputs show the registers
pub nets_shown : (values front store back : List Bool) (names : List (List ℕ)) → values ≡ front ++ store ++ back → length names ≡ length store
    → map (λ nets. word_of (map (value_at values) nets)) (nets_from (length front) names) ≡ shown_words store
nets_shown values front [] back [] is long = refl
nets_shown values front (bit ∷ store) back [] is long = absurd (omega arith)
nets_shown values front [] back (n ∷ names) is long = absurd (omega arith)
nets_shown values front (bit ∷ store) back (n ∷ names) is long =
    let own : value_at values (length front) ≡ bit = own_bit values front store back bit is in
    let rest = rw (longer front bit) at (nets_shown values (front ++ bit ∷ []) store back names (moved_on values front store back bit is) (omega arith)) in
    ap (λ v. word_of (v ∷ []) ∷ map (λ nets. word_of (map (value_at values) nets)) (nets_from (length front + 1) names)) own
    ∙ ap (λ ws. word_of (bit ∷ []) ∷ ws) rest

pub written_long : (names : List (List ℕ)) (store : List Bool) (name : List ℕ) (bit : Bool) → length names ≡ length store → length (written names store name bit) ≡ length names
written_long [] store name bit long = refl
written_long (n ∷ names) [] name bit long = absurd (omega arith)
written_long (n ∷ names) (b ∷ store) name bit long = ap suc (written_long names store name bit (omega arith))

-- the values of all nets but those of the cells
abbrev before : List WordValue → List Bool → List Bool
before inputs store = false ∷ true ∷ words_bits inputs ++ store

-- the value of a name's net is what the name reads
named : (s : SmallModule) (store : List Bool) (inputs : List WordValue) (back : List Bool) (name : List ℕ)
    → length (words_bits inputs) ≡ length (input_names s.ports) → length store ≡ length (register_names s.ports) → IsAmong name (port_names s.ports)
    → value_at (before inputs store ++ back) (net_among (input_names s.ports) (register_names s.ports) name) ≡ read_of s store inputs name
named s store inputs back name long_in long among =
    let names : List (List ℕ) = input_names s.ports ++ register_names s.ports in
    let bits : List Bool = words_bits inputs ++ store in
    let same : length names ≡ length bits = omega (arith, length-append (input_names s.ports) (register_names s.ports), length-append (words_bits inputs) store) in
    let within : place_of names name < length bits = omega (arith, place_within names name (among_parted s.ports name among), same) in
    ap (λ l. value_at l (net_among (input_names s.ports) (register_names s.ports) name)) (append_assoc (false ∷ true ∷ []) bits back)
    ∙ behind (false ∷ true ∷ []) (bits ++ back) (place_of names name)
    ∙ get_or-append bits back false (place_of names name) within
    ∙ sym (bit_at_place names bits name same)

operand : (a : SmallOperand) (read : List ℕ → Bool) (bit : Bool) → bit ≡ read a.name.name → inverted_if a.inverted bit ≡ operand_value read a
operand a read bit is = ap (inverted_if a.inverted) is

-- the bits of the cells
abbrev cell_bits : SmallModule → List Bool → List WordValue → SmallExpr → List Bool
cell_bits s store inputs (One a) = if a.inverted then operand_value (read_of s store inputs) a ∷ [] else []
cell_bits s store inputs (Two a operator b) = value_of (read_of s store inputs) (Two a operator b) ∷ []

before_long : (s : SmallModule) (store : List Bool) (inputs : List WordValue) → length (words_bits inputs) ≡ length (input_names s.ports) → length store ≡ length (register_names s.ports)
    → length (before inputs store) ≡ free_net (input_names s.ports) (register_names s.ports)
before_long s store inputs long_in long = omega (arith, length-append (words_bits inputs) store)

-- the equation of the cell holds, where its net has this number
cells_hold : (s : SmallModule) (store : List Bool) (inputs : List WordValue) (value : SmallExpr) (next : ℕ)
    → length (words_bits inputs) ≡ length (input_names s.ports) → length store ≡ length (register_names s.ports) → AreAmong (read_names value) (port_names s.ports) → next ≡ length (before inputs store)
    → CellsHold (before inputs store ++ cell_bits s store inputs value) next (cells_of (input_names s.ports) (register_names s.ports) value)
cells_hold s store inputs (One a) next long_in long among is =
    let r : Bool = read_of s store inputs a.name.name in
    let net : ℕ = net_among (input_names s.ports) (register_names s.ports) a.name.name in
    let one : value_at (before inputs store ++ not r ∷ []) net ≡ r = named s store inputs (not r ∷ []) a.name.name long_in long among.0 in
    let last : value_at (before inputs store ++ not r ∷ []) next ≡ not r = ap (value_at (before inputs store ++ not r ∷ [])) is ∙ here (before inputs store) (not r) [] in
    let holds : value_at (before inputs store ++ not r ∷ []) next ≡ table_bit 1 (bit_number (value_at (before inputs store ++ not r ∷ []) net) + 2 * 0) =
    last ∙ sym (table_of_one (value_at (before inputs store ++ not r ∷ []) net) ∙ ap not one) in
    elim (a.inverted) as (λ v. CellsHold (before inputs store ++ (if v then (if v then not r else r) ∷ [] else [])) next (if v then Lut (net ∷ []) 1 ∷ [] else []))
    [ true ↦ (holds, tt) | false ↦ tt ]
cells_hold s store inputs (Two a operator b) next long_in long among is =
    let read : List ℕ → Bool = read_of s store inputs in
    let v : Bool = value_of read (Two a operator b) in
    let values : List Bool = before inputs store ++ v ∷ [] in
    let va : value_at values (net_among (input_names s.ports) (register_names s.ports) a.name.name) ≡ read a.name.name = named s store inputs (v ∷ []) a.name.name long_in long among.0 in
    let vb : value_at values (net_among (input_names s.ports) (register_names s.ports) b.name.name) ≡ read b.name.name = named s store inputs (v ∷ []) b.name.name long_in long among.1.0 in
    let last : value_at values next ≡ v = ap (value_at values) is ∙ here (before inputs store) v [] in (
      last ∙ sym (table_of_two operator a.inverted b.inverted (value_at values (net_among (input_names s.ports) (register_names s.ports) a.name.name)) (value_at values (net_among (input_names s.ports) (register_names s.ports) b.name.name))
          ∙ ap (λ x. operate operator x (inverted_if b.inverted (value_at values (net_among (input_names s.ports) (register_names s.ports) b.name.name)))) (operand a read _ va)
          ∙ ap (λ y. operate operator (operand_value read a) y) (operand b read _ vb)),
      tt,
    )

-- the value's net has the value
value_there : (s : SmallModule) (store : List Bool) (inputs : List WordValue) (value : SmallExpr)
    → length (words_bits inputs) ≡ length (input_names s.ports) → length store ≡ length (register_names s.ports) → AreAmong (read_names value) (port_names s.ports)
    → value_at (before inputs store ++ cell_bits s store inputs value) (value_net (input_names s.ports) (register_names s.ports) value) ≡ value_of (read_of s store inputs) value
value_there s store inputs (One a) long_in long among =
    let r : Bool = read_of s store inputs a.name.name in
    let made : value_at (before inputs store ++ not r ∷ []) (free_net (input_names s.ports) (register_names s.ports)) ≡ not r =
    ap (value_at (before inputs store ++ not r ∷ [])) (sym (before_long s store inputs long_in long)) ∙ here (before inputs store) (not r) [] in
    elim (a.inverted) as (λ v. value_at (before inputs store ++ (if v then (if v then not r else r) ∷ [] else [])) (if v then free_net (input_names s.ports) (register_names s.ports) else net_among (input_names s.ports) (register_names s.ports) a.name.name) ≡ (if v then not r else r))
    [ true ↦ made | false ↦ named s store inputs [] a.name.name long_in long among.0 ]
value_there s store inputs (Two a operator b) long_in long among =
    let v : Bool = value_of (read_of s store inputs) (Two a operator b) in
    ap (value_at (before inputs store ++ v ∷ [])) (sym (before_long s store inputs long_in long)) ∙ here (before inputs store) v []

-- how many nets the cell has
cells_long : (s : SmallModule) (store : List Bool) (inputs : List WordValue) (value : SmallExpr) → length (cell_bits s store inputs value) ≡ cell_nets (cells_of (input_names s.ports) (register_names s.ports) value)
cells_long s store inputs (One a) =
    let r : Bool = read_of s store inputs a.name.name in
    elim (a.inverted) as (λ v. length (if v then (if v then not r else r) ∷ [] else []) ≡ cell_nets (if v then Lut (net_among (input_names s.ports) (register_names s.ports) a.name.name ∷ []) 1 ∷ [] else [])) [ true ↦ refl | false ↦ refl ]
cells_long s store inputs (Two a operator b) = refl

-- the values of all nets
abbrev values_of : SmallModule → List Bool → List WordValue → List Bool
values_of s store inputs = before inputs store ++ cell_bits s store inputs s.value

-- the store behind the edge
abbrev next_of : SmallModule → List Bool → List WordValue → List Bool
next_of s store inputs = written (register_names s.ports) store s.target.name (value_of (read_of s store inputs) s.value)

-- What the values are, where the store has a bit for each register: a valuation, under which the outputs show the store
-- and the flip-flops take the next one.
record Fits (s : SmallModule) (store : List Bool) (inputs : List WordValue) : Type 0 where
  valued : IsValuation (netlist_of s) inputs store (values_of s store inputs)
  shows : shown (netlist_of s) (values_of s store inputs) ≡ shown_words store
  moves : next_state (netlist_of s) store (values_of s store inputs) ≡ next_of s store inputs

fits : (s : SmallModule) (store : List Bool) (inputs : List WordValue) → HasNames s → FitPorts (inputs_of s) inputs → length store ≡ length (register_names s.ports) → Fits s store inputs
fits s store inputs names fit long =
    let ins : List (List ℕ) = input_names s.ports in
    let regs : List (List ℕ) = register_names s.ports in
    let net : ℕ = value_net ins regs s.value in
    let long_in : length (words_bits inputs) ≡ length ins = inputs_long ins inputs fit in
    let bits : List Bool = cell_bits s store inputs s.value in
    let values : List Bool = values_of s store inputs in
    let front : List Bool = false ∷ true ∷ words_bits inputs in
    let front_long : length front ≡ 2 + length ins = omega (arith, long_in) in
    let on : value_at values 1 ≡ true = ap (λ l. value_at l 1) (append_assoc (false ∷ true ∷ []) (words_bits inputs ++ store) bits) in
    let first : first_net (inputs_of s) (flops_of (2 + length ins) regs s.target.name net) ≡ length (before inputs store) =
    omega (arith, bits_of_ports ins, flops_long (2 + length ins) regs s.target.name net, before_long s store inputs long_in long) in
    record {
      valued = record {
        count = omega (arith, length-append (before inputs store) bits, first, cells_long s store inputs s.value);
        front = take_at (before inputs store) bits _ (sym first);
        cells = cells_hold s store inputs s.value _ long_in long names.reads first;
      };
      shows = rw front_long at (nets_shown values front store bits regs refl (sym long));
      moves = rw front_long at (flops_next values front store bits regs s.target.name net on refl (sym long))
          ∙ ap (written regs store s.target.name) (value_there s store inputs s.value long_in long names.reads);
    }

-- a netlist has at most one valuation
abbrev pub OneValuation : Type 0
OneValuation = (n : NetlistValue) (inputs : List WordValue) (state a b : List Bool) → IsWellFormed n → IsValuation n inputs state a → IsValuation n inputs state b → a ≡ b

-- the netlist's state is the module's store, with a bit for each register
abbrev Stores : SmallModule → List Bool → List Bool → Type 0
Stores s store state = (store ≡ state) × (length state ≡ length (register_names s.ports))

-- whatever the netlist does from there, the module may do
steps : (s : SmallModule) → HasNames s → OneValuation → IsWellFormed (netlist_of s) → Steps (module_machine EverySchedule s) (netlist_machine (netlist_of s)) (Stores s)
steps s names unique formed store state same inputs fit words after does =
    let d : NetlistDoes (netlist_of s) state inputs words after = does in
    let f : Fits s state inputs = fits s state inputs names fit same.1 in
    let values_same : d.values ≡ values_of s state inputs = unique (netlist_of s) inputs state d.values (values_of s state inputs) formed d.valued f.valued in
    let shows : words ≡ shown_words state = d.shows ∙ ap (shown (netlist_of s)) values_same ∙ f.shows in
    let moves : after ≡ next_of s state inputs = d.goes_on ∙ ap (next_state (netlist_of s) state) values_same ∙ f.moves in
    let long : length after ≡ length (register_names s.ports) = ap length moves ∙ written_long (register_names s.ports) state s.target.name (value_of (read_of s state inputs) s.value) (sym same.1) in
    let may : ModuleDoes EverySchedule s state inputs words (next_of s state inputs) = record {
      choice = [];
      bits = refl;
      shown = shows;
      by_text = refl;
      scheduled = λ schedule _ complete. one_order s state inputs [] schedule complete;
    } in
    (next_of s state inputs, rw same.0 may, (sym moves, long))

first_long : (s : SmallModule) → length (first_state (netlist_of s)) ≡ length (register_names s.ports)
first_long s = length-map (flops_of (2 + length (input_names s.ports)) (register_names s.ports) s.target.name (value_net (input_names s.ports) (register_names s.ports) s.value)) (λ (f : Flop). f.first)
    ∙ flops_long (2 + length (input_names s.ports)) (register_names s.ports) s.target.name (value_net (input_names s.ports) (register_names s.ports) s.value)

pub realised : (s : SmallModule) → HasNames s → OneValuation → IsWellFormed (netlist_of s) → ((cycles : ℕ) → Lasts (netlist_machine (netlist_of s)) cycles (first_state (netlist_of s)))
    → Realises (module_machine EverySchedule s) (netlist_machine (netlist_of s))
realised s names unique formed lasts =
    let first : List Bool = first_state (netlist_of s) in
    record {
      name = refl;
      clock = refl;
      inputs = refl;
      outputs = refl;
      begins = (first, refl);
      lasts = λ state is cycles. rw is (lasts cycles);
      follows = λ state is. rw is (
        first,
        record { first = first; bits = first_long s; store_is = refl },
        λ cycles. follows_by (module_machine EverySchedule s) (netlist_machine (netlist_of s)) (Stores s) (steps s names unique formed) cycles first first (refl, first_long s),
      );
    }
