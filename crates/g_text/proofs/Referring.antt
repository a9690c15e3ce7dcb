-- A network with the form is well formed exactly where no reference is wrong.
use Rattle.std.proofs.Common.{Option, None, Some, ◌≡◌, ℕ, zero, suc, ◌+◌, ◌*◌, ◌/◌, ◌<◌, ◌≤◌, List, [], ◌∷◌, ◌++◌, length, slice_index, map, refl, arith, ap, sym, subst, ◌∙◌, append_assoc, append-nil}
use Rattle.std.specs.Option.{option_to_list}
use Rattle.lz_base.specs.declared.name.Port.{Port}
use Rattle.lz_base.specs.Names.{AreDistinct}
use Rattle.lz_lines.specs.Fields.{Each, field}
use Rattle.lz_lines.specs.References.{wrong_inputs, wrong_name, wrong_numbers, wrong_output}
use Rattle.lz_lines.proofs.Referring.{AllBelow, clock_distinct, distinct_last, distinct_new, empty_front, inputs_none, inputs_right, name_none, name_right, numbers_none, numbers_right}
use Rattle.g_net.specs.declared.network.Flip.{Flip}
use Rattle.g_net.specs.declared.network.Gate.{Gate}
use Rattle.g_net.specs.declared.network.Gate.TheVariants as gate
use Rattle.g_net.specs.declared.network.Output.{Output}
use Rattle.lz_circuit.specs.Lines.{HaveWidths}
use Rattle.g_net.specs.Network.{NetworkValue, first_gate, node_count, nodes_of, FlipsBelow, HaveLiterals, IsWellFormed, LiteralsBelow, OutputsBelow, ReadBackwards, ReadsBelow}
use Rattle.g_text.specs.Form.{HasForm, IsOutput, IsPort}
use Rattle.g_text.specs.Referred.{wrong_flips, wrong_gate, wrong_gates, wrong_outputs, wrong_places, inputs_at, flips_at, gates_at, outputs_at}
use Rattle.g_text.specs.Text.{flip_line, gate_line, named_line}

-- a literal is below twice the number of nodes exactly where its node is below
node_below : (l count : ℕ) → l < 2 * count → l / 2 < count
node_below l count h = omega (arith, h)

below_node : (l count : ℕ) → l / 2 < count → l < 2 * count
below_node l count h = omega (arith, h)

literal_right : (count : ℕ) (ns : List ℕ) → AllBelow (2 * count) ns → (k : ℕ) → k < length ns → slice_index ns k / 2 < count
literal_right count [] h k within = absurd (omega (arith, within))
literal_right count (n ∷ ns) h zero within = node_below n count h.0
literal_right count (n ∷ ns) h (suc k) within = literal_right count ns h.1 k (omega (arith, within))

literals_right : (count : ℕ) (ns : List ℕ) → AllBelow (2 * count) ns → LiteralsBelow count ns
literals_right count ns h = literal_right count ns h

literals_none : (count : ℕ) (ns : List ℕ) → LiteralsBelow count ns → AllBelow (2 * count) ns
literals_none count [] h = tt
literals_none count (n ∷ ns) h = (below_node n count (h zero (omega arith)), literals_none count ns (λ k within. h (suc k) (omega (arith, within))))

flips_right : (count place : ℕ) (fs : List Flip) → wrong_flips count place fs ≡ [] → FlipsBelow count fs
flips_right count place [] e = tt
flips_right count place (f ∷ fs) e =
    let p = empty_front (wrong_numbers (2 * count) (place + 4) (f.literal ∷ f.enable ∷ [])) _ e in
    let h = numbers_right (2 * count) (place + 4) (f.literal ∷ f.enable ∷ []) p.0 in
    (node_below f.literal count h.0, node_below f.enable count h.1.0, flips_right count (place + length (flip_line f)) fs p.1)

flips_none : (count place : ℕ) (fs : List Flip) → FlipsBelow count fs → wrong_flips count place fs ≡ []
flips_none count place [] h = refl
flips_none count place (f ∷ fs) h =
    ap (λ l. l ++ wrong_flips count (place + length (flip_line f)) fs) (numbers_none (2 * count) (place + 4) (f.literal ∷ f.enable ∷ []) (below_node f.literal count h.0, (below_node f.enable count h.1, tt)))
    ∙ flips_none count (place + length (flip_line f)) fs h.2

two_right : (next place a b : ℕ) → wrong_numbers (2 * next) place (a ∷ b ∷ []) ≡ [] → (a / 2 < next) × (b / 2 < next)
two_right next place a b e = let h = numbers_right (2 * next) place (a ∷ b ∷ []) e in (node_below a next h.0, node_below b next h.1.0)

two_none : (next place a b : ℕ) → (a / 2 < next) × (b / 2 < next) → wrong_numbers (2 * next) place (a ∷ b ∷ []) ≡ []
two_none next place a b h = numbers_none (2 * next) place (a ∷ b ∷ []) (below_node a next h.0, (below_node b next h.1, tt))

gate_right : (next place : ℕ) (g : Gate) → wrong_gate next place g ≡ [] → ReadsBelow next g
gate_right next place (gate.And a b) e = two_right next (place + 3) a b e
gate_right next place (gate.Xor a b) e = two_right next (place + 3) a b e
gate_right next place (gate.Carry a b c) e =
    let h = numbers_right (2 * next) (place + 5) (a ∷ b ∷ c ∷ []) e in
    (node_below a next h.0, node_below b next h.1.0, node_below c next h.1.1.0)

gate_none : (next place : ℕ) (g : Gate) → ReadsBelow next g → wrong_gate next place g ≡ []
gate_none next place (gate.And a b) h = two_none next (place + 3) a b h
gate_none next place (gate.Xor a b) h = two_none next (place + 3) a b h
gate_none next place (gate.Carry a b c) h = numbers_none (2 * next) (place + 5) (a ∷ b ∷ c ∷ []) (below_node a next h.0, (below_node b next h.1, (below_node c next h.2, tt)))

gates_right : (next place : ℕ) (gs : List Gate) → wrong_gates next place gs ≡ [] → ReadBackwards next gs
gates_right next place [] e = tt
gates_right next place (g ∷ gs) e =
    let p = empty_front (wrong_gate next place g) _ e in
    (gate_right next place g p.0, gates_right (next + nodes_of g) (place + length (gate_line g)) gs p.1)

gates_none : (next place : ℕ) (gs : List Gate) → ReadBackwards next gs → wrong_gates next place gs ≡ []
gates_none next place [] h = refl
gates_none next place (g ∷ gs) h = ap (λ l. l ++ wrong_gates (next + nodes_of g) (place + length (gate_line g)) gs) (gate_none next place g h.0) ∙ gates_none (next + nodes_of g) (place + length (gate_line g)) gs h.1

outputs_right : (names : List (List ℕ)) (count place : ℕ) (os : List Output) → AreDistinct names → wrong_outputs names count place os ≡ [] → AreDistinct (names ++ map (λ o. o.name) os) × OutputsBelow count os
outputs_right names count place [] h e = (subst AreDistinct (sym (append-nil names)) h, tt)
outputs_right names count place (o ∷ os) h e =
    let outer = empty_front (wrong_output names (2 * count) place o.name o.literals) _ e in
    let parts = empty_front (wrong_name names (place + 7) o.name) _ outer.0 in
    let rest = outputs_right (names ++ o.name ∷ []) count (place + length (named_line o)) os (distinct_last names o.name h (name_right names (place + 7) o.name parts.0)) outer.1 in
    (subst AreDistinct (append_assoc names (o.name ∷ []) (map (λ o. o.name) os)) rest.0, (literals_right count o.literals (numbers_right (2 * count) _ o.literals parts.1), rest.1))

outputs_none : (names : List (List ℕ)) (count place : ℕ) (os : List Output) → AreDistinct (names ++ map (λ o. o.name) os) → OutputsBelow count os → wrong_outputs names count place os ≡ []
outputs_none names count place [] h below = refl
outputs_none names count place (o ∷ os) h below =
    let name : wrong_name names (place + 7) o.name ≡ [] = name_none names (place + 7) o.name (distinct_new names (map (λ o. o.name) os) o.name h) in
    let literals : wrong_numbers (2 * count) (place + 6 + length (field o.name)) o.literals ≡ [] = numbers_none (2 * count) (place + 6 + length (field o.name)) o.literals (literals_none count o.literals below.0) in
    let front : wrong_output names (2 * count) place o.name o.literals ≡ [] = ap (λ l. l ++ wrong_numbers (2 * count) (place + 6 + length (field o.name)) o.literals) name ∙ literals in
    ap (λ l. l ++ wrong_outputs (names ++ o.name ∷ []) count (place + length (named_line o)) os) front
    ∙ outputs_none (names ++ o.name ∷ []) count (place + length (named_line o)) os (subst AreDistinct (sym (append_assoc names (o.name ∷ []) (map (λ o. o.name) os))) h) below.1

-- the form has the widths
pub widths_are : (ps : List Port) → Each IsPort ps → HaveWidths ps
widths_are [] h = tt
widths_are (p ∷ ps) h = (h.0.1, h.0.2, widths_are ps h.1)

pub literals_are : (os : List Output) → Each IsOutput os → HaveLiterals os
literals_are [] h = tt
literals_are (o ∷ os) h = (h.0.1, h.0.2, literals_are os h.1)

-- no reference is wrong, so the network is well formed
pub well_formed : (n : NetworkValue) → HasForm n → wrong_places n ≡ [] → IsWellFormed n
well_formed n h e =
    let i = wrong_inputs (option_to_list n.clock) (inputs_at n) n.inputs in
    let f = wrong_flips (node_count n) (flips_at n) n.flips in
    let g = wrong_gates (first_gate n) (gates_at n) n.gates in
    let all_ = empty_front (i ++ f ++ g) _ e in
    let three = empty_front (i ++ f) g all_.0 in
    let two = empty_front i f three.0 in
    let inputs = inputs_right (option_to_list n.clock) (inputs_at n) n.inputs (clock_distinct n.clock) two.0 in
    let outputs = outputs_right (option_to_list n.clock ++ map (λ p. p.name) n.inputs) (node_count n) (outputs_at n) n.outputs inputs all_.1 in
    record {
      lines = record { inputs = widths_are n.inputs h.inputs; clocked = h.clocked; outputs = literals_are n.outputs h.outputs };
      names = outputs.0;
      flips = flips_right _ _ n.flips two.1;
      gates = gates_right _ _ n.gates three.1;
      outputs = outputs.1;
    }

-- the network is well formed, so no reference is wrong
pub none_wrong : (n : NetworkValue) → IsWellFormed n → wrong_places n ≡ []
none_wrong n h =
    let names = option_to_list n.clock in
    let ins = map (λ (p : Port). p.name) n.inputs in
    let outs = map (λ (o : Output). o.name) n.outputs in
    let i = inputs_none names (inputs_at n) n.inputs outs (subst AreDistinct (append_assoc names ins outs) h.names) in
    let f = flips_none (node_count n) (flips_at n) n.flips h.flips in
    let g = gates_none (first_gate n) (gates_at n) n.gates h.gates in
    let o = outputs_none (names ++ ins) (node_count n) (outputs_at n) n.outputs h.names h.outputs in
    rw (i, f, g, o) refl
