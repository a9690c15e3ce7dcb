-- What one more line of a network keeps.
use Rattle.std.proofs.Common.{◌≡◌, ◌≤◌, ◌<◌, ◌+◌, ◌/◌, ℕ, List, [], ◌∷◌, ◌++◌, length, Option, Some, IsSome, slice_get, slice_set, get_or, zero, suc, arith, refl, ap, ◌∙◌, add-zero}
use Rattle.std.proofs.lemmas.Grind.{common_steps}
use Rattle.lz_base.specs.declared.name.Port.{Port}
use Rattle.lz_base.specs.Names.{IsNew}
use Rattle.lz_circuit.specs.Lines.{port_bits, HasClock}
use Rattle.lz_circuit.proofs.Lines.{bits_more, widths_more, distinct_more, clocked_more}
use Rattle.g_net.specs.declared.network.Flip.{Flip}
use Rattle.g_net.specs.declared.network.Gate.{Gate}
use Rattle.g_net.specs.declared.network.Output.{Output}
use Rattle.g_net.specs.Network.{NetworkValue, nodes_of, gate_nodes, first_gate, node_count, LiteralsBelow, ReadsBelow, ReadBackwards, HaveLiterals, OutputsBelow, FlipsBelow, with_literals, names_of, IsWellFormed}

pub gates_more : (gs : List Gate) (g : Gate) → gate_nodes (gs ++ g ∷ []) ≡ gate_nodes gs + nodes_of g
gates_more [] g = omega arith
gates_more (d ∷ gs) g = omega (arith, gates_more gs g)

reads_more : (next : ℕ) (gs : List Gate) (g : Gate) → ReadBackwards next gs → ReadsBelow (next + gate_nodes gs) g → ReadBackwards next (gs ++ g ∷ [])
reads_more next [] g h one = (rw (add-zero next) at one, tt)
reads_more next (d ∷ gs) g h one =
    let e : next + (nodes_of d + gate_nodes gs) ≡ next + nodes_of d + gate_nodes gs = omega arith in
    (h.0, reads_more (next + nodes_of d) gs g h.1 (rw e at one))

literals_more : (os : List Output) (o : Output) → HaveLiterals os → 1 ≤ length o.literals → length o.literals ≤ 128 → HaveLiterals (os ++ o ∷ [])
literals_more [] o h low high = (low, high, tt)
literals_more (q ∷ os) o h low high = (h.0, h.1, literals_more os o h.2 low high)

outputs_more : (count : ℕ) (os : List Output) (o : Output) → OutputsBelow count os → LiteralsBelow count o.literals → OutputsBelow count (os ++ o ∷ [])
outputs_more count [] o h one = (one, tt)
outputs_more count (q ∷ os) o h one = (h.0, outputs_more count os o h.1 one)

-- without outputs the number of nodes does not matter
outputs_none : (a b : ℕ) (os : List Output) → os ≡ [] → OutputsBelow b os
outputs_none a b [] e = tt
outputs_none a b (o ∷ os) e = cc

-- without gates the number of nodes before them does not matter
gates_none : (a b : ℕ) (gs : List Gate) → gs ≡ [] → ReadBackwards a gs → ReadBackwards b gs
gates_none a b [] e h = tt
gates_none a b (g ∷ gs) e h = cc

-- more nodes do no harm to the flip-flops
flips_wider : (a b : ℕ) (fs : List Flip) → a ≤ b → FlipsBelow a fs → FlipsBelow b fs
flips_wider a b [] le h = tt
flips_wider a b (f ∷ fs) le h = (omega (arith, h.0), omega (arith, h.1), flips_wider a b fs le h.2)

flips_more : (count : ℕ) (fs : List Flip) (f : Flip) → FlipsBelow count fs → f.literal / 2 < count → f.enable / 2 < count → FlipsBelow count (fs ++ f ∷ [])
flips_more count [] f h l e = (l, e, tt)
flips_more count (g ∷ fs) f h l e = (h.0, h.1, flips_more count fs f h.2 l e)

flips_set : (count : ℕ) (fs : List Flip) (i l e : ℕ) → FlipsBelow count fs → l / 2 < count → e / 2 < count → FlipsBelow count (with_literals fs i l e)
flips_set count [] i l e h lt et = tt
flips_set count (f ∷ fs) zero l e h lt et = (lt, et, h.2)
flips_set count (f ∷ fs) (suc i) l e h lt et = (h.0, h.1, flips_set count fs i l e h.2 lt et)

pub length_set : (fs : List Flip) (i l e : ℕ) → length (with_literals fs i l e) ≡ length fs
length_set [] i l e = refl
length_set (f ∷ fs) zero l e = refl
length_set (f ∷ fs) (suc i) l e = ap suc (length_set fs i l e)

clocked_set : (clock : Option (List ℕ)) (fs : List Flip) (i l e : ℕ) → HasClock clock fs → HasClock clock (with_literals fs i l e)
clocked_set clock [] i l e h = tt
clocked_set clock (f ∷ fs) zero l e h = h
clocked_set clock (f ∷ fs) (suc i) l e h = h

-- a flip-flop that keeps its first bit and gets other literals
set_here : (fs : List Flip) (i l e : ℕ) (d : Flip) → slice_set fs i (record { first = (get_or fs i d).first; literal = l; enable = e }) ≡ with_literals fs i l e
set_here [] i l e d = refl
set_here (f ∷ fs) zero l e d = refl
set_here (f ∷ fs) (suc i) l e d = ap (λ gs. f ∷ gs) (set_here fs i l e d)

-- the same, where the bit is read from the list before
pub set_is : (fs read new : List Flip) (i l e : ℕ) (d : Flip) → read ≡ fs → new ≡ slice_set fs i (record { first = (get_or read i d).first; literal = l; enable = e }) → new ≡ with_literals fs i l e
set_is fs read new i l e d same is = is ∙ ap (λ (r : List Flip). slice_set fs i (record { first = (get_or r i d).first; literal = l; enable = e })) same ∙ set_here fs i l e d

pub set_whole : (n m : NetworkValue) (fs : List Flip) (i l e : ℕ) → n ≡ m → fs ≡ with_literals n.flips i l e → record n { flips = fs } ≡ record m { flips = with_literals m.flips i l e }
set_whole n m fs i l e same is = ap (λ (k : List Flip). record n { flips = k }) is ∙ ap (λ (k : NetworkValue). record k { flips = with_literals k.flips i l e }) same

-- one more gate
pub formed_gate : (n m : NetworkValue) (g : Gate) → n ≡ m → IsWellFormed n → m.outputs ≡ [] → ReadsBelow (node_count m) g → IsWellFormed (record n { gates = n.gates ++ g ∷ [] })
formed_gate n m g e w none one = record {
  lines = record {
    inputs = w.lines.inputs;
    clocked = w.lines.clocked;
    outputs = w.lines.outputs;
  };
  names = w.names;
  flips = flips_wider (node_count n) _ n.flips (omega (arith, gates_more n.gates g)) w.flips;
  gates = reads_more (first_gate n) n.gates g w.gates (rw e one);
  outputs = outputs_none (node_count n) _ n.outputs (rw e none);
}

-- one more flip-flop
pub formed_flip : (n m : NetworkValue) (f : Flip) → n ≡ m → IsWellFormed n → m.outputs ≡ [] → m.gates ≡ [] → IsSome m.clock → f.literal / 2 ≡ 0 → f.enable / 2 ≡ 0
    → IsWellFormed (record n { flips = n.flips ++ f ∷ [] })
formed_flip n m f e w none no_gate clocked literal enable =
    let longer : length (n.flips ++ f ∷ []) ≡ length n.flips + 1 = grind (arith, common_steps) in
    let count : ℕ = node_count (record n { flips = n.flips ++ f ∷ [] }) in
    record {
      lines = record {
        inputs = w.lines.inputs;
        clocked = clocked_more n.clock n.flips f (rw e clocked);
        outputs = w.lines.outputs;
      };
      names = w.names;
      flips = flips_more count n.flips f (flips_wider (node_count n) count n.flips (omega (arith, longer)) w.flips) (omega (arith, literal)) (omega (arith, enable));
      gates = gates_none (first_gate n) _ n.gates (rw e no_gate) w.gates;
      outputs = outputs_none (node_count n) _ n.outputs (rw e none);
    }

-- one more input
pub formed_input : (n m : NetworkValue) (p : Port) → n ≡ m → IsWellFormed n → m.outputs ≡ [] → m.gates ≡ [] → 1 ≤ p.width → p.width ≤ 128 → IsNew p.name (names_of m)
    → IsWellFormed (record n { inputs = n.inputs ++ p ∷ [] })
formed_input n m p e w none no_gate low high fresh =
    let none_here : n.outputs ≡ [] = rw e none in
    let more : names_of (record n { inputs = n.inputs ++ p ∷ [] }) ≡ names_of n ++ p.name ∷ [] = grind (arith, common_steps) in
    record {
      lines = record {
        inputs = widths_more n.inputs p w.lines.inputs low high;
        clocked = w.lines.clocked;
        outputs = w.lines.outputs;
      };
      names = rw more (distinct_more (names_of n) p.name w.names (rw e fresh));
      flips = flips_wider (node_count n) _ n.flips (omega (arith, bits_more n.inputs p)) w.flips;
      gates = gates_none (first_gate n) _ n.gates (rw e no_gate) w.gates;
      outputs = outputs_none (node_count n) _ n.outputs none_here;
    }

-- one more output
pub formed_output : (n m : NetworkValue) (o : Output) → n ≡ m → IsWellFormed n → 1 ≤ length o.literals → length o.literals ≤ 128 → IsNew o.name (names_of m)
    → LiteralsBelow (node_count m) o.literals → IsWellFormed (record n { outputs = n.outputs ++ o ∷ [] })
formed_output n m o e w low high fresh below =
    let more : names_of (record n { outputs = n.outputs ++ o ∷ [] }) ≡ names_of n ++ o.name ∷ [] = grind (arith, common_steps) in
    record {
      lines = record {
        inputs = w.lines.inputs;
        clocked = w.lines.clocked;
        outputs = literals_more n.outputs o w.lines.outputs low high;
      };
      names = rw more (distinct_more (names_of n) o.name w.names (rw e fresh));
      flips = w.flips;
      gates = w.gates;
      outputs = outputs_more (node_count n) n.outputs o w.outputs (rw e below);
    }

-- a flip-flop with other literals
pub formed_set : (n m : NetworkValue) (i l e : ℕ) → n ≡ m → IsWellFormed n → l / 2 < node_count m → e / 2 < node_count m → IsWellFormed (record n { flips = with_literals n.flips i l e })
formed_set n m i l e same w literal enable =
    let count : node_count (record n { flips = with_literals n.flips i l e }) ≡ node_count n = omega (arith, length_set n.flips i l e) in
    let first : first_gate (record n { flips = with_literals n.flips i l e }) ≡ first_gate n = omega (arith, length_set n.flips i l e) in
    record {
      lines = record {
        inputs = w.lines.inputs;
        clocked = clocked_set n.clock n.flips i l e w.lines.clocked;
        outputs = w.lines.outputs;
      };
      names = w.names;
      flips = rw count (flips_set (node_count n) n.flips i l e w.flips (rw same literal) (rw same enable));
      gates = rw first w.gates;
      outputs = rw count w.outputs;
    }

-- an output has a literal
pub some_literals : (os : List Output) (i : ℕ) (o : Output) → HaveLiterals os → slice_get os i ≡ Some o → 1 ≤ length o.literals
some_literals [] i o h is = cc
some_literals (q ∷ os) zero o h is =
    let e : q ≡ o = cc in
    rw (← e) h.0
some_literals (q ∷ os) (suc i) o h is = some_literals os i o h.2 is

-- an output has at most 128 literals
pub few_literals : (os : List Output) (i : ℕ) (o : Output) → HaveLiterals os → slice_get os i ≡ Some o → length o.literals ≤ 128
few_literals [] i o h is = cc
few_literals (q ∷ os) zero o h is =
    let e : q ≡ o = cc in
    rw (← e) h.1
few_literals (q ∷ os) (suc i) o h is = few_literals os i o h.2 is

-- the literals of an output are there
pub literals_there : (count : ℕ) (os : List Output) (i : ℕ) (o : Output) → OutputsBelow count os → slice_get os i ≡ Some o → LiteralsBelow count o.literals
literals_there count [] i o h is = cc
literals_there count (q ∷ os) zero o h is =
    let e : q ≡ o = cc in
    rw (← e) h.0
literals_there count (q ∷ os) (suc i) o h is = literals_there count os i o h.1 is

-- the number of nodes with one more line
pub count_gate : (n m : NetworkValue) (gs : List Gate) (g : Gate) (more : ℕ) → n ≡ m → gs ≡ n.gates ++ g ∷ [] → more ≡ nodes_of g → node_count m + more ≡ node_count (record n { gates = gs })
count_gate n m gs g more e is by = omega (arith, ap node_count e, ap gate_nodes is, gates_more n.gates g, by)

pub count_flip : (n m : NetworkValue) (fs : List Flip) (f : Flip) → n ≡ m → fs ≡ n.flips ++ f ∷ [] → node_count m + 1 ≡ node_count (record n { flips = fs })
count_flip n m fs f e is =
    let longer : length (n.flips ++ f ∷ []) ≡ length n.flips + 1 = grind (arith, common_steps) in
    omega (arith, ap node_count e, ap length is, longer)

pub count_input : (n m : NetworkValue) (ps : List Port) (p : Port) → n ≡ m → ps ≡ n.inputs ++ p ∷ [] → node_count m + p.width ≡ node_count (record n { inputs = ps })
count_input n m ps p e is = omega (arith, ap node_count e, ap port_bits is, bits_more n.inputs p)

pub count_set : (n : NetworkValue) (fs : List Flip) (i l e : ℕ) → fs ≡ with_literals n.flips i l e → node_count n ≡ node_count (record n { flips = fs })
count_set n fs i l e is = omega (arith, ap length is, length_set n.flips i l e)
