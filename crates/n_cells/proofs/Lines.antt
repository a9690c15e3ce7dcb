-- What one more line of a netlist keeps.
use Rattle.std.proofs.Common.{◌≡◌, ◌≤◌, ◌+◌, ℕ, List, [], ◌∷◌, ◌++◌, length, Some, IsSome, slice_get, zero, suc, arith, refl, add-zero}
use Rattle.std.proofs.lemmas.Grind.{common_steps}
use Rattle.lz_base.specs.declared.name.Port.{Port}
use Rattle.lz_base.specs.Names.{IsNew}
use Rattle.lz_circuit.specs.Lines.{HaveWidths}
use Rattle.lz_circuit.proofs.Lines.{widths_more, distinct_more, clocked_more}
use Rattle.n_cells.specs.declared.netlist.Flop.{Flop}
use Rattle.n_cells.specs.declared.netlist.Stored.{Stored}
use Rattle.n_cells.specs.Netlist.{HasShape, HaveShapes, ReadsBelow, ReadBackwards, FillOutputs, OutputsBelow, AllBelow, nets_of, cell_nets, NetlistValue, IsBegun, net_count, first_net, names_of}

-- there are as many lists of nets as outputs
pub length_filled : (ps : List Port) (ns : List (List ℕ)) → FillOutputs ps ns → length ps ≡ length ns
length_filled [] [] h = refl
length_filled [] (n ∷ ns) h = absurd h
length_filled (p ∷ ps) [] h = absurd h
length_filled (p ∷ ps) (n ∷ ns) h = omega (arith, length_filled ps ns h.1)

filled_more : (ps : List Port) (ns : List (List ℕ)) (p : Port) (n : List ℕ) → FillOutputs ps ns → length n ≡ p.width → FillOutputs (ps ++ p ∷ []) (ns ++ n ∷ [])
filled_more [] [] p n h w = (w, tt)
filled_more [] (m ∷ ns) p n h w = absurd h
filled_more (q ∷ ps) [] p n h w = absurd h
filled_more (q ∷ ps) (m ∷ ns) p n h w = (h.0, filled_more ps ns p n h.1 w)

below_there : (count : ℕ) (ns : List (List ℕ)) (n : List ℕ) → OutputsBelow count ns → AllBelow count n → OutputsBelow count (ns ++ n ∷ [])
below_there count [] n h b = (b, tt)
below_there count (m ∷ ns) n h b = (h.0, below_there count ns n h.1 b)

shapes_more : (cs : List Stored) (c : Stored) → HaveShapes cs → HasShape c → HaveShapes (cs ++ c ∷ [])
shapes_more [] c h one = (one, tt)
shapes_more (d ∷ cs) c h one = (h.0, shapes_more cs c h.1 one)

reads_more : (next : ℕ) (cs : List Stored) (c : Stored) → ReadBackwards next cs → ReadsBelow (next + cell_nets cs) c → ReadBackwards next (cs ++ c ∷ [])
reads_more next [] c h one = (rw (add-zero next) at one, tt)
reads_more next (d ∷ cs) c h one =
    let e : next + (nets_of d + cell_nets cs) ≡ next + nets_of d + cell_nets cs = omega arith in
    (h.0, reads_more (next + nets_of d) cs c h.1 (rw e at one))

-- without outputs the number of nets does not matter
outputs_none : (a b : ℕ) (ps : List Port) (ns : List (List ℕ)) → ps ≡ [] → FillOutputs ps ns → OutputsBelow a ns → OutputsBelow b ns
outputs_none a b ps [] e f h = tt
outputs_none a b [] (n ∷ ns) e f h = absurd f
outputs_none a b (p ∷ ps) (n ∷ ns) e f h = cc

-- without cells the number of nets before them does not matter
cells_none : (a b : ℕ) (cs : List Stored) → cs ≡ [] → ReadBackwards a cs → ReadBackwards b cs
cells_none a b [] e h = tt
cells_none a b (c ∷ cs) e h = cc

-- one more cell
pub begun_cell : (n m : NetlistValue) (c : Stored) → n ≡ m → IsBegun n → m.outputs ≡ [] → HasShape c → ReadsBelow (net_count m) c → IsBegun (record n { cells = n.cells ++ c ∷ [] })
begun_cell n m c e b none shape one = record {
  lines = record {
    inputs = b.lines.inputs;
    clocked = b.lines.clocked;
    cells = shapes_more n.cells c b.lines.cells shape;
    widths = b.lines.widths;
    filled = b.lines.filled;
  };
  names = b.names;
  cells = reads_more (first_net n.inputs n.flops) n.cells c b.cells (rw e one);
  outputs = outputs_none _ _ n.outputs n.nets (rw e none) b.lines.filled b.outputs;
}

-- one more flip-flop
pub begun_flop : (n m : NetlistValue) (f : Flop) → n ≡ m → IsBegun n → m.outputs ≡ [] → m.cells ≡ [] → IsSome m.clock → IsBegun (record n { flops = n.flops ++ f ∷ [] })
begun_flop n m f e b none no_cell clocked = record {
  lines = record {
    inputs = b.lines.inputs;
    clocked = clocked_more n.clock n.flops f (rw e clocked);
    cells = b.lines.cells;
    widths = b.lines.widths;
    filled = b.lines.filled;
  };
  names = b.names;
  cells = cells_none _ _ n.cells (rw e no_cell) b.cells;
  outputs = outputs_none _ _ n.outputs n.nets (rw e none) b.lines.filled b.outputs;
}

-- one more input
pub begun_input : (n m : NetlistValue) (p : Port) → n ≡ m → IsBegun n → m.outputs ≡ [] → m.cells ≡ [] → 1 ≤ p.width → p.width ≤ 128 → IsNew p.name (names_of m)
    → IsBegun (record n { inputs = n.inputs ++ p ∷ [] })
begun_input n m p e b none no_cell low high fresh =
    let none_here : n.outputs ≡ [] = rw e none in
    let more : names_of (record n { inputs = n.inputs ++ p ∷ [] }) ≡ names_of n ++ p.name ∷ [] = grind (arith, common_steps) in
    record {
      lines = record {
        inputs = widths_more n.inputs p b.lines.inputs low high;
        clocked = b.lines.clocked;
        cells = b.lines.cells;
        widths = b.lines.widths;
        filled = b.lines.filled;
      };
      names = rw more (distinct_more (names_of n) p.name b.names (rw e fresh));
      cells = cells_none _ _ n.cells (rw e no_cell) b.cells;
      outputs = outputs_none _ _ n.outputs n.nets (rw e none) b.lines.filled b.outputs;
    }

-- one more output
pub begun_output : (n m : NetlistValue) (p : Port) (nets : List ℕ) → n ≡ m → IsBegun n → 1 ≤ p.width → p.width ≤ 128 → IsNew p.name (names_of m)
    → length nets ≡ p.width → AllBelow (net_count m) nets
    → IsBegun (record n { outputs = n.outputs ++ p ∷ []; nets = n.nets ++ nets ∷ [] })
begun_output n m p nets e b low high fresh width below =
    let more : names_of (record n { outputs = n.outputs ++ p ∷ []; nets = n.nets ++ nets ∷ [] }) ≡ names_of n ++ p.name ∷ [] = grind (arith, common_steps) in
    record {
      lines = record {
        inputs = b.lines.inputs;
        clocked = b.lines.clocked;
        cells = b.lines.cells;
        widths = widths_more n.outputs p b.lines.widths low high;
        filled = filled_more n.outputs n.nets p nets b.lines.filled width;
      };
      names = rw more (distinct_more (names_of n) p.name b.names (rw e fresh));
      cells = b.cells;
      outputs = below_there (net_count n) n.nets nets b.outputs (rw e below);
    }

-- the form of a cell that is there
pub shape_there : (cs : List Stored) (i : ℕ) (c : Stored) → HaveShapes cs → slice_get cs i ≡ Some c → HasShape c
shape_there [] i c h is = cc
shape_there (d ∷ cs) zero c h is =
    let e : d ≡ c = cc in
    rw (← e) h.0
shape_there (d ∷ cs) (suc i) c h is = shape_there cs i c h.1 is

-- an output has a net
pub some_nets : (ps : List Port) (ns : List (List ℕ)) (i : ℕ) (n : List ℕ) → HaveWidths ps → FillOutputs ps ns → slice_get ns i ≡ Some n → 1 ≤ length n
some_nets ps [] i n w f is = cc
some_nets [] (m ∷ ns) i n w f is = absurd f
some_nets (p ∷ ps) (m ∷ ns) zero n w f is =
    let e : m ≡ n = cc in
    rw (← e, f.0) w.0
some_nets (p ∷ ps) (m ∷ ns) (suc i) n w f is = some_nets ps ns i n w.2 f.1 is

-- an output has at most 128 nets
pub few_nets : (ps : List Port) (ns : List (List ℕ)) (i : ℕ) (n : List ℕ) → HaveWidths ps → FillOutputs ps ns → slice_get ns i ≡ Some n → length n ≤ 128
few_nets ps [] i n w f is = cc
few_nets [] (m ∷ ns) i n w f is = absurd f
few_nets (p ∷ ps) (m ∷ ns) zero n w f is =
    let e : m ≡ n = cc in
    rw (← e, f.0) w.1
few_nets (p ∷ ps) (m ∷ ns) (suc i) n w f is = few_nets ps ns i n w.2 f.1 is

-- the nets of an output are there
pub nets_there : (count : ℕ) (ns : List (List ℕ)) (i : ℕ) (n : List ℕ) → OutputsBelow count ns → slice_get ns i ≡ Some n → AllBelow count n
nets_there count [] i n b is = cc
nets_there count (m ∷ ns) zero n b is =
    let e : m ≡ n = cc in
    rw (← e) b.0
nets_there count (m ∷ ns) (suc i) n b is = nets_there count ns i n b.1 is
