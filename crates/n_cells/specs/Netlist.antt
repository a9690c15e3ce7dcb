-- What a netlist is, and when it is well formed.
use Rattle.std.specs.Prelude.{◌≡◌, ℕ, ◌+◌, ◌^◌, ◌<◌, ◌≤◌, List, [], ◌∷◌, ◌++◌, length, map, Option, ⊤}
use Rattle.std.specs.Option.{option_to_list}
use Rattle.lz_base.specs.declared.name.Port.{Port}
use Rattle.lz_base.specs.Names.{AreDistinct}
use Rattle.lz_circuit.specs.Lines.{port_bits, HaveWidths, HasClock}
use Rattle.n_cells.specs.declared.netlist.Flop.{Flop}
use Rattle.n_cells.specs.declared.netlist.Stored.{Stored}
use Rattle.n_cells.specs.declared.netlist.Stored.TheVariants.{Lut, Carry}
use Rattle.n_cells.specs.Leaves.{most_leaves}

-- A netlist, line by line. Each output has its port, and in `nets` its nets, bit 0 first.
pub record NetlistValue : Type 0 where
  pub name : List ℕ
  pub clock : Option (List ℕ)
  pub inputs : List Port
  pub flops : List Flop
  pub cells : List Stored
  pub outputs : List Port
  pub nets : List (List ℕ)

-- how many nets a cell makes
abbrev pub nets_of : Stored → ℕ
nets_of (Lut leaves table) = 1
nets_of (Carry a b c) = 2

-- how many nets the cells make together
abbrev pub cell_nets : List Stored → ℕ
cell_nets [] = 0
cell_nets (c ∷ cs) = nets_of c + cell_nets cs

-- the number of the first net behind the two constants, the inputs and the flip-flops
abbrev pub first_net : List Port → List Flop → ℕ
first_net inputs flops = 2 + port_bits inputs + length flops

-- the number of all nets
abbrev pub net_count : NetlistValue → ℕ
net_count n = first_net n.inputs n.flops + cell_nets n.cells

-- all numbers are below
abbrev pub AllBelow : ℕ → List ℕ → Type 0
AllBelow high [] = ⊤
AllBelow high (x ∷ xs) = (x < high) × AllBelow high xs

-- The form of a cell: at most so many leaves, and a table of as many bits as they have values.
abbrev pub HasShape : Stored → Type 0
HasShape (Lut leaves table) = (length leaves ≤ most_leaves) × (table < 2 ^ (2 ^ length leaves))
HasShape (Carry a b c) = ⊤

abbrev pub HaveShapes : List Stored → Type 0
HaveShapes [] = ⊤
HaveShapes (c ∷ cs) = HasShape c × HaveShapes cs

-- the nets that a cell reads are below
abbrev pub ReadsBelow : ℕ → Stored → Type 0
ReadsBelow high (Lut leaves table) = AllBelow high leaves
ReadsBelow high (Carry a b c) = (a < high) × (b < high) × (c < high)

-- each cell reads nets that come before its own first net, where the first cell's first net has this number
abbrev pub ReadBackwards : ℕ → List Stored → Type 0
ReadBackwards next [] = ⊤
ReadBackwards next (c ∷ cs) = ReadsBelow next c × ReadBackwards (next + nets_of c) cs

-- each output has as many nets as its width says
abbrev pub FillOutputs : List Port → List (List ℕ) → Type 0
FillOutputs [] [] = ⊤
FillOutputs [] (nets ∷ more) = ⊥
FillOutputs (p ∷ ps) [] = ⊥
FillOutputs (p ∷ ps) (nets ∷ more) = (length nets ≡ p.width) × FillOutputs ps more

-- the nets of all outputs are there
abbrev pub OutputsBelow : ℕ → List (List ℕ) → Type 0
OutputsBelow count [] = ⊤
OutputsBelow count (nets ∷ more) = AllBelow count nets × OutputsBelow count more

-- the nets and the enables of the flip-flops are there
abbrev pub FlopsBelow : ℕ → List Flop → Type 0
FlopsBelow count [] = ⊤
FlopsBelow count (f ∷ fs) = (f.net < count) × (f.enable < count) × FlopsBelow count fs

-- the names of the clock, the inputs and the outputs
abbrev pub names_of : NetlistValue → List (List ℕ)
names_of n = option_to_list n.clock ++ map (λ p. p.name) n.inputs ++ map (λ p. p.name) n.outputs

-- The lines and fields are those of the grammar, whatever the nets refer to.
pub record HasLines (n : NetlistValue) : Type 0 where
  pub inputs : HaveWidths n.inputs
  pub clocked : HasClock n.clock n.flops
  pub cells : HaveShapes n.cells
  pub widths : HaveWidths n.outputs
  pub filled : FillOutputs n.outputs n.nets

-- What holds while a netlist is made: names are distinct and nets are there, but for those of the flip-flops,
-- whose lines come before the cells.
pub record IsBegun (n : NetlistValue) : Type 0 where
  pub lines : HasLines n
  pub names : AreDistinct (names_of n)
  pub cells : ReadBackwards (first_net n.inputs n.flops) n.cells
  pub outputs : OutputsBelow (net_count n) n.nets

-- a netlist that is well formed
pub record IsWellFormed (n : NetlistValue) : Type 0 where
  pub begun : IsBegun n
  pub flops : FlopsBelow (net_count n) n.flops
