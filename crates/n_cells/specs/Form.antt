-- The form of a netlist's text: a netlist whose lines and fields are those of the grammar, whatever its nets and names
-- refer to.
use Rattle.std.specs.Prelude.{◌≡◌, ℕ, ◌^◌, ◌≤◌, List, [], ◌∷◌, length, Option, None, Some, ⊤}
use Rattle.lz_base.specs.declared.name.Port.{Port}
use Rattle.lz_base.specs.Names.{IsName}
use Rattle.n_cells.specs.declared.format.Format.{Format}
use Rattle.n_cells.specs.declared.format.Format.TheVariants.{One, Two}
use Rattle.n_cells.specs.declared.netlist.Flop.{Flop}
use Rattle.n_cells.specs.declared.netlist.Stored.{Stored}
use Rattle.n_cells.specs.declared.netlist.Stored.TheVariants.{Lut, Carry}
use Rattle.n_cells.specs.Netlist.{NetlistValue, HasLines, ReadsBelow, FlopsBelow, OutputsBelow}
use Rattle.n_cells.specs.Leaves.{most_leaves}

-- numbers in a text are below this
abbrev pub bound : ℕ
bound = 2 ^ 128

-- the most leaves of a look-up table in a text
abbrev pub leaves_of : Format → ℕ
leaves_of One = 4
leaves_of Two = most_leaves

abbrev pub HasFewLeaves : ℕ → Stored → Type 0
HasFewLeaves most (Lut leaves table) = length leaves ≤ most
HasFewLeaves most (Carry a b c) = ⊤

abbrev pub HaveFewLeaves : ℕ → List Stored → Type 0
HaveFewLeaves most [] = ⊤
HaveFewLeaves most (c ∷ cs) = HasFewLeaves most c × HaveFewLeaves most cs

-- format 1 has no word for an enable, which is the constant 1
abbrev pub HasEnable : Format → Flop → Type 0
HasEnable One f = f.enable ≡ 1
HasEnable Two f = ⊤

abbrev pub HaveEnables : Format → List Flop → Type 0
HaveEnables format [] = ⊤
HaveEnables format (f ∷ fs) = HasEnable format f × HaveEnables format fs

-- a netlist that a format can spell
pub record FitsFormat (format : Format) (n : NetlistValue) : Type 0 where
  pub enables : HaveEnables format n.flops
  pub leaves : HaveFewLeaves (leaves_of format) n.cells

abbrev pub ClockNamed : Option (List ℕ) → Type 0
ClockNamed None = ⊤
ClockNamed (Some name) = IsName name

abbrev pub PortsNamed : List Port → Type 0
PortsNamed [] = ⊤
PortsNamed (p ∷ ps) = IsName p.name × PortsNamed ps

abbrev pub CellsBelow : ℕ → List Stored → Type 0
CellsBelow high [] = ⊤
CellsBelow high (c ∷ cs) = ReadsBelow high c × CellsBelow high cs

pub record HasForm (format : Format) (n : NetlistValue) : Type 0 where
  pub lines : HasLines n
  pub fits : FitsFormat format n
  pub name : IsName n.name
  pub clock : ClockNamed n.clock
  pub inputs : PortsNamed n.inputs
  pub flops : FlopsBelow bound n.flops
  pub cells : CellsBelow bound n.cells
  pub outputs : PortsNamed n.outputs
  pub nets : OutputsBelow bound n.nets
