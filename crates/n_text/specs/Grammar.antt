-- The lines of a netlist's text, field by field.
use Rattle.std.specs.Prelude.{◌≡◌, ℕ, List, [], length, Bool, Option, None, Some, ⊤}
use Rattle.lz_lines.specs.Fields.{AreNumbers, IsBit, IsNameField, IsNumber, IsWord, greatest, line_end}
use Rattle.lz_lines.specs.Forms.{Ended, Lines, Then}
use Rattle.lz_lines.specs.Keywords.{OneOf}
use Rattle.lz_lines.specs.Tables.{IsTable}
use Rattle.lz_lines.specs.Sections.{end_line}
use Rattle.n_cells.specs.declared.format.Format.{Format}
use Rattle.n_cells.specs.declared.format.Format.TheVariants.{One, Two}
use Rattle.n_cells.specs.declared.netlist.Stored.TheVariants as stored
use Rattle.n_cells.specs.Form.{leaves_of}
use Rattle.n_cells.specs.Netlist.{NetlistValue}
use Rattle.n_text.specs.declared.line.Key.{Key}
use Rattle.n_text.specs.declared.line.Key.TheVariants as key
use Rattle.n_text.specs.declared.line.Line.{Line}
use Rattle.n_text.specs.declared.line.Line.TheVariants.{Clock, Input, Flop, Cell, Output}
use Rattle.n_text.specs.Keys.{key_word, keys_of}
use Rattle.n_text.specs.Raw.{bare, head, with_line}

-- a net, whatever it refers to
abbrev pub IsNet : ℕ → List ℕ → Type 0
IsNet = IsNumber 0 greatest

-- the enable of a flip-flop, which format 1 leaves out
abbrev pub IsEnable : Format → ℕ → List ℕ → Type 0
IsEnable One enable text = (enable ≡ 1) × (text ≡ [])
IsEnable Two enable text = IsNet enable text

-- what is left of a line behind fields that are known
abbrev pub ClockEnd : List ℕ → Option Line → List ℕ → Type 0
ClockEnd name = Ended (Some (Clock name))

abbrev pub InputEnd : List ℕ → ℕ → Option Line → List ℕ → Type 0
InputEnd name width = Ended (Some (Input (record { name = name; width = width })))

abbrev pub InputWidth : List ℕ → Option Line → List ℕ → Type 0
InputWidth name = Then (IsNumber 1 128) (InputEnd name)

abbrev pub FlopEnd : Bool → ℕ → ℕ → Option Line → List ℕ → Type 0
FlopEnd first net enable = Ended (Some (Flop (record { first = first; net = net; enable = enable })))

abbrev pub FlopEnable : Format → Bool → ℕ → Option Line → List ℕ → Type 0
FlopEnable format first net = Then (IsEnable format) (FlopEnd first net)

abbrev pub FlopNet : Format → Bool → Option Line → List ℕ → Type 0
FlopNet format first = Then IsNet (FlopEnable format first)

abbrev pub LutEnd : List ℕ × ℕ → Option Line → List ℕ → Type 0
LutEnd t = Ended (Some (Cell (stored.Lut t.0 t.1)))

abbrev pub CarryEnd : ℕ → ℕ → ℕ → Option Line → List ℕ → Type 0
CarryEnd a b c = Ended (Some (Cell (stored.Carry a b c)))

abbrev pub CarryLast : ℕ → ℕ → Option Line → List ℕ → Type 0
CarryLast a b = Then IsNet (CarryEnd a b)

abbrev pub CarrySecond : ℕ → Option Line → List ℕ → Type 0
CarrySecond a = Then IsNet (CarryLast a)

abbrev pub OutputEnd : List ℕ → List ℕ → Option Line → List ℕ → Type 0
OutputEnd name nets = Ended (Some (Output (record { name = name; width = length nets }) nets))

abbrev pub OutputNets : List ℕ → Option Line → List ℕ → Type 0
OutputNets name = Then (AreNumbers 1 128 greatest) (OutputEnd name)

-- what stands behind the word of a line: the line, or none for the end's
abbrev pub Tail : Format → Key → Option Line → List ℕ → Type 0
Tail format key.Clock = Then IsNameField ClockEnd
Tail format key.Input = Then IsNameField InputWidth
Tail format key.Flop = Then IsBit (FlopNet format)
Tail format key.Lut = Then (IsTable (leaves_of format)) LutEnd
Tail format key.Carry = Then IsNet CarrySecond
Tail format key.Output = Then IsNameField OutputNets
Tail format key.End = Ended None

-- a line that may come next, or none for the end's
abbrev pub IsNext : Format → List Key → Option Line → List ℕ → Type 0
IsNext format keys = Then (OneOf key_word key.End keys) (Tail format)

-- a line that may come behind those that a netlist has
abbrev pub IsLine : Format → NetlistValue → Line → List ℕ → Type 0
IsLine format n line = IsNext format (keys_of n) (Some line)

abbrev pub MayEnd : NetlistValue → Type 0
MayEnd n = ⊤

-- the lines behind those that a netlist has, up to the end
abbrev pub Rest : Format → NetlistValue → NetlistValue → List ℕ → Type 0
Rest format = Lines (IsLine format) with_line MayEnd end_line

-- the lines behind the model's name
abbrev pub Behind : Format → List ℕ → NetlistValue → List ℕ → Type 0
Behind format name = Then (IsWord line_end) (λ _. Rest format (bare name))

-- the whole text
abbrev pub Whole : Format → NetlistValue → List ℕ → Type 0
Whole format = Then (IsWord (head format)) (λ _. Then IsNameField (Behind format))
