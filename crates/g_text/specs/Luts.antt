-- The lines of a proposal's text, field by field.
use Rattle.std.specs.Prelude.{◌≡◌, ℕ, List, [], ◌∷◌, ◌++◌, codes, Option, None, Some, ⊤}
use Rattle.lz_lines.specs.Fields.{IsNumber, greatest}
use Rattle.lz_lines.specs.Forms.{Ended, LineOrLast, Lines, Then}
use Rattle.lz_lines.specs.Tables.{IsTable}
use Rattle.lz_lines.specs.Sections.{end_line}
use Rattle.g_net.specs.declared.proposal.Line.{Line}
use Rattle.g_text.specs.declared.proposal.Head.{Head}
use Rattle.g_text.specs.declared.proposal.Head.TheVariants as head
use Rattle.g_text.specs.Proposals.{IsLut, lut_line}

-- the word that begins a line
abbrev pub head_word : Head → List ℕ
head_word head.Lut = codes "lut"
head_word head.End = codes "end"

-- the end of a line whose root, leaves and table are known
abbrev pub LutEnd : ℕ → List ℕ × ℕ → Option Line → List ℕ → Type 0
LutEnd root t = Ended (Some (record { root = root; leaves = t.0; table = t.1 }))

abbrev pub LutTable : ℕ → Option Line → List ℕ → Type 0
LutTable root = Then (IsTable 6) (LutEnd root)

-- what stands behind the word that begins a line
abbrev pub Tail : Head → Option Line → List ℕ → Type 0
Tail head.Lut = Then (IsNumber 0 greatest) LutTable
Tail head.End = Ended None

-- a line, whatever came before
abbrev pub IsLutText : List Line → Line → List ℕ → Type 0
IsLutText before l text = IsLut l × (text ≡ lut_line l)

-- one line more
abbrev pub and_lut : List Line → Line → List Line
and_lut before l = before ++ l ∷ []

abbrev pub Always : List Line → Type 0
Always before = ⊤

-- a line, or the last one
abbrev pub IsNextLut : Option Line → List ℕ → Type 0
IsNextLut = LineOrLast IsLutText Always end_line []

-- the lines behind those that were read
abbrev pub LutLines : List Line → List Line → List ℕ → Type 0
LutLines = Lines IsLutText and_lut Always end_line
