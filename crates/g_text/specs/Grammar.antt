-- The lines of a network's text, field by field.
use Rattle.std.specs.Prelude.{◌≡◌, ℕ, List, [], Bool, Option, None, Some, ⊤}
use Rattle.lz_lines.specs.Fields.{AreNumbers, IsBit, IsNameField, IsNumber, IsWord, greatest, line_end}
use Rattle.lz_lines.specs.Forms.{Done, Ended, Lines, Then}
use Rattle.lz_lines.specs.Keywords.{OneOf}
use Rattle.lz_lines.specs.Sections.{end_line}
use Rattle.g_net.specs.declared.network.Gate.TheVariants.{And, Xor, Carry}
use Rattle.g_net.specs.Network.{NetworkValue}
use Rattle.g_text.specs.declared.line.Key.{Key}
use Rattle.g_text.specs.declared.line.Key.TheVariants as key
use Rattle.g_text.specs.declared.line.Line.{Line}
use Rattle.g_text.specs.declared.line.Line.TheVariants.{Clock, Input, Flip, Gate, Output}
use Rattle.g_text.specs.Keys.{key_word, keys_of}
use Rattle.g_text.specs.Raw.{bare, with_line}
use Rattle.g_text.specs.Text.{head}

-- a literal, whatever it refers to
abbrev pub IsLiteral : ℕ → List ℕ → Type 0
IsLiteral = IsNumber 0 greatest

-- two literals
abbrev pub PairEnd : ℕ → ℕ × ℕ → List ℕ → Type 0
PairEnd a = Then IsLiteral (λ b. Done (a, b))

abbrev pub Pair : ℕ × ℕ → List ℕ → Type 0
Pair = Then IsLiteral PairEnd

-- what is left of a line behind fields that are known
abbrev pub ClockEnd : List ℕ → Option Line → List ℕ → Type 0
ClockEnd name = Ended (Some (Clock name))

abbrev pub InputEnd : List ℕ → ℕ → Option Line → List ℕ → Type 0
InputEnd name width = Ended (Some (Input (record { name = name; width = width })))

abbrev pub InputWidth : List ℕ → Option Line → List ℕ → Type 0
InputWidth name = Then (IsNumber 1 128) (InputEnd name)

abbrev pub FlipEnd : Bool → ℕ × ℕ → Option Line → List ℕ → Type 0
FlipEnd first p = Ended (Some (Flip (record { first = first; literal = p.0; enable = p.1 })))

abbrev pub FlipPair : Bool → Option Line → List ℕ → Type 0
FlipPair first = Then Pair (FlipEnd first)

abbrev pub AndEnd : ℕ × ℕ → Option Line → List ℕ → Type 0
AndEnd p = Ended (Some (Gate (And p.0 p.1)))

abbrev pub XorEnd : ℕ × ℕ → Option Line → List ℕ → Type 0
XorEnd p = Ended (Some (Gate (Xor p.0 p.1)))

abbrev pub CarryEnd : ℕ → ℕ × ℕ → Option Line → List ℕ → Type 0
CarryEnd a p = Ended (Some (Gate (Carry a p.0 p.1)))

abbrev pub CarryPair : ℕ → Option Line → List ℕ → Type 0
CarryPair a = Then Pair (CarryEnd a)

abbrev pub OutputEnd : List ℕ → List ℕ → Option Line → List ℕ → Type 0
OutputEnd name literals = Ended (Some (Output (record { name = name; literals = literals })))

abbrev pub OutputLiterals : List ℕ → Option Line → List ℕ → Type 0
OutputLiterals name = Then (AreNumbers 1 128 greatest) (OutputEnd name)

-- what stands behind the word of a line: the line, or none for the end's
abbrev pub Tail : Key → Option Line → List ℕ → Type 0
Tail key.Clock = Then IsNameField ClockEnd
Tail key.Input = Then IsNameField InputWidth
Tail key.Flip = Then IsBit FlipPair
Tail key.And = Then Pair AndEnd
Tail key.Xor = Then Pair XorEnd
Tail key.Carry = Then IsLiteral CarryPair
Tail key.Output = Then IsNameField OutputLiterals
Tail key.End = Ended None

-- a line that may come next, or none for the end's
abbrev pub IsNext : List Key → Option Line → List ℕ → Type 0
IsNext keys = Then (OneOf key_word key.End keys) Tail

-- a line that may come behind those that a network has
abbrev pub IsLine : NetworkValue → Line → List ℕ → Type 0
IsLine n line = IsNext (keys_of n) (Some line)

abbrev pub MayEnd : NetworkValue → Type 0
MayEnd n = ⊤

-- the lines behind those that a network has, up to the end
abbrev pub Rest : NetworkValue → NetworkValue → List ℕ → Type 0
Rest = Lines IsLine with_line MayEnd end_line

-- the lines behind the model's name
abbrev pub Behind : List ℕ → NetworkValue → List ℕ → Type 0
Behind name = Then (IsWord line_end) (λ _. Rest (bare name))

-- the whole text
abbrev pub Whole : NetworkValue → List ℕ → Type 0
Whole = Then (IsWord head) (λ _. Then IsNameField Behind)
