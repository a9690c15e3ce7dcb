-- The lines of a stimulus or a trace as forms.
use Rattle.std.specs.Prelude.{◌≡◌, ℕ, List, [], ◌∷◌, ◌++◌, flat_map, codes, Option, None, Some, ⊤}
use Rattle.lz_base.specs.WordValue.{WordValue}
use Rattle.lz_lines.specs.Forms.{Ended, LineOrLast, Then}
use Rattle.t_trace.specs.Texts.{IsText, cycle_line, cycles_text, end_line, word_field}
use Rattle.t_trace.specs.Widths.{FitWidths}
use Rattle.t_trace.specs.declared.head.Head.{Head}
use Rattle.t_trace.specs.declared.head.Head.TheVariants as head

-- the word that begins a line
abbrev pub head_word : Head → List ℕ
head_word head.In = codes "in"
head_word head.Out = codes "out"
head_word head.End = codes "end"

-- the fields of a cycle's words
abbrev pub AreWords : List ℕ → List WordValue → List ℕ → Type 0
AreWords widths words text = FitWidths widths words × (text ≡ flat_map word_field words)

-- what stands behind the word that begins a line: the words of a cycle, or nothing
abbrev pub Tail : List ℕ → Head → Option (List WordValue) → List ℕ → Type 0
Tail widths head.In = Then (AreWords widths) (λ words. Ended (Some words))
Tail widths head.Out = Then (AreWords widths) (λ words. Ended (Some words))
Tail widths head.End = Ended None

-- a cycle's line, whatever came before
abbrev pub IsCycle : List ℕ → List ℕ → List (List WordValue) → List WordValue → List ℕ → Type 0
IsCycle widths key before words text = FitWidths widths words × (text ≡ cycle_line key words)

-- one cycle more
abbrev pub and_cycle : List (List WordValue) → List WordValue → List (List WordValue)
and_cycle before words = before ++ words ∷ []

abbrev pub Always : List (List WordValue) → Type 0
Always before = ⊤

-- a cycle's line, or the last
abbrev pub IsLine : List ℕ → List ℕ → Option (List WordValue) → List ℕ → Type 0
IsLine widths key = LineOrLast (IsCycle widths key) Always end_line []

-- a whole text
abbrev pub IsCycles : List ℕ → List ℕ → List ℕ → List (List WordValue) → List ℕ → Type 0
IsCycles first key widths cycles bytes = IsText (cycles_text first key) widths bytes cycles
