-- The one spelling of a stimulus, and of a trace.
use Rattle.std.specs.Prelude.{◌≡◌, ℕ, List, [], ◌∷◌, ◌++◌, flat_map, codes}
use Rattle.lz_base.specs.WordValue.{WordValue}
use Rattle.lz_lines.specs.Fields.{field, hex}
use Rattle.t_trace.specs.Widths.{CyclesFit}

abbrev pub word_field : WordValue → List ℕ
word_field w = field (hex w.width w.value)

-- KEY HEX .., in the order of the ports
abbrev pub cycle_line : List ℕ → List WordValue → List ℕ
cycle_line key words = key ++ flat_map word_field words ++ 10 ∷ []

abbrev pub end_line : List ℕ
end_line = codes "end" ++ 10 ∷ []

-- the first line, a line for each cycle, and the last line
abbrev pub cycles_text : List ℕ → List ℕ → List (List WordValue) → List ℕ
cycles_text first key cycles = first ++ flat_map (cycle_line key) cycles ++ end_line

abbrev pub stimulus_text : List (List WordValue) → List ℕ
stimulus_text cycles = cycles_text (codes "stim 1" ++ 10 ∷ []) (codes "in") cycles

abbrev pub trace_text : List (List WordValue) → List ℕ
trace_text cycles = cycles_text (codes "trace 1" ++ 10 ∷ []) (codes "out") cycles

-- These bytes are the text of these cycles, which have a word for each width.
pub record IsText (text : List (List WordValue) → List ℕ) (widths bytes : List ℕ) (cycles : List (List WordValue)) : Type 0 where
  pub fit : CyclesFit widths cycles
  pub spelled : bytes ≡ text cycles

-- the form of a stimulus for these widths, and that of a trace
abbrev pub IsStimulus : List ℕ → List (List WordValue) → List ℕ → Type 0
IsStimulus widths cycles bytes = IsText stimulus_text widths bytes cycles

abbrev pub IsTrace : List ℕ → List (List WordValue) → List ℕ → Type 0
IsTrace widths cycles bytes = IsText trace_text widths bytes cycles
