-- The one spelling of schedules.
use Rattle.std.specs.Prelude.{◌≡◌, ℕ, ◌<◌, List, [], ◌∷◌, ◌++◌, length, codes, flat_map}
use Rattle.lz_lines.specs.Fields.{Each, number}
use Rattle.lz_lines.specs.Forms.{IsLineEnd}
use Rattle.t_choices.specs.Repeated.{last_line}

-- numbers of processes, of which there are so many
abbrev pub AreProcesses : ℕ → List ℕ → Type 0
AreProcesses processes entries = Each (λ n. n < processes) entries

-- cycle N ..
abbrev pub cycle_line : List ℕ → List ℕ
cycle_line entries = codes "cycle" ++ flat_map number entries ++ 10 ∷ []

abbrev pub first_line : List ℕ
first_line = codes "schedule 1" ++ 10 ∷ []

-- the first line, a line for each cycle, and the last line
abbrev pub schedule_text : List (List ℕ) → List ℕ
schedule_text cycles = first_line ++ flat_map cycle_line cycles ++ last_line

-- the end of the line stands behind
abbrev pub BeforeEnd : {V : Type 0} → V → List ℕ → Type 0
BeforeEnd value behind = IsLineEnd behind

-- These bytes are the text of these schedules, for so many processes and cycles.
pub record IsSchedule (processes count : ℕ) (schedule : List (List ℕ)) (bytes : List ℕ) : Type 0 where
  pub fit : Each (AreProcesses processes) schedule
  pub many : length schedule ≡ count
  pub spelled : bytes ≡ schedule_text schedule
