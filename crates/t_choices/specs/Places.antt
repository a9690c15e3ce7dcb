-- The bytes at which the entries of a schedule and the ends of its lines stand.
use Rattle.std.specs.Prelude.{ℕ, zero, suc, ◌+◌, List, [], ◌∷◌, ◌++◌, length, take, get_or, codes, flat_map}
use Rattle.lz_lines.specs.Fields.{number}
use Rattle.t_choices.specs.ScheduleTexts.{cycle_line, first_line}

-- the blank of the entry at an index; the end of the line has none
abbrev pub blank_of : List ℕ → ℕ → List ℕ
blank_of [] index = []
blank_of (n ∷ ns) zero = 32 ∷ []
blank_of (n ∷ ns) (suc index) = blank_of ns index

-- what a line has before an entry, or before its end
abbrev pub before_entry : List ℕ → ℕ → List ℕ
before_entry entries index = codes "cycle" ++ flat_map number (take index entries) ++ blank_of entries index

-- The place is the length of what the text has before it.
abbrev pub place_of : List (List ℕ) → ℕ → ℕ → ℕ
place_of cycles cycle index = length (first_line ++ flat_map cycle_line (take cycle cycles) ++ before_entry (get_or cycles cycle []) index)

-- The places that schedules keep, in their order, where the numbers, the fields of a line, or the lines begin at this byte. No
-- public clause names them.
abbrev pub number_places : ℕ → List ℕ → List ℕ
number_places at_ [] = []
number_places at_ (n ∷ ns) = (at_ + 1) ∷ number_places (at_ + length (number n)) ns

abbrev pub entry_places : ℕ → List ℕ → List ℕ
entry_places at_ entries = number_places at_ entries ++ (at_ + length (flat_map number entries)) ∷ []

abbrev pub cycle_places : ℕ → List (List ℕ) → List (List ℕ)
cycle_places at_ [] = []
cycle_places at_ (entries ∷ cycles) = entry_places (at_ + 5) entries ∷ cycle_places (at_ + length (cycle_line entries)) cycles
