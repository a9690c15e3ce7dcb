-- How moments are seen.
use Rattle.std.specs.Prelude.{ℕ, ◌<◌, ◌^◌, List, length, map, slice_index}
use Rattle.lz_base.specs.WordValue.{WordValue}
use Rattle.v_values.specs.Moments.{MemoryValue}

abbrev pub values_of : List WordValue → List ℕ
values_of words = map (λ (w : WordValue). w.value) words

abbrev pub widths_of : List WordValue → List ℕ
widths_of words = map (λ (w : WordValue). w.width) words

abbrev pub all_words : List MemoryValue → List (List ℕ)
all_words memories = map (λ (m : MemoryValue). m.words) memories

abbrev pub all_widths : List MemoryValue → List ℕ
all_widths memories = map (λ (m : MemoryValue). m.width) memories

-- how many words each has
abbrev pub all_counts : List MemoryValue → List ℕ
all_counts memories = map (λ (m : MemoryValue). length m.words) memories

-- each word is below 2 ^ width
abbrev pub AreBelow : ℕ → List ℕ → Type 0
AreBelow width words = (i : ℕ) → slice_index words i < 2 ^ width
