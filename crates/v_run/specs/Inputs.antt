-- What the texts of a run have to hold for a design.
use Rattle.std.specs.Prelude.{ℕ, length}
use Rattle.v_meaning.specs.Designs.{Design}

-- how many processes the schedules of a design name
abbrev pub process_count : Design → ℕ
process_count d = length d.clocked
