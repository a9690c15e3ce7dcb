-- How long the files are that the program reads.
use Rattle.std.specs.Prelude.{ℕ, ◌^◌}

-- the most bytes of a source
abbrev pub source_limit : ℕ
source_limit = 2 ^ 20

-- the most bytes of every other text
abbrev pub text_limit : ℕ
text_limit = 2 ^ 28
