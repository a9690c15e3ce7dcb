-- A word, as contracts see it.
use Rattle.std.specs.Prelude.{ℕ}

-- a width in bits and a value; a word has 1 to 128 bits and a value below 2 ^ width
pub record WordValue : Type 0 where
  pub width : ℕ
  pub value : ℕ
