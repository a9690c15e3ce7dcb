-- What the literal of a right number keeps.
use Rattle.std.specs.Prelude.{◌≤◌, ◌<◌, ◌+◌, ◌^◌}
use Rattle.v_meaning.specs.declared.literal.Literal.{Literal}

-- It has 1 to 128 bits, and its masks together stay below 2 ^ width, so that a value with any bits for x does too.
pub record IsFit (l : Literal) : Type 0 where
  pub has_bit : 1 ≤ l.width
  pub within : l.width ≤ 128
  pub together : l.ones + l.unknown + l.impedance < 2 ^ l.width
