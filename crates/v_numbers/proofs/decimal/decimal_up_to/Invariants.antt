-- What the loop over the digits keeps.
use Rattle.std.proofs.Common.{◌≡◌, ◌≤◌, drop, min}
use Rattle.v_meaning.specs.Literals.{decimal_value, digit_value, digits_in, number_behind}
use Rattle.v_numbers.proofs.decimal.decimal_up_to.Given as goal

abbrev pub invariant-loop-byte : goal.invariant-loop-byte
invariant-loop-byte l = record {
  within : l.value ≤ l.limit;
  same : min (number_behind l.value 10 digit_value (digits_in (drop l.byte-index l.bytes))) l.limit ≡ min (decimal_value l.bytes) l.limit;
}
