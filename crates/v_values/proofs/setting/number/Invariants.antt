use Rattle.std.proofs.Common.{◌≡◌, ◌<◌, take}
use Rattle.std.specs.Prelude.{◌^◌, reverse}
use Rattle.lz_base.specs.Bits.{number_of}
use Rattle.v_values.proofs.setting.number.Given as goal

abbrev pub invariant-loop-bit : goal.invariant-loop-bit
invariant-loop-bit l = record {
  value : l.all ≡ number_of (reverse (take l.bit-index l.bits));
  below : l.all < 2 ^ l.bit-index;
}
