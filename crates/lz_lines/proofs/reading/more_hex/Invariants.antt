use Rattle.std.proofs.Common.{◌≡◌, ◌<◌, ◌≤◌, ◌^◌, ◌-◌, ◌*◌, length}
use Rattle.lz_lines.specs.Digits.{more_hex}
use Rattle.lz_lines.proofs.reading.more_hex.Given as goal

abbrev pub invariant-loop : goal.invariant-loop
invariant-loop l = record {
  same : more_hex (l.count - l.counter) l.read l.left ≡ more_hex l.count l.value l.bytes;
  room : l.read < 2 ^ (128 - 4 * (l.count - l.counter));
  within : length l.left ≤ length l.bytes;
}
