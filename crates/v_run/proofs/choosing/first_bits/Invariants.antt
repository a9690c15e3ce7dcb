use Rattle.std.proofs.Common.{◌≡◌, ◌+◌, drop, map}
use Rattle.v_meaning.specs.Designs.{open_bits_of, total}
use Rattle.v_meaning.specs.Modules.{firsts_among}
use Rattle.v_run.proofs.choosing.first_bits.Given as goal

abbrev pub invariant-loop-entry : goal.invariant-loop-entry
invariant-loop-entry l = l.bits + total (map open_bits_of (firsts_among (drop l.entry-index l.entry-items))) ≡ total (map open_bits_of (firsts_among l.entry-items))
