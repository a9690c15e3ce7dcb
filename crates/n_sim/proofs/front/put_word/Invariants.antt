use Rattle.std.proofs.Common.{◌≡◌, ◌+◌, ◌-◌, ◌++◌, length, take}
use Rattle.lz_base.specs.Bits.{low_bits}
use Rattle.n_sim.proofs.front.put_word.Given as goal

abbrev pub invariant-loop : goal.invariant-loop
invariant-loop l =
    (l.next ≡ l.initial.next + l.counter) × (length l.nets ≡ length l.initial.nets)
    × (take l.next l.nets ++ low_bits (l.width - l.counter) l.value ≡ take l.initial.next l.initial.nets ++ low_bits l.width l.initial.value)
