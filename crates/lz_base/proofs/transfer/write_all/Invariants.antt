-- The first bytes went out, with no fault.
use Rattle.std.proofs.Common.{length, ◌-◌, ◌≡◌, ◌≤◌, take, is_some}
use Rattle.std.specs.Io.KnownBytes.{Appends}
use Rattle.lz_base.proofs.transfer.write_all.Given as goal

abbrev pub invariant-loop-sent : goal.invariant-loop-sent
invariant-loop-sent g l =
    (l.sent ≤ length l.bytes)
    × Appends (g.S.Sink.written l.initial.sink) (g.S.Sink.written l.sink) (take l.sent l.bytes)
    × (is_some (g.S.Sink.written l.sink) ≡ is_some (g.S.Sink.written l.initial.sink))
    × (g.S.Sink.faults l.sink ≡ g.S.Sink.faults l.initial.sink)

abbrev pub decreases-loop-sent : goal.decreases-loop-sent
decreases-loop-sent g l = length l.bytes - l.sent
