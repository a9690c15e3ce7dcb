-- What was read so far, with no fault.
use Rattle.std.proofs.Common.{vec_len, ◌-◌, ◌≡◌, ◌≤◌}
use Rattle.std.specs.Io.KnownBytes.{Consumes}
use Rattle.lz_base.proofs.transfer.read_up_to.Given as goal

abbrev pub invariant-loop-piece : goal.invariant-loop-piece
invariant-loop-piece g l =
    (vec_len l.bytes ≤ l.most)
    × Consumes (g.F.Files.rest l.initial.files) (g.F.Files.rest l.files) l.bytes.items
    × (g.F.Files.told l.files ≡ g.F.Files.told l.initial.files)
    × (g.F.Files.faults l.files ≡ g.F.Files.faults l.initial.files)

abbrev pub decreases-loop-piece : goal.decreases-loop-piece
decreases-loop-piece g l = l.most - vec_len l.bytes
