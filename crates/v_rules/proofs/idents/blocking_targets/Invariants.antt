use Rattle.std.proofs.Common.{◌≡◌, ◌++◌, drop, map}
use Rattle.v_uses.specs.Gathered.{written_in}
use Rattle.v_rules.specs.Groups.{idents_in, blocking_in}
use Rattle.v_rules.proofs.idents.blocking_targets.Given as goal

abbrev pub invariant-loop-write : goal.invariant-loop-write
invariant-loop-write l = idents_in l.idents.items ++ blocking_in (map written_in (drop l.write-index l.writes)) ≡ blocking_in (map written_in l.writes)
