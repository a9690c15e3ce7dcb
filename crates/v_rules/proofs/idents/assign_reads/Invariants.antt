use Rattle.std.proofs.Common.{◌≡◌, flat_map, take}
use Rattle.v_uses.specs.declared.gathered.AssignUses.{AssignUses}
use Rattle.v_rules.proofs.idents.assign_reads.Given as goal

abbrev pub invariant-loop-assign : goal.invariant-loop-assign
invariant-loop-assign l = l.idents.items ≡ flat_map (λ (x : AssignUses). x.reads) (take l.assign-index l.assign-items)
