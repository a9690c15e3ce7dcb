use Rattle.std.proofs.Common.{◌≡◌, flat_map, take}
use Rattle.v_uses.specs.declared.gathered.ProcessUses.{ProcessUses}
use Rattle.v_rules.proofs.idents.process_reads.Given as goal

abbrev pub invariant-loop-process : goal.invariant-loop-process
invariant-loop-process l = l.idents.items ≡ flat_map (λ (x : ProcessUses). x.reads) (take l.process-index l.process-items)
