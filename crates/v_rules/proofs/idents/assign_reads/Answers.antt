use Rattle.v_rules.proofs.Gathered.{assign_reads_are}
use Rattle.v_rules.proofs.idents.assign_reads.Goals as goal

pub returns : goal.returns
returns c u seen = assign_reads_are c.args.uses.now u _ _ _ c.as_slice-assign-items.ensures c.loop-assign-test.false c.loop-assign.invariant seen
