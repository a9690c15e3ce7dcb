use Rattle.v_rules.proofs.Gathered.{writes_are}
use Rattle.v_rules.proofs.idents.writes.Goals as goal

pub returns : goal.returns
returns c u seen = writes_are c.args.uses.now u _ _ _ c.as_slice-process-items.ensures c.loop-process-test.false c.loop-process.invariant seen
