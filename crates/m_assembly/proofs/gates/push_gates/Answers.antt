use Rattle.m_assembly.proofs.Ascending.{gates_next, left_ascends, left_next}
use Rattle.m_assembly.proofs.gates.push_gates.Goals as goal

pub push_gate-requires : goal.push_gate-requires
push_gate-requires c = left_ascends _ _ _ _ _ c.from_root-rest.ensures c.node.ensures c.loop-gate.invariant.left

pub loop-gate-preserved : goal.loop-gate-preserved
loop-gate-preserved c = record {
  made = gates_next _ _ _ _ _ _ c.args.gates.now c.loop-gate.gate-index _ _ c.loop-gate-test.true c.from_root-rest.ensures c.node.ensures c.loop-gate.invariant.left c.in_ok-push_gate.ensures c.loop-gate.invariant.made;
  left = left_next _ _ _ c.loop-gate.draft c.push_gate.new.draft c.args.gates.now c.loop-gate.gate-index _ _ c.from_root-rest.ensures c.node.ensures c.in_ok-push_gate.ensures c.loop-gate.invariant.left;
}
