use Rattle.v_core.specs.Statements.{is_met_in}
use Rattle.v_machine.proofs.StmtLaws.{met_found}
use Rattle.v_machine.proofs.cases.met_arm.Goals as goal

pub returns-then-is_met-clause-taken : goal.returns-then-is_met-clause-taken
returns-then-is_met-clause-taken c = λ otherwise.
    met_found (is_met_in c.args.names.now c.args.now.now.view c.args.subject) c.args.arms.now _ _ c.args.names.now otherwise _ c.loop-i-test.true c.is_met.ensures c.if-is_met.true
    (c.loop-i.invariant otherwise)
