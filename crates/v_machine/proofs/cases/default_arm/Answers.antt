use Rattle.v_machine.proofs.StmtLaws.{default_found}
use Rattle.v_machine.proofs.cases.default_arm.Goals as goal

pub returns-in-Default-clause-default : goal.returns-in-Default-clause-default
returns-in-Default-clause-default c = λ names. default_found c.args.arms.now _ _ names c.loop-i-test.true c.in-Default.is (c.loop-i.invariant names)
