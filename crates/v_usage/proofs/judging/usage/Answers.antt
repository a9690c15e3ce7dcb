use Rattle.v_usage.proofs.Least.{of_module, same_fault, same_none}
use Rattle.v_usage.proofs.judging.usage.Goals as goal

pub returns-clause-refused : goal.returns-clause-refused
returns-clause-refused c =
    same_fault c.first_broken.result _ _ (of_module c.args.module.now c.args.names.now _ _ c.requires.declared c.as_slice.ensures.value c.in_ok-found.ensures) c.first_broken.ensures.refused

pub returns-clause-accepted : goal.returns-clause-accepted
returns-clause-accepted c =
    same_none c.first_broken.result _ _ (of_module c.args.module.now c.args.names.now _ _ c.requires.declared c.as_slice.ensures.value c.in_ok-found.ensures) c.first_broken.ensures.accepted
