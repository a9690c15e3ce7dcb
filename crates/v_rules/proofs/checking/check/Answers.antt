use Rattle.v_rules.proofs.Rules.{of_module, same_fault, same_none}
use Rattle.v_rules.proofs.checking.check.Goals as goal

pub first_broken-requires-clause-seen : goal.first_broken-requires-clause-seen
first_broken-requires-clause-seen c = c.in_ok-uses.ensures c.args.names.now

pub returns-clause-refused : goal.returns-clause-refused
returns-clause-refused c = same_fault c.first_broken.result _ _ (of_module c.args.module.now c.args.names.now c.requires.declared) c.first_broken.ensures.refused

pub returns-clause-accepted : goal.returns-clause-accepted
returns-clause-accepted c = same_none c.first_broken.result _ _ (of_module c.args.module.now c.args.names.now c.requires.declared) c.first_broken.ensures.accepted
