use Rattle.std.proofs.Common.{refl}
use Rattle.v_rules.proofs.Rules.{rule_kept, rule_broken, rules_end}
use Rattle.v_rules.proofs.checking.first_broken.Goals as goal

pub loop-rule-preserved : goal.loop-rule-preserved
loop-rule-preserved c = rule_kept _ c.args.rules.now _ _ _ _ c.loop-rule-test.true refl c.in_ok-at.ensures c.in_default.is c.loop-rule.invariant

pub returns-in-Some-clause-refused : goal.returns-in-Some-clause-refused
returns-in-Some-clause-refused c = rw c.broken.ensures (rule_broken _ c.args.rules.now _ _ _ _ _ c.loop-rule-test.true refl c.in_ok-at.ensures c.in-Some.is c.loop-rule.invariant)

pub returns-clause-accepted : goal.returns-clause-accepted
returns-clause-accepted c = rules_end _ c.args.rules.now _ c.loop-rule-test.false c.loop-rule.invariant
