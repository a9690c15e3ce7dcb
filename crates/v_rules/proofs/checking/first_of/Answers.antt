use Rattle.std.proofs.Common.{refl}
use Rattle.lz_base.specs.declared.rule.Rule.TheVariants as r
use Rattle.v_meaning.specs.Uses.{uses_of}
use Rattle.v_rules.proofs.Rules.{of_rule}
use Rattle.v_rules.proofs.checking.first_of.Goals as goal

pub returns-in-P1 : goal.returns-in-P1
returns-in-P1 c = of_rule c.first_wrong_clock.result c.args.names.now c.args.module.now _ r.P1 c.in-P1.is (λ first h. h (uses_of c.args.names.now c.args.module.now) refl c.requires.seen) c.first_wrong_clock.ensures

pub returns-in-P2 : goal.returns-in-P2
returns-in-P2 c = of_rule c.first_wrong_target.result c.args.names.now c.args.module.now _ r.P2 c.in-P2.is (λ first h. h (uses_of c.args.names.now c.args.module.now) refl c.requires.seen) c.first_wrong_target.ensures

pub returns-in-P3 : goal.returns-in-P3
returns-in-P3 c = of_rule c.first_written_again.result c.args.names.now c.args.module.now _ r.P3 c.in-P3.is (λ first h. h (uses_of c.args.names.now c.args.module.now) c.requires.seen) c.first_written_again.ensures

pub returns-in-P4 : goal.returns-in-P4
returns-in-P4 c = of_rule c.first_mixed_kind.result c.args.names.now c.args.module.now _ r.P4 c.in-P4.is (λ first h. h (uses_of c.args.names.now c.args.module.now) c.requires.seen) c.first_mixed_kind.ensures

pub returns-in-P5 : goal.returns-in-P5
returns-in-P5 c = of_rule c.first_read_elsewhere.result c.args.names.now c.args.module.now _ r.P5 c.in-P5.is (λ first h. h (uses_of c.args.names.now c.args.module.now) c.requires.seen c.requires.clocked) c.first_read_elsewhere.ensures

pub returns-in-P6 : goal.returns-in-P6
returns-in-P6 c = of_rule c.first_wrong_assign.result c.args.names.now c.args.module.now _ r.P6 c.in-P6.is (λ first h. h (uses_of c.args.names.now c.args.module.now) refl c.requires.seen) c.first_wrong_assign.ensures

pub returns-in-P7 : goal.returns-in-P7
returns-in-P7 c = of_rule c.first_circular.result c.args.names.now c.args.module.now _ r.P7 c.in-P7.is (λ first h. h (uses_of c.args.names.now c.args.module.now) c.requires.seen c.requires.clocked) c.first_circular.ensures

pub returns-in-P8 : goal.returns-in-P8
returns-in-P8 c = of_rule c.first_read_through.result c.args.names.now c.args.module.now _ r.P8 c.in-P8.is (λ first h. h (uses_of c.args.names.now c.args.module.now) c.requires.seen c.requires.clocked) c.first_read_through.ensures

pub returns-in-W1 : goal.returns-in-W1
returns-in-W1 c = of_rule c.weight_place.result c.args.names.now c.args.module.now _ r.W1 c.in-W1.is (λ first h. h) c.weight_place.ensures
