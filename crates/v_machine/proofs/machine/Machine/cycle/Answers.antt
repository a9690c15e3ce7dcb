use Rattle.v_machine.proofs.Outcomes.{every_is, outcome_is}
use Rattle.v_machine.proofs.machine.Machine.cycle.Goals as goal

pub returns-clause-outcome : goal.returns-clause-outcome
returns-clause-outcome c =
    outcome_is c.args.self.now _ _ _ _ _ _ c.self.view_is c.self.invariant.runs c.as_slice.ensures.value c.requires.choice _ _ c.run_cycle.ensures.shown c.run_cycle.ensures.next
    c.text_order_cycles.ensures

pub returns-clause-every : goal.returns-clause-every
returns-clause-every c =
    every_is c.args.self.now _ _ _ _ _ _ c.self.view_is c.self.invariant.runs c.as_slice.ensures.value c.requires.choice _ _ c.run_cycle.ensures.shown c.run_cycle.ensures.next
    c.any_order_cycles.ensures
