use Rattle.s_cli.proofs.Traced.{readied, undriven_source, unready}
use Rattle.s_cli.proofs.source_run.inputs_of.Goals as goal

pub returns-in-Err-clause-readies : goal.returns-in-Err-clause-readies
returns-in-Err-clause-readies c = λ a b d is _ _.
    unready (record { tokens = c.one_reading.ensures.tokens; place = c.one_reading.ensures.place; apart = c.one_reading.ensures.apart; modules = c.one_module.ensures }) _ c.in-Err.stop c.in-Err.ensures.prepares a b d is

pub returns-in-Err-driven_by-clause-readies : goal.returns-in-Err-driven_by-clause-readies
returns-in-Err-driven_by-clause-readies c = λ a b d is other last.
    undriven_source (record { tokens = c.one_reading.ensures.tokens; place = c.one_reading.ensures.place; apart = c.one_reading.ensures.apart; modules = c.one_module.ensures }) _ c.in-Ok.prepared c.in-Err-driven_by.stop c.in-Ok.ensures.prepares a b d is (c.in-Err-driven_by.ensures.drives b d other last)

pub returns-clause-readies : goal.returns-clause-readies
returns-clause-readies c = λ a b d is other last.
    readied (record { tokens = c.one_reading.ensures.tokens; place = c.one_reading.ensures.place; apart = c.one_reading.ensures.apart; modules = c.one_module.ensures }) _ c.in-Ok.prepared _ _ c.in-Ok.ensures.prepares a b d is (c.in-Ok-driven_by.ensures.drives b d other last)
