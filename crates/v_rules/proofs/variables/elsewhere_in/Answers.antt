use Rattle.std.proofs.Common.{[]}
use Rattle.v_rules.proofs.Shared.{elsewhere_found}
use Rattle.v_rules.proofs.variables.elsewhere_in.Goals as goal

pub returns : goal.returns
returns c ms ss m s =
    elsewhere_found ms ss c.args.process.now _ _ _ _ _ _ _ c.as_slice.ensures c.as_slice-2.ensures c.in_ok-blocking.ensures c.deref.ensures.value (c.in_ok-meet_each.ensures [] c.no_names-own.ensures)
    (λ os o. c.elsewhere_among.ensures ms ss os m s o)
