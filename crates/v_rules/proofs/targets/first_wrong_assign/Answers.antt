use Rattle.std.proofs.Common.{[]}
use Rattle.v_rules.proofs.Gathered.{assign_targets_are}
use Rattle.v_rules.proofs.Nets.{assigns_are}
use Rattle.v_rules.proofs.targets.first_wrong_assign.Goals as goal

pub returns : goal.returns
returns c u named seen =
    assigns_are u c.args.names.now _ _ _ _ _ _ _ named (assign_targets_are c.args.uses.now u _ _ c.as_slice.ensures c.in_ok-targets.ensures seen) c.entries.ensures c.deref.ensures.value c.deref-2.ensures.value c.in_ok-first.ensures (c.in_ok-meet_each.ensures [] c.no_names-assigned.ensures)
    c.first_never_assigned.ensures
