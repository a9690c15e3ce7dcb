use Rattle.std.proofs.Common.{map, ap, ◌∙◌, rules}
use Rattle.v_uses.specs.Gathered.{written_in}
use Rattle.v_rules.specs.Groups.{idents_in}
use Rattle.v_rules.proofs.Gathered.{assign_targets_are, targets_are, process_targets_are}
use Rattle.v_rules.proofs.Nets.{targets_judged, unwritable_in, unassignable_in}
use Rattle.v_rules.proofs.targets.first_wrong_target.Goals as goal

pub returns : goal.returns
returns c u named seen =
    targets_judged u c.args.names.now _ _ _ _ named
    (process_targets_are u _ _ (ap idents_in c.deref-2.ensures.value ∙ targets_are _ _ c.in_ok-written.ensures) (ap (map written_in) c.deref.ensures.value ∙ c.in_ok-writes.ensures u seen))
    (ap idents_in c.deref-3.ensures.value ∙ assign_targets_are c.args.uses.now u _ _ c.as_slice.ensures c.in_ok-assigned.ensures seen)
    (c.first_among-first.ensures (unwritable_in c.args.names.now) (λ n r met. search rules))
    (c.first_among.ensures (unassignable_in c.args.names.now) (λ n r met. search rules))
