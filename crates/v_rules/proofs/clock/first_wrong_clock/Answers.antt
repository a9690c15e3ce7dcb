use Rattle.std.proofs.Common.{map, ap, ◌∙◌, rules}
use Rattle.v_uses.specs.Gathered.{written_in}
use Rattle.v_rules.specs.Groups.{idents_in, is_wrong_in}
use Rattle.v_rules.proofs.Gathered.{assign_targets_are, targets_are, process_targets_are}
use Rattle.v_rules.proofs.Nets.{clock_judged, clock_in}
use Rattle.v_rules.proofs.clock.first_wrong_clock.Goals as goal

pub returns : goal.returns
returns c u named seen =
    clock_judged u c.args.names.now _ _ _ _ _ _ _ _ _ _ named
    (ap idents_in c.as_slice-events.ensures.value ∙ c.in_ok-found.ensures u seen)
    (ap idents_in c.deref.ensures.value ∙ assign_targets_are c.args.uses.now u _ _ c.as_slice.ensures c.in_ok-assign_targets.ensures seen)
    (ap idents_in c.deref-2.ensures.value ∙ c.in_ok-assign_reads.ensures u seen)
    (process_targets_are u _ _ (ap idents_in c.deref-4.ensures.value ∙ targets_are _ _ c.in_ok-targets.ensures) (ap (map written_in) c.deref-3.ensures.value ∙ c.in_ok-writes.ensures u seen))
    (ap idents_in c.deref-5.ensures.value ∙ c.in_ok-process_reads.ensures u seen)
    (c.first_among-first.ensures (is_wrong_in c.args.names.now (idents_in c.as_slice-events.result.now)) (λ n r met. search rules))
    (c.first_among-first-2.ensures (clock_in c.args.names.now) (λ n r met. search rules))
    (c.first_among-first-3.ensures (clock_in c.args.names.now) (λ n r met. search rules))
    (c.first_among-first-4.ensures (clock_in c.args.names.now) (λ n r met. search rules))
    (c.first_among.ensures (clock_in c.args.names.now) (λ n r met. search rules))
