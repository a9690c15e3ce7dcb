use Rattle.std.proofs.Common.{map, ap, ◌∙◌}
use Rattle.v_uses.specs.Gathered.{written_in}
use Rattle.v_rules.proofs.Written.{mixed_begins, mixed_next, mixed_ends}
use Rattle.v_rules.proofs.variables.first_mixed_kind.Goals as goal

pub loop-write-init : goal.loop-write-init
loop-write-init c = mixed_begins _ _ _ c.no_names-blocking.ensures c.no_names-nonblocking.ensures

pub loop-write-preserved : goal.loop-write-preserved
loop-write-preserved c = mixed_next _ _ _ _ _ _ _ _ _ _ c.loop-write-test.true c.write-item.is c.in_ok-first.ensures c.loop-write.invariant

pub returns : goal.returns
returns c u seen = mixed_ends u _ _ _ _ _ c.loop-write-test.false c.loop-write.invariant (ap (map written_in) c.deref-write-items.ensures.value ∙ c.in_ok-writes.ensures u seen)
