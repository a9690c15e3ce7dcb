use Rattle.v_rules.proofs.Written.{assigned_begins, assigned_next, assigned_ends}
use Rattle.v_rules.proofs.targets.first_assigned_again.Goals as goal

pub loop-ident-init : goal.loop-ident-init
loop-ident-init c = assigned_begins _ _ c.no_names-met.ensures

pub loop-ident-preserved : goal.loop-ident-preserved
loop-ident-preserved c = assigned_next _ _ _ _ _ _ _ _ _ _ c.loop-ident-test.true c.ident-item.is c.bytes.ensures.value c.in_ok-added.ensures c.note-first.ensures c.loop-ident.invariant

pub returns : goal.returns
returns c = assigned_ends _ _ _ _ c.loop-ident-test.false c.loop-ident.invariant
