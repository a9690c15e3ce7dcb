use Rattle.std.proofs.Common.{refl}
use Rattle.v_meaning.specs.ProcessRules.{never_assigned}
use Rattle.v_rules.proofs.Rounds.{ended}
use Rattle.v_rules.proofs.Nets.{next_unassigned}
use Rattle.v_rules.proofs.targets.first_never_assigned.Goals as goal

pub loop-entry-preserved : goal.loop-entry-preserved
loop-entry-preserved c names met = next_unassigned names _ _ _ _ _ _ _ _ c.loop-entry-test.true c.entry-item.is (c.is_unassigned.ensures names met) c.note-first.ensures (c.loop-entry.invariant names met)

pub returns : goal.returns
returns c names met = ended (never_assigned names) _ _ _ _ c.loop-entry-test.false refl (c.loop-entry.invariant names met)
