use Rattle.v_meaning.specs.Uses.{item_process_uses}
use Rattle.v_uses.specs.Adding.{processes_seen}
use Rattle.v_uses.proofs.Adding.{Each}
use Rattle.v_uses.proofs.gathering.processes.Given as goal

abbrev pub invariant-loop-item : goal.invariant-loop-item
invariant-loop-item l = Each processes_seen item_process_uses l.items l.item-index l.initial.all l.all
