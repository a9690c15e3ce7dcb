use Rattle.v_meaning.specs.Uses.{item_assign_uses}
use Rattle.v_uses.specs.Adding.{assigns_seen}
use Rattle.v_uses.proofs.Adding.{Each}
use Rattle.v_uses.proofs.gathering.assigns.Given as goal

abbrev pub invariant-loop-item : goal.invariant-loop-item
invariant-loop-item l = Each assigns_seen item_assign_uses l.items l.item-index l.initial.all l.all
