use Rattle.v_meaning.specs.ConstantRules.{item_faults}
use Rattle.v_meaning.specs.Declarations.{behind_item}
use Rattle.v_declare.proofs.Walking.{Along}
use Rattle.v_declare.proofs.declaring.declare_items.Given as goal

abbrev pub invariant-loop-item : goal.invariant-loop-item
invariant-loop-item l = Along item_faults (behind_item l.roles) l.initial.names l.items l.item-index l.names
