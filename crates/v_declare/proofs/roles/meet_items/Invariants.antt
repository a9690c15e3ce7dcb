use Rattle.std.proofs.Common.{◌∷◌, []}
use Rattle.v_syntax.specs.declared.module.Item.{Item}
use Rattle.v_meaning.specs.Declarations.{combinational_names}
use Rattle.v_declare.proofs.Written.{Each}
use Rattle.v_declare.proofs.roles.meet_items.Given as goal

abbrev pub invariant-loop-item : goal.invariant-loop-item
invariant-loop-item l = Each (λ (item : Item). combinational_names (item ∷ [])) l.items l.item-index l.initial.met l.met
