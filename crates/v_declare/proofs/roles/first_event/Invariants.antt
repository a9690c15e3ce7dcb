use Rattle.std.proofs.Common.{◌≡◌, drop}
use Rattle.v_meaning.specs.Declarations.{first_event}
use Rattle.v_declare.proofs.roles.first_event.Given as goal

abbrev pub invariant-loop-item : goal.invariant-loop-item
invariant-loop-item l = first_event (drop l.item-index l.items) ≡ first_event l.items
