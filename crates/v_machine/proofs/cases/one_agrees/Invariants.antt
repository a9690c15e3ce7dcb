use Rattle.std.proofs.Common.{◌≡◌, drop}
use Rattle.std.specs.List.{list_any}
use Rattle.v_core.specs.Statements.{is_met_in}
use Rattle.v_machine.proofs.cases.one_agrees.Given as goal

abbrev pub invariant-loop-item : goal.invariant-loop-item
invariant-loop-item l = list_any (is_met_in l.names l.now.view l.subject) (drop l.item-index l.items) ≡ list_any (is_met_in l.names l.now.view l.subject) l.items
