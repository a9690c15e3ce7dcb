use Rattle.std.proofs.Common.{ap}
use Rattle.v_meaning.specs.Marks.{module_item_marks}
use Rattle.v_scope.proofs.Adding.{same_end, then_end}
use Rattle.v_scope.proofs.ItemMarks.{when_wires, when_regs, when_assigns}
use Rattle.v_scope.proofs.declarations.ItemListed.add_to.Goals as goal

pub returns-in-Parameters : goal.returns-in-Parameters
returns-in-Parameters c = same_end c.add_to.result _ _ _ _ (λ names. ap (module_item_marks names) c.in-Parameters.is) c.add_to.ensures

pub returns-in-LocalParameters : goal.returns-in-LocalParameters
returns-in-LocalParameters c = same_end c.add_to-in-LocalParameters.result _ _ _ _ (λ names. ap (module_item_marks names) c.in-LocalParameters.is) c.add_to-in-LocalParameters.ensures

pub returns-in_ok-add_some_range-in-Wires : goal.returns-in_ok-add_some_range-in-Wires
returns-in_ok-add_some_range-in-Wires c =
    then_end c.add_each.result _ _ _ _ _ _ (when_wires _ _ _ _ _ c.in-Wires.is c.as_slice.ensures) c.in_ok-add_some_range-in-Wires.ensures c.add_each.ensures

pub returns-in_ok-add_some_range-in-Regs : goal.returns-in_ok-add_some_range-in-Regs
returns-in_ok-add_some_range-in-Regs c =
    then_end c.add_each-in-Regs.result _ _ _ _ _ _ (when_regs _ _ _ _ _ c.in-Regs.is c.as_slice-in-Regs.ensures) c.in_ok-add_some_range-in-Regs.ensures c.add_each-in-Regs.ensures

pub returns-in-Assigns : goal.returns-in-Assigns
returns-in-Assigns c = same_end c.add_assigns.result _ _ _ _ (when_assigns _ _ _ c.in-Assigns.is c.as_slice-in-Assigns.ensures) c.add_assigns.ensures

pub returns-in_ok-add_event-in-Always : goal.returns-in_ok-add_event-in-Always
returns-in_ok-add_event-in-Always c = then_end c.add_stmt.result _ _ _ _ _ _ (λ names. ap (module_item_marks names) c.in-Always.is) c.in_ok-add_event-in-Always.ensures c.add_stmt.ensures
