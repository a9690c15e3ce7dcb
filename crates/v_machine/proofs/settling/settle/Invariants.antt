use Rattle.std.proofs.Common.{◌≡◌, drop, map}
use Rattle.v_core.specs.Cores.{assign_in}
use Rattle.v_order.specs.Settling.{all_computed, elements_at}
use Rattle.v_machine.proofs.settling.settle.Given as goal

abbrev pub invariant-loop-number : goal.invariant-loop-number
invariant-loop-number l = record {
  view : all_computed l.now.view (elements_at (map (assign_in l.names) l.assigns) (drop l.number-index l.order))
      ≡ all_computed l.fn.now.view (elements_at (map (assign_in l.names) l.assigns) l.order);
  shape : l.now.shape ≡ l.fn.now.shape;
}
