use Rattle.std.proofs.Common.{◌≡◌, [], map}
use Rattle.std.proofs.lemmas.Result.{IfOk-weaker}
use Rattle.v_meaning.specs.Declarations.{names_of}
use Rattle.v_meaning.specs.Modules.{design_of}
use Rattle.v_meaning.specs.Uses.{Uses}
use Rattle.v_meaning.specs.ProcessRules.{assign_targets, assigned_again, circular, combinational_of}
use Rattle.v_uses.specs.Gathered.{uses_in}
use Rattle.v_uses.specs.Seen.{assign_seen, seen_of}
use Rattle.v_depends.specs.Orders.{IsOrder}
use Rattle.v_order.specs.Settling.{Settles}
use Rattle.v_order.proofs.ModuleOrder.{module_ordered}
use Rattle.v_order.proofs.ordering.order.Goals as goal

pub returns : goal.returns
returns c =
    let m = c.args.module.now in
    IfOk-weaker c.order.result
    (λ order. (u : Uses) → uses_in c.in_ok-uses.uses ≡ seen_of u → combinational_of u ≡ [] → assigned_again [] (assign_targets u) ≡ [] → circular u ≡ [] → IsOrder (map assign_seen u.assigns) order.items)
    (λ order. Settles (design_of m) order.items)
    (λ order h. module_ordered m order.items (uses_in c.in_ok-uses.uses) (c.in_ok-uses.ensures (names_of m)) c.requires.typed c.requires.kept c.requires.clocked h)
    c.order.ensures
