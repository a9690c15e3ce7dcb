use Rattle.std.proofs.Common.{◌≡◌, ◌<◌, List, ℕ, Some, slice_get, length, refl, sym, subst, arith}
use Rattle.lz_base.specs.declared.name.Port.{Port}
use Rattle.lz_base.specs.Names.{IsNew}
use Rattle.lz_base.proofs.Lists.{item_there}
use Rattle.g_net.specs.Network.{names_of}
use Rattle.g_text.proofs.Filling.{next_new}
use Rattle.g_text.proofs.making.fill_inputs.Goals as goal

pub input-requires-clause-new_name : goal.input-requires-clause-new_name
input-requires-clause-new_name c =
    let ports = c.args.ports.now in
    let i = c.loop-port.port-index in
    let bound : i < length ports = omega arith in
    let here : slice_get ports i ≡ Some c.port-item.result = item_there ports i c.port-item.result bound c.port-item.is in
    subst (λ (name : List ℕ). IsNew name (names_of c.loop-port.network)) (sym c.in_ok-name.ensures) (next_new (λ (p : Port). p.name) (names_of c.loop-port.network) ports i c.port-item.result here c.loop-port.invariant.names)
