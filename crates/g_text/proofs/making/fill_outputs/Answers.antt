use Rattle.std.proofs.Common.{◌≡◌, ◌<◌, ◌∙◌, ap, List, ℕ, Some, slice_get, length, sym, subst, arith}
use Rattle.lz_base.specs.Names.{IsNew}
use Rattle.lz_base.proofs.Lists.{item_there}
use Rattle.g_net.specs.declared.network.Output.{Output}
use Rattle.g_net.specs.Network.{names_of}
use Rattle.g_text.proofs.Filling.{next_new}
use Rattle.g_text.proofs.making.fill_outputs.Goals as goal

pub output-requires-clause-new_name : goal.output-requires-clause-new_name
output-requires-clause-new_name c =
    let outputs = c.args.outputs.now in
    let i = c.loop-output.output-index in
    let o = c.output-item.result in
    let bound : i < length outputs = omega arith in
    let here : slice_get outputs i ≡ Some o = item_there outputs i o bound c.output-item.is in
    let same : c.in_ok-name.name ≡ o.name = c.in_ok-name.ensures ∙ ap (λ (o : Output). o.name) c.output.view_is in
    subst (λ (name : List ℕ). IsNew name (names_of c.loop-output.network)) (sym same) (next_new (λ (o : Output). o.name) (names_of c.loop-output.network) outputs i o here c.loop-output.invariant.names)
