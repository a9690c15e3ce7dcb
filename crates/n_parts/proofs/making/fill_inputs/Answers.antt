use Rattle.std.proofs.Common.{◌≡◌, ◌<◌, List, ℕ, Some, slice_get, length, refl, sym, subst, arith}
use Rattle.std.proofs.lemmas.Option.{slice_get_read}
use Rattle.lz_base.specs.Names.{IsNew}
use Rattle.n_cells.specs.Netlist.{names_of}
use Rattle.n_parts.proofs.Filling.{next_new}
use Rattle.n_parts.proofs.making.fill_inputs.Goals as goal

pub input-requires-clause-new_name : goal.input-requires-clause-new_name
input-requires-clause-new_name c =
    let ports = c.args.ports.now in
    let i = c.loop-port.port-index in
    let bound : i < length ports = omega arith in
    let here : slice_get ports i ≡ Some c.port-item.result = slice_get_read ports (length ports) i c.port-item.result refl bound c.port-item.is in
    subst (λ (name : List ℕ). IsNew name (names_of c.loop-port.maker)) (sym c.in_ok-name.ensures) (next_new (names_of c.loop-port.maker) ports i c.port-item.result here c.loop-port.invariant.names)
