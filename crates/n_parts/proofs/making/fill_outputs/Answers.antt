use Rattle.std.proofs.Common.{◌≡◌, ◌<◌, ◌∙◌, ap, List, ℕ, Some, slice_get, length, refl, sym, subst, arith}
use Rattle.std.proofs.lemmas.Option.{slice_get_read}
use Rattle.lz_base.specs.declared.name.Port.{Port}
use Rattle.lz_base.specs.Names.{IsNew}
use Rattle.lz_base.proofs.Lists.{get_or_is}
use Rattle.n_cells.specs.Netlist.{names_of}
use Rattle.n_parts.proofs.Filling.{next_new}
use Rattle.n_parts.proofs.making.fill_outputs.Goals as goal

pub output-requires-clause-new_name : goal.output-requires-clause-new_name
output-requires-clause-new_name c =
    let ports = c.args.ports.now in
    let i = c.loop-i.i in
    let bound : i < length ports = omega arith in
    let here : slice_get ports i ≡ Some c.index-ports-i.result = slice_get_read ports (length ports) i c.index-ports-i.result refl bound c.index-ports-i.is in
    let same : c.in_ok-name.name ≡ c.index-ports-i.result.name = c.in_ok-name.ensures ∙ ap (λ (p : Port). p.name) (get_or_is ports i c.index-ports-i.result c.index-ports-i.result here) in
    subst (λ (name : List ℕ). IsNew name (names_of c.loop-i.maker)) (sym same) (next_new (names_of c.loop-i.maker) ports i c.index-ports-i.result here c.loop-i.invariant.names)
