use Rattle.std.proofs.Common.{◌<◌, length, arith}
use Rattle.n_cells.specs.Netlist.{names_of}
use Rattle.s_flow.proofs.Names.{new_item}
use Rattle.s_flow.proofs.making.push_outputs.Goals as goal

pub output-requires-clause-new_name : goal.output-requires-clause-new_name
output-requires-clause-new_name c =
    let within : c.loop-index.index < length c.args.names.now = omega arith in
    rw c.in_ok-clone.ensures.cases (new_item c.args.names.now c.loop-index.index c.index-names-index.result (names_of c.loop-index.maker) within c.index-names-index.is c.loop-index.invariant.distinct)
