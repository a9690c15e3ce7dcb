use Rattle.std.proofs.Common.{◌<◌, length, arith}
use Rattle.n_cells.specs.Netlist.{names_of}
use Rattle.s_flow.proofs.Names.{new_item}
use Rattle.s_flow.proofs.making.push_inputs.Goals as goal

pub input-requires-clause-new_name : goal.input-requires-clause-new_name
input-requires-clause-new_name c =
    let within : c.loop-name.name-index < length c.args.names.now = omega arith in
    rw c.in_ok-clone.ensures.cases (new_item c.args.names.now c.loop-name.name-index c.name-item.result (names_of c.loop-name.maker) within c.name-item.is c.loop-name.invariant.distinct)
