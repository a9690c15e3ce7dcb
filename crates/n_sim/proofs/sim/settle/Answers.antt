use Rattle.std.proofs.Common.{◌≡◌, ◌∙◌, ◌∷◌, ◌++◌, ap, arith, true, false}
use Rattle.lz_base.specs.Bits.{words_bits}
use Rattle.n_cells.specs.Netlist.{cell_nets, first_net}
use Rattle.n_cells.specs.Walk.{all_values, walked}
use Rattle.n_sim.proofs.Words.{bits_fit}
use Rattle.n_sim.proofs.sim.settle.Goals as goal

pub put_front-first-requires : goal.put_front-first-requires
put_front-first-requires c = omega (arith, bits_fit c.args.netlist.now.inputs c.args.input.now c.requires.input)

pub put_cells-requires-clause-room : goal.put_cells-requires-clause-room
put_cells-requires-clause-room c = omega (arith, bits_fit c.args.netlist.now.inputs c.args.input.now c.requires.input, ap cell_nets c.requires.gates)

pub put_cells-requires-clause-there : goal.put_cells-requires-clause-there
put_cells-requires-clause-there c =
    let first : c.put_front-first.result ≡ first_net c.args.netlist.now.inputs c.args.netlist.now.flops = omega (arith, bits_fit c.args.netlist.now.inputs c.args.input.now c.requires.input) in
    rw (first, c.requires.gates) c.requires.formed.begun.cells

pub returns : goal.returns
returns c =
    let front = false ∷ true ∷ words_bits c.args.input.now ++ c.args.state.now in
    let all : c.put_cells.new.nets ≡ walked c.args.netlist.now c.args.input.now c.args.state.now =
    c.put_cells.ensures ∙ ap (λ l. all_values l c.args.gates.now) c.put_front-first.ensures.values ∙ ap (all_values front) c.requires.gates in
    rw all (c.net_after_net.ensures c.args.netlist.now c.args.input.now c.args.state.now c.requires.formed c.requires.input c.requires.state)
