use Rattle.n_parts.proofs.Filling.{start_names}
use Rattle.n_parts.proofs.making.fill.Goals as goal

pub fill_inputs-requires-clause-names : goal.fill_inputs-requires-clause-names
fill_inputs-requires-clause-names c = start_names c.args.maker.now c.args.inputs.now c.args.outputs.now c.requires.bare c.requires.formed.begun.names
