use Rattle.std.proofs.Common.{rules}
use Rattle.n_text.proofs.Forming.{clock_named, fits_two, ports_named}
use Rattle.n_text.proofs.printing.print.Goals as goal

pub returns-clause-form : goal.returns-clause-form
returns-clause-form c = record {
  lines = c.name.ensures.formed.begun.lines;
  fits = fits_two c.args.netlist.now c.name.ensures.formed;
  name = search rules;
  clock = clock_named _ (search rules);
  inputs = ports_named _ (search rules);
  flops = search rules;
  cells = search rules;
  outputs = ports_named _ (search rules);
  nets = search rules;
}
