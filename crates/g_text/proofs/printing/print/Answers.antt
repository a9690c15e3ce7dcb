use Rattle.std.proofs.Common.{rules}
use Rattle.g_text.proofs.Filling.{ports_are}
use Rattle.g_text.proofs.printing.print.Goals as goal

pub returns-clause-form : goal.returns-clause-form
returns-clause-form c = record {
  name = search rules;
  clock = search rules;
  inputs = ports_are c.args.network.now.inputs c.name.ensures.formed.lines.inputs (search rules);
  clocked = c.name.ensures.formed.lines.clocked;
  flips = search rules;
  gates = search rules;
  outputs = search rules;
}
