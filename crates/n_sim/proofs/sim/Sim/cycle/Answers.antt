use Rattle.std.proofs.Common.{length, ap, sym, ◌∙◌}
use Rattle.n_sim.proofs.Words.{fit_length}
use Rattle.n_sim.proofs.sim.Sim.cycle.Goals as goal

pub show-requires-clause-out : goal.show-requires-clause-out
show-requires-clause-out c =
    fit_length c.args.self.now.netlist.outputs c.args.out.now c.requires.out ∙ ap (λ v. length v.netlist.outputs) (sym c.self.view_is)
