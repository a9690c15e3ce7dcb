use Rattle.v_meaning.specs.Weights.{declared_weight}
use Rattle.v_weight.proofs.Lists.{Sums}
use Rattle.v_weight.proofs.modules.weigh_declarations.Given as goal

abbrev pub invariant-loop-entry : goal.invariant-loop-entry
invariant-loop-entry l = Sums declared_weight l.entries l.entry-index l.all
