use Rattle.std.proofs.Common.{ap}
use Rattle.v_meaning.specs.Marks.{variable_marks}
use Rattle.v_scope.proofs.Adding.{same_end, then_end}
use Rattle.v_scope.proofs.declarations.VariableListed.add_to.Goals as goal

pub returns-in-Plain : goal.returns-in-Plain
returns-in-Plain c = same_end c.add_to.result _ _ _ _ (λ names. ap (variable_marks names) c.in-Plain.is) c.add_to.ensures

pub returns-in_ok-add-in-Memory : goal.returns-in_ok-add-in-Memory
returns-in_ok-add-in-Memory c = then_end c.add_range.result _ _ _ _ _ _ (λ names. ap (variable_marks names) c.in-Memory.is) c.in_ok-add-in-Memory.ensures c.add_range.ensures
