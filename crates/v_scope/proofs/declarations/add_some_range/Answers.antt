use Rattle.std.proofs.Common.{ap}
use Rattle.v_meaning.specs.Marks.{range_marks}
use Rattle.v_scope.proofs.Adding.{none_more, same_end}
use Rattle.v_scope.proofs.declarations.add_some_range.Goals as goal

pub returns-in-None : goal.returns-in-None
returns-in-None c = none_more _ _ (λ names. ap (range_marks names) c.in-None.is)

pub returns-in-Some : goal.returns-in-Some
returns-in-Some c = same_end c.add_range.result _ _ _ _ (λ names. ap (range_marks names) c.in-Some.is) c.add_range.ensures
