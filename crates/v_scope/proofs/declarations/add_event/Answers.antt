use Rattle.std.proofs.Common.{ap}
use Rattle.v_meaning.specs.Marks.{event_marks}
use Rattle.v_scope.proofs.Adding.{none_more, same_end}
use Rattle.v_scope.proofs.declarations.add_event.Goals as goal

pub returns-in-Posedge : goal.returns-in-Posedge
returns-in-Posedge c = same_end c.add.result _ _ _ _ (λ names. ap event_marks c.in-Posedge.is) c.add.ensures

pub returns-in-Any : goal.returns-in-Any
returns-in-Any c = none_more _ _ (λ names. ap event_marks c.in-Any.is)
