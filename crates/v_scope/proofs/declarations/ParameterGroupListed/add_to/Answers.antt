use Rattle.v_meaning.specs.Marks.{setting_marks}
use Rattle.v_scope.proofs.Adding.{then_each}
use Rattle.v_scope.proofs.declarations.ParameterGroupListed.add_to.Goals as goal

pub returns : goal.returns
returns c = then_each c.add_each.result _ _ _ _ setting_marks _ _ c.as_slice.ensures c.in_ok-add_some_range.ensures c.add_each.ensures
