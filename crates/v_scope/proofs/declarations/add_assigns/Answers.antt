use Rattle.v_scope.proofs.Adding.{each_next, each_ends}
use Rattle.v_scope.proofs.declarations.add_assigns.Goals as goal

pub loop-setting-preserved : goal.loop-setting-preserved
loop-setting-preserved c = each_next _ _ _ _ _ _ _ c.loop-setting-test.true c.setting-item.is c.in_ok-add_assign.ensures c.loop-setting.invariant

pub returns : goal.returns
returns c = each_ends _ _ _ _ _ c.loop-setting-test.false c.loop-setting.invariant
