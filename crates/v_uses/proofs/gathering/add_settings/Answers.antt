use Rattle.v_uses.specs.Adding.{setting_use}
use Rattle.v_uses.proofs.Adding.{each_next, each_ends}
use Rattle.v_uses.proofs.gathering.add_settings.Goals as goal

pub loop-setting-preserved : goal.loop-setting-preserved
loop-setting-preserved c = each_next setting_use c.loop-setting-test.true c.setting-item.is c.in_ok-add_assign.ensures c.loop-setting.invariant

pub returns : goal.returns
returns c = each_ends setting_use c.loop-setting-test.false c.loop-setting.invariant
