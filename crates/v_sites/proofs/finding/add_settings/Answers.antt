use Rattle.v_sites.specs.Adding.{setting_sites, is_sound_setting}
use Rattle.v_sites.proofs.Adding.{each_next, each_ends}
use Rattle.v_sites.proofs.finding.add_settings.Goals as goal

pub loop-setting-preserved : goal.loop-setting-preserved
loop-setting-preserved c = each_next (is_sound_setting c.args.names.now) (setting_sites c.args.names.now) c.loop-setting-test.true c.setting-item.is c.in_ok-add_expr.ensures c.loop-setting.invariant

pub returns : goal.returns
returns c = each_ends (is_sound_setting c.args.names.now) (setting_sites c.args.names.now) c.loop-setting-test.false c.loop-setting.invariant
