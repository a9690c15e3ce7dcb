use Rattle.v_sites.specs.Adding.{setting_sites, is_sound_setting}
use Rattle.v_sites.proofs.Adding.{Each}
use Rattle.v_sites.proofs.finding.add_settings.Given as goal

abbrev pub invariant-loop-setting : goal.invariant-loop-setting
invariant-loop-setting l = Each (is_sound_setting l.names) (setting_sites l.names) l.settings l.setting-index l.initial.found l.found
