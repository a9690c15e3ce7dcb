use Rattle.v_uses.specs.Adding.{assigns_seen, setting_use}
use Rattle.v_uses.proofs.Adding.{Each}
use Rattle.v_uses.proofs.gathering.add_settings.Given as goal

abbrev pub invariant-loop-setting : goal.invariant-loop-setting
invariant-loop-setting l = Each assigns_seen setting_use l.settings l.setting-index l.initial.all l.all
