use Rattle.v_declare.specs.Groups.{setting_faults}
use Rattle.v_declare.proofs.Walking.{Left}
use Rattle.v_declare.proofs.groups.judge_settings.Given as goal

abbrev pub invariant-loop-setting : goal.invariant-loop-setting
invariant-loop-setting l = Left (setting_faults l.names) l.settings l.setting-index
