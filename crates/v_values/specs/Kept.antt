-- Targets that can be written: they keep to their widths, and their indices can be evaluated.
use Rattle.std.specs.Prelude.{ℕ, List, map, Bool, ◌&&◌}
use Rattle.v_meaning.specs.declared.names.Entry.{Entry}
use Rattle.v_meaning.specs.Targets.{TargetSense}
use Rattle.v_core.specs.declared.statement.TypedTarget.{TypedTarget}
use Rattle.v_core.specs.FormedCores.{target_form}
use Rattle.v_core.specs.SitedCores.{is_sited_target}
use Rattle.v_core.specs.Statements.{target_in}

abbrev pub is_kept_target : TypedTarget → List Entry → List ℕ → Bool
is_kept_target x names sites = (target_form x names).kept && is_sited_target x names sites

-- what parts side by side write
abbrev pub senses_in : List Entry → List TypedTarget → List TargetSense
senses_in names parts = map (λ (t : TypedTarget). target_in t names) parts
