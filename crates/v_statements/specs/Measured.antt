-- What a typed target must be that stands for one of the source.
use Rattle.std.specs.Prelude.{◌≡◌, List, Bool, true, false}
use Rattle.v_meaning.specs.Targets.{TargetSense, parts_width, parts_writes}
use Rattle.v_meaning.specs.declared.names.Kind.{Kind}
use Rattle.v_meaning.specs.declared.names.Kind.TheVariants.{Memory}
use Rattle.v_meaning.specs.declared.names.Entry.{Entry}
use Rattle.v_core.specs.Statements.{target_in}
use Rattle.v_core.specs.Formed.{has, is_width}
use Rattle.v_core.specs.FormedCores.{target_form}
use Rattle.v_statements.specs.declared.targets.MeasuredTarget.{MeasuredTarget}

-- It writes the same bits, has so many, 1 to 128, and keeps to them.
pub record IsTarget (names : List Entry) (t : MeasuredTarget) (sense : TargetSense) : Type 0 where
  pub means : target_in t.target names ≡ sense
  pub measured : t.width ≡ sense.width
  pub word : is_width t.width ≡ true
  pub keeps : has t.width (target_form t.target names) ≡ true

abbrev pub is_memory : Kind → Bool
is_memory (Memory k low count) = true
is_memory _ = false

-- parts side by side
abbrev pub joined_target : List TargetSense → TargetSense
joined_target parts = record { width = parts_width parts; writes = parts_writes parts }
