-- What is counted of targets. No public clause names these.
use Rattle.std.specs.Prelude.{ℕ, List, [], map, sum}
use Rattle.v_syntax.specs.declared.stmt.Target.{Target}
use Rattle.v_meaning.specs.declared.names.Entry.{Entry}
use Rattle.v_meaning.specs.Targets.{target_of}
use Rattle.v_meaning.specs.Weights.{target_weight}
use Rattle.v_weight.specs.declared.targets.CountedTarget.{CountedTarget}
use Rattle.v_weight.specs.Saturated.{Same}

abbrev pub width_in : List Entry → Target → ℕ
width_in names t = (target_of names [] t).width

abbrev pub size_in : List Entry → Target → ℕ
size_in names t = (target_weight names t).size

abbrev pub indices_in : List Entry → Target → ℕ
indices_in names t = (target_weight names t).indices

-- of one target
pub record IsTarget (names : List Entry) (t : Target) (r : CountedTarget) : Type 0 where
  pub width : Same r.width (width_in names t)
  pub size : Same r.size (size_in names t)
  pub indices : Same r.indices (indices_in names t)

-- of targets side by side
pub record AreTargets (names : List Entry) (ts : List Target) (r : CountedTarget) : Type 0 where
  pub width : Same r.width (sum (map (width_in names) ts))
  pub size : Same r.size (sum (map (size_in names) ts))
  pub indices : Same r.indices (sum (map (indices_in names) ts))
