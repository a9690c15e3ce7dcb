-- What a statement must keep so that it can be executed over words, and what it leaves (1364-2005, 9).
use Rattle.std.specs.Prelude.{ℕ, ◌+◌, List, [], ◌∷◌, map, Option, None, Some, slice_get}
use Rattle.v_meaning.specs.Acts.{Acts}
use Rattle.v_meaning.specs.Designs.{total}
use Rattle.v_meaning.specs.declared.names.Entry.{Entry}
use Rattle.v_core.specs.declared.statement.TypedArm.{TypedArm}
use Rattle.v_core.specs.declared.statement.TypedStmt.{TypedStmt}
use Rattle.v_core.specs.declared.statement.TypedStmt.TheOpen.{TypedStmt-F, TypedArm-F}
use Rattle.v_core.specs.declared.statement.TypedStmt.TheOpen as s
use Rattle.v_core.specs.declared.statement.TypedStmt.TheFolds.{fold-TypedStmt}
use Rattle.v_core.specs.Statements.{ArmIn, acts_in}
use Rattle.v_values.specs.Moments.{MomentValue}
use Rattle.v_values.specs.Queues.{QueueValue}
use Rattle.v_values.specs.Queues as queue
use Rattle.v_order.specs.Stepping.{Stepping}

-- ---- steps and writes

-- how many steps a statement takes at most, and how many writes wait, when all its branches are taken: each branch is a step
abbrev pub write_count_step : TypedStmt-F ℕ ℕ → ℕ
write_count_step s.Null = 0
write_count_step (s.Block body) = total body
write_count_step (s.If condition one other) = 1 + (one + other)
write_count_step (s.Case subject arms) = 1 + total arms
write_count_step (s.Assign target kind value) = 1 + queue.write_count target

abbrev pub arm_count_step : TypedArm-F ℕ ℕ → ℕ
arm_count_step a = a.body

abbrev pub write_count : TypedStmt → ℕ
write_count = fold-TypedStmt ℕ ℕ write_count_step arm_count_step

-- how many several statements make
abbrev pub write_counts : List TypedStmt → ℕ
write_counts [] = 0
write_counts (x ∷ xs) = write_count x + write_counts xs

abbrev pub arm_counts : List TypedArm → ℕ
arm_counts [] = 0
arm_counts (a ∷ arms) = write_count a.body + arm_counts arms

-- ---- statements one after another

abbrev pub all_acts_in : List TypedStmt → List Entry → List Acts
all_acts_in all names = map (λ (x : TypedStmt). acts_in x names) all

-- ---- what stands when a statement begins or is at its end

abbrev pub stepping : MomentValue → QueueValue → Stepping
stepping now queue = record { view = now.view; queue = queue.writes }

-- ---- the arms of a case

abbrev pub arm_in : TypedArm → ArmIn
arm_in a = record { label = a.label; acts = acts_in a.body }

abbrev pub arms_in : List TypedArm → List ArmIn
arms_in arms = map arm_in arms

-- what an arm does; where there is none, these acts
abbrev pub acts_of_arm : Option TypedArm → List Entry → Acts → Acts
acts_of_arm None names otherwise = otherwise
acts_of_arm (Some a) names otherwise = acts_in a.body names

-- the same by the number of the arm
abbrev pub acts_at : Option ℕ → List TypedArm → List Entry → Acts → Acts
acts_at None arms names otherwise = otherwise
acts_at (Some i) arms names otherwise = acts_of_arm (slice_get arms i) names otherwise
