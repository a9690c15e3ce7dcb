use Rattle.std.proofs.Common.{◌≡◌, ℕ, List, true}
use Rattle.std.specs.Prelude.{All}
use Rattle.std.specs.List.{list_all}
use Rattle.v_meaning.specs.Statements.{acts_of}
use Rattle.v_core.specs.FormedCores.{is_formed_stmt}
use Rattle.v_core.specs.SitedCores.{is_sited_stmt}
use Rattle.v_statements.specs.Forms.{ArmFormed, Each}
use Rattle.v_statements.specs.Sited.{ArmRead, StmtRead, are_sited_open_arms}
use Rattle.v_core.specs.declared.statement.TypedStmt.{TypedStmt}
use Rattle.v_core.specs.Statements.{acts_in}
use Rattle.v_statements.specs.Cases.{open_arm, source_arm}
use Rattle.v_statements.proofs.Turns.{AreSame}
use Rattle.v_statements.proofs.stmts.+statements.Given as goal

abbrev pub invariant-each-loop-s : goal.invariant-each-loop-s
invariant-each-loop-s l =
    AreSame (λ (t : TypedStmt). acts_in t l.names) (acts_of l.names l.sites) l.all l.body l.s-index × (list_all (λ (x : TypedStmt). is_formed_stmt x l.names) l.all ≡ true)
    × ((widths : List ℕ) → All (StmtRead widths l.sites l.names) l.body → list_all (λ (x : TypedStmt). is_sited_stmt x l.names widths) l.all ≡ true)

abbrev pub invariant-opened_arms-loop-arm : goal.invariant-opened_arms-loop-arm
invariant-opened_arms-loop-arm l =
    AreSame (open_arm l.names) (source_arm l.names l.sites l.kind) l.all l.arms l.arm-index × Each (ArmFormed l.names) l.all
    × ((widths : List ℕ) → All (ArmRead widths l.sites l.names) l.arms → are_sited_open_arms l.all l.names widths ≡ true)
