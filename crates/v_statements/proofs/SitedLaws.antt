-- The sites of targets and statements are those of their parts.
use Rattle.std.proofs.Common.{◌≡◌, ap, sym, ◌∙◌, refl, ℕ, List, [], ◌∷◌, map, Bool}
use Rattle.std.specs.Prelude.{◌&&◌}
use Rattle.std.specs.List.{list_all}
use Rattle.std.proofs.Math.Path.{fun_ext}
use Rattle.std.proofs.lemmas.List.Folds.{list_all-map}
use Rattle.v_meaning.specs.declared.names.Entry.{Entry}
use Rattle.v_core.specs.declared.typed.Typed.{Typed}
use Rattle.v_core.specs.declared.statement.TypedTarget.{TypedTarget}
use Rattle.v_core.specs.declared.statement.TypedTarget.TheVariants as t
use Rattle.v_core.specs.declared.statement.TypedTarget.TheOpen as p
use Rattle.v_core.specs.declared.statement.TypedTarget.TheFolds.{fold-roll-TypedTarget}
use Rattle.v_core.specs.declared.statement.TypedArm.{TypedArm}
use Rattle.v_core.specs.declared.statement.TypedStmt.{TypedStmt}
use Rattle.v_core.specs.declared.statement.TypedStmt.TheVariants as s
use Rattle.v_core.specs.declared.statement.TypedStmt.TheOpen as o
use Rattle.v_core.specs.declared.statement.TypedStmt.TheFolds.{fold-TypedArm, fold-roll-TypedStmt, fold-roll-TypedArm}
use Rattle.v_core.specs.Sited.{SitedIn, is_sited}
use Rattle.v_core.specs.SitedCores.{is_sited_stmt, is_sited_target, sited_arm_step, sited_stmt_step, sited_target_step}
use Rattle.v_statements.specs.Sited.{is_sited_arm}

pub sited_concat : (parts : List TypedTarget) → is_sited_target (t.Concat parts) ≡ (λ names sites. list_all (λ (x : TypedTarget). is_sited_target x names sites) parts)
sited_concat parts =
    ap is_sited_target (sym (t.rolls-Concat parts)) ∙ fold-roll-TypedTarget SitedIn sited_target_step (p.Concat parts)
    ∙ fun_ext (λ names. fun_ext (λ sites. list_all-map (λ (x : SitedIn). x names sites) is_sited_target parts))

pub sited_block : (body : List TypedStmt) → is_sited_stmt (s.Block body) ≡ (λ names sites. list_all (λ (x : TypedStmt). is_sited_stmt x names sites) body)
sited_block body =
    ap is_sited_stmt (sym (s.rolls-Block body)) ∙ fold-roll-TypedStmt SitedIn SitedIn sited_stmt_step sited_arm_step (o.Block body)
    ∙ fun_ext (λ names. fun_ext (λ sites. list_all-map (λ (one : SitedIn). one names sites) is_sited_stmt body))

abbrev sited_arm : TypedArm → SitedIn
sited_arm = fold-TypedArm SitedIn SitedIn sited_stmt_step sited_arm_step

arms_sited : (names : List Entry) (sites : List ℕ) (arms : List TypedArm) → list_all (λ (arm : SitedIn). arm names sites) (map sited_arm arms) ≡ list_all (λ (a : TypedArm). is_sited_arm a names sites) arms
arms_sited names sites [] = refl
arms_sited names sites (a ∷ arms) = λ i.
    (fold-roll-TypedArm SitedIn SitedIn sited_stmt_step sited_arm_step (record { label = a.label; body = a.body })) i names sites && arms_sited names sites arms i

pub sited_case : (subject : Typed) (arms : List TypedArm) →
    is_sited_stmt (s.Case subject arms) ≡ (λ names sites. is_sited subject names sites && list_all (λ (a : TypedArm). is_sited_arm a names sites) arms)
sited_case subject arms =
    ap is_sited_stmt (sym (s.rolls-Case subject arms)) ∙ fold-roll-TypedStmt SitedIn SitedIn sited_stmt_step sited_arm_step (o.Case subject arms)
    ∙ fun_ext (λ names. fun_ext (λ sites. ap (λ (b : Bool). is_sited subject names sites && b) (arms_sited names sites arms)))

-- ---- items and arms

abbrev all_sited : List SitedIn → SitedIn
all_sited xs names sites = list_all (λ (x : SitedIn). x names sites) xs

-- where each has the sites of another, all of them have
pub alike : {A B : Type 0} (f : A → SitedIn) (g : B → SitedIn) (xs : List A) (ys : List B) → map f xs ≡ map g ys →
    ◌≡◌ {A = SitedIn} (λ names sites. list_all (λ (x : A). f x names sites) xs) (λ names sites. list_all (λ (y : B). g y names sites) ys)
alike f g xs ys p =
    sym (fun_ext (λ names. fun_ext (λ sites. list_all-map (λ (s : SitedIn). s names sites) f xs))) ∙ ap all_sited p
    ∙ fun_ext (λ names. fun_ext (λ sites. list_all-map (λ (s : SitedIn). s names sites) g ys))
