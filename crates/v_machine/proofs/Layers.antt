-- What a fold over statements makes of blocks and cases.
use Rattle.std.proofs.Common.{◌≡◌, ap, sym, ◌∙◌, refl, List, [], ◌∷◌, map}
use Rattle.v_core.specs.declared.typed.Typed.{Typed}
use Rattle.v_core.specs.declared.statement.TypedArm.{TypedArm}
use Rattle.v_core.specs.declared.statement.TypedStmt.{TypedStmt}
use Rattle.v_core.specs.declared.statement.TypedStmt.TheVariants as e
use Rattle.v_core.specs.declared.statement.TypedStmt.TheOpen.{TypedStmt-F, TypedArm-F}
use Rattle.v_core.specs.declared.statement.TypedStmt.TheOpen as o
use Rattle.v_core.specs.declared.statement.TypedStmt.TheFolds.{fold-TypedStmt, fold-TypedArm, fold-roll-TypedStmt, fold-roll-TypedArm}

module _ {A B : Type 0} (step : TypedStmt-F A B → A) (arm_step : TypedArm-F A B → B) where
  abbrev of_stmt : TypedStmt → A
  of_stmt = fold-TypedStmt A B step arm_step

  abbrev of_arm : TypedArm → B
  of_arm a = arm_step (record { label = a.label; body = of_stmt a.body })

  arms_map : (arms : List TypedArm) → map (fold-TypedArm A B step arm_step) arms ≡ map of_arm arms
  arms_map [] = refl
  arms_map (a ∷ arms) = λ i. fold-roll-TypedArm A B step arm_step (record { label = a.label; body = a.body }) i ∷ arms_map arms i

  pub at_block : (x : TypedStmt) (body more : List TypedStmt) → x ≡ e.Block body → more ≡ body → of_stmt x ≡ step (o.Block (map of_stmt more))
  at_block x body more is p =
      ap of_stmt (is ∙ sym (e.rolls-Block body)) ∙ fold-roll-TypedStmt A B step arm_step (o.Block body) ∙ ap (λ (xs : List TypedStmt). step (o.Block (map of_stmt xs))) (sym p)

  pub at_case : (x : TypedStmt) (subject : Typed) (arms more : List TypedArm) → x ≡ e.Case subject arms → more ≡ arms →
      of_stmt x ≡ step (o.Case subject (map of_arm more))
  at_case x subject arms more is p =
      ap of_stmt (is ∙ sym (e.rolls-Case subject arms)) ∙ fold-roll-TypedStmt A B step arm_step (o.Case subject arms)
      ∙ ap (λ (bs : List B). step (o.Case subject bs)) (arms_map arms) ∙ ap (λ (all : List TypedArm). step (o.Case subject (map of_arm all))) (sym p)
