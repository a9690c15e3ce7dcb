use Rattle.std.proofs.Common.{◌≡◌, sym, subst, arith, ℕ}
use Rattle.std.specs.Prelude.{IfSome}
use Rattle.v_machine.proofs.StmtLaws.{block_count, case_count}
use Rattle.v_machine.proofs.counting.+counting.Goals as goal

pub stmt_writes-returns-in-Block : goal.stmt_writes-returns-in-Block
stmt_writes-returns-in-Block t c =
    subst (λ (m : ℕ). IfSome c.all_writes.result (λ (n : ℕ). n ≡ m)) (sym (block_count c.args.body.now _ _ c.in-Block.is c.as_slice.ensures)) c.all_writes.ensures

pub stmt_writes-returns-in_ok-count-in-Case : goal.stmt_writes-returns-in_ok-count-in-Case
stmt_writes-returns-in_ok-count-in-Case t c = grind (arith, c.checked_add-in-Case.ensures, c.arms_writes.ensures, c.in_ok-count-in-Case.is, case_count c.args.body.now _ _ _ c.in-Case.is c.as_slice-in-Case.ensures)
