use Rattle.std.proofs.Common.{◌≡◌, sym, subst, ℕ}
use Rattle.std.specs.Prelude.{IfSome}
use Rattle.v_machine.proofs.TargetCounts.{concat_count}
use Rattle.v_machine.proofs.counting.+target_counting.Goals as goal

pub target_writes-returns-in-Concat : goal.target_writes-returns-in-Concat
target_writes-returns-in-Concat t c =
    subst (λ (m : ℕ). IfSome c.parts_writes.result (λ (n : ℕ). n ≡ m)) (sym (concat_count c.args.target.now _ _ c.in-Concat.is c.as_slice.ensures)) c.parts_writes.ensures
