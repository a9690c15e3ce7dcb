use Rattle.std.proofs.Common.{refl}
use Rattle.v_scope.proofs.Judging.{numbers_next, numbers_end}
use Rattle.v_scope.proofs.rules.first_wrong_number.Goals as goal

pub loop-occurrence-init : goal.loop-occurrence-init
loop-occurrence-init c names = record { least = refl }

pub loop-occurrence-preserved : goal.loop-occurrence-preserved
loop-occurrence-preserved c names =
    numbers_next names _ _ _ _ _ c.loop-occurrence-test.true c.occurrence-item.is (c.note_number-first.ensures names) (c.loop-occurrence.invariant names)

pub returns : goal.returns
returns c names = numbers_end names _ _ _ c.loop-occurrence-test.false (c.loop-occurrence.invariant names)
