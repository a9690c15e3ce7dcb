use denote.Param.Weighed.{most, at_most}
use Rattle.std.proofs.Common.{◌≡◌, ap, sym, ◌∙◌, arith, ℕ, get_or, List}
use Rattle.std.specs.Prelude.{Option}
use Rattle.std.proofs.lemmas.Option.{slice_get-get_or}
use Rattle.v_meaning.specs.Acts.{Acts, End}
use Rattle.v_core.specs.SitedCores.{is_sited_stmt}
use Rattle.v_core.specs.declared.statement.TypedArm.{TypedArm}
use Rattle.v_core.specs.declared.statement.TypedStmt.{TypedStmt}
use Rattle.v_core.specs.FormedCores.{is_formed_stmt}
use Rattle.v_core.specs.Statements.{acts_in}
use Rattle.v_core.proofs.statement.TypedStmt.TheLaws.{the_size}
use Rattle.v_core.proofs.statement.TypedArm.TheLaws as arm
use Rattle.v_values.specs.Moments.{Shape, fit}
use Rattle.v_values.specs.Writes.{all_fit}
use Rattle.v_machine.specs.Executed.{acts_at, acts_of_arm, all_acts_in, stepping, write_counts}
use Rattle.v_order.specs.Counting.{steps_of}
use Rattle.v_order.specs.Stepping.{Stepping, finished}
use Rattle.v_machine.proofs.Depths.{body_deeper, arms_deeper, arm_deeper}
use Rattle.v_machine.proofs.Finishing.{counts_next, finishes_next}
use Rattle.v_machine.proofs.Lists.{next_is, one_of}
use Rattle.v_machine.proofs.StmtLaws.{block_acts, block_formed, block_sited, block_count, case_acts, case_kept, case_steps, body_formed, body_sited, body_count}
use Rattle.v_machine.proofs.executing.+executing.Goals as goal

-- ---- blocks

pub execute-execute_all-requires : goal.execute-execute_all-requires
execute-execute_all-requires t c = (
  omega (arith, ap the_size c.in-Block.is, body_deeper c.in-Block.all, ap (most the_size) c.as_slice.ensures),
  (
    omega (arith, block_count c.args.body.now _ _ c.in-Block.is c.as_slice.ensures, c.requires.counted),
    (
      block_formed c.args.body.now _ _ c.args.names.now c.in-Block.is c.as_slice.ensures c.requires.formed,
      (
        block_sited c.args.body.now _ _ c.args.names.now _ c.in-Block.is c.as_slice.ensures c.requires.sited,
        (
          c.requires.fits,
          (
            omega (arith, block_count c.args.body.now _ _ c.in-Block.is c.as_slice.ensures, c.requires.room),
            c.requires.queued,
          ),
        ),
      ),
    ),
  ),
)

pub execute-returns-in-Block-clause-finishes : goal.execute-returns-in-Block-clause-finishes
execute-returns-in-Block-clause-finishes t c =
    c.execute_all.ensures.finishes
    ∙ sym (ap (λ (a : Acts). finished a (stepping c.args.now.now c.args.queue.now)) (block_acts c.args.body.now _ _ c.args.names.now c.in-Block.is c.as_slice.ensures))

pub execute-returns-in-Block-clause-few : goal.execute-returns-in-Block-clause-few
execute-returns-in-Block-clause-few t c = omega (arith, block_count c.args.body.now _ _ c.in-Block.is c.as_slice.ensures, c.execute_all.ensures.few)

-- ---- cases

pub execute-taken_arm-requires-clause-kept : goal.execute-taken_arm-requires-clause-kept
execute-taken_arm-requires-clause-kept t c =
    case_kept c.args.body.now _ _ _ c.args.names.now _ c.in-Case.is c.as_slice-arms.ensures c.requires.formed c.requires.sited

pub execute-execute-requires-in-Some : goal.execute-execute-requires-in-Some
execute-execute-requires-in-Some t c = (
  omega (
    arith,
    ap the_size c.in-Case.is,
    arms_deeper c.in-Case.subject c.in-Case.arms,
    ap (most arm.the_size) c.as_slice-arms.ensures,
    at_most arm.the_size c.as_slice-arms.result.now c.in-Some.i c.index-arms-i.result c.in-Some.ensures.within,
    arm_deeper (get_or c.as_slice-arms.result.now c.in-Some.i c.index-arms-i.result),
  ),
  (
    omega (arith, body_count c.args.body.now _ _ _ _ c.index-arms-i.result c.in-Case.is c.as_slice-arms.ensures c.in-Some.ensures.within, c.requires.counted),
    (
      body_formed c.args.body.now _ _ _ c.args.names.now _ _ c.in-Case.is c.as_slice-arms.ensures c.in-Some.ensures.within c.requires.formed,
      (
        body_sited c.args.body.now _ _ _ c.args.names.now _ _ _ c.in-Case.is c.as_slice-arms.ensures c.in-Some.ensures.within c.requires.sited,
        (
          c.requires.fits,
          (
            omega (arith, body_count c.args.body.now _ _ _ _ c.index-arms-i.result c.in-Case.is c.as_slice-arms.ensures c.in-Some.ensures.within, c.requires.room),
            c.requires.queued,
          ),
        ),
      ),
    ),
  ),
)

pub execute-returns-in-Some-clause-few : goal.execute-returns-in-Some-clause-few
execute-returns-in-Some-clause-few t c =
    omega (arith, body_count c.args.body.now _ _ _ _ c.index-arms-i.result c.in-Case.is c.as_slice-arms.ensures c.in-Some.ensures.within, c.execute-in-Some.ensures.few)

pub execute-returns-in-Some-clause-finishes : goal.execute-returns-in-Some-clause-finishes
execute-returns-in-Some-clause-finishes t c =
    let s : Stepping = stepping c.args.now.now c.args.queue.now in
    let arms : List TypedArm = c.as_slice-arms.result.now in
    c.execute-in-Some.ensures.finishes
    ∙ sym (case_acts c.args.body.now _ _ _ c.args.names.now s _ c.in-Case.is c.as_slice-arms.ensures c.value-word.ensures.value
    ∙ ap (λ (a : Acts). finished a s)
    (c.in-Some.ensures.taken
    ∙ ap (λ (o : Option TypedArm). acts_of_arm o c.args.names.now End) (slice_get-get_or arms c.in-Some.i c.index-arms-i.result c.in-Some.ensures.within)))

pub execute-returns-in-None-clause-finishes : goal.execute-returns-in-None-clause-finishes
execute-returns-in-None-clause-finishes t c =
    let s : Stepping = stepping c.args.now.now c.args.queue.now in
    sym (case_acts c.args.body.now _ _ _ c.args.names.now s _ c.in-Case.is c.as_slice-arms.ensures c.value-word.ensures.value
    ∙ ap (λ (a : Acts). finished a s)
    (c.taken_arm.ensures.taken ∙ ap (λ (o : Option ℕ). acts_at o c.as_slice-arms.result.now c.args.names.now End) c.in-None.is))

-- ---- statements one after another

pub execute_all-execute-steps-requires : goal.execute_all-execute-steps-requires
execute_all-execute-steps-requires t c =
    let next = next_is c.args.all.now _ _ c.loop-one-test.true c.one-item.is in
    let same : c.loop-one.now.shape ≡ c.args.now.now.shape = c.loop-one.invariant.shape in (
      omega (arith, at_most the_size c.args.all.now c.loop-one.one-index c.one-item.result c.loop-one-test.true, ap the_size c.one-item.is),
      (
        omega (arith, ap write_counts next, c.loop-one.invariant.bound, c.requires.counted),
        (
          one_of (λ (x : TypedStmt). is_formed_stmt x c.args.names.now) c.args.all.now _ _ c.loop-one-test.true c.one-item.is c.requires.formed,
          (
            ap (λ (s : Shape). is_sited_stmt c.one-item.result c.args.names.now s.sites) same
                ∙ one_of (λ (x : TypedStmt). is_sited_stmt x c.args.names.now c.args.now.now.shape.sites) c.args.all.now _ _ c.loop-one-test.true c.one-item.is c.requires.sited,
            (
              ap (λ (s : Shape). fit s c.args.names.now) same ∙ c.requires.fits,
              (
                omega (arith, ap write_counts next, c.loop-one.invariant.few, c.loop-one.invariant.room, c.requires.room),
                ap (λ (s : Shape). all_fit s c.loop-one.queue.writes) same ∙ c.loop-one.invariant.queued,
              ),
            ),
          ),
        ),
      ),
    )

pub execute_all-loop-one-preserved : goal.execute_all-loop-one-preserved
execute_all-loop-one-preserved t c =
    let next = next_is c.args.all.now _ _ c.loop-one-test.true c.one-item.is in
    record {
      finishes = finishes_next _ _ _ (acts_in c.one-item.result c.args.names.now) _ _ (ap (λ (xs : List TypedStmt). all_acts_in xs c.args.names.now) next)
          c.execute-steps.ensures.finishes c.loop-one.invariant.finishes;
      queued = ap (λ (s : Shape). all_fit s c.execute-steps.new.queue.writes) (sym c.loop-one.invariant.shape) ∙ c.execute-steps.ensures.queued;
      shape = c.execute-steps.ensures.shape ∙ c.loop-one.invariant.shape;
      few = omega (arith, ap write_counts next, c.loop-one.invariant.few, c.execute-steps.ensures.few);
      room = c.execute-steps.ensures.room ∙ c.loop-one.invariant.room;
      steps = counts_next _ _ _ (stepping c.loop-one.now c.loop-one.queue) (stepping c.execute-steps.new.now c.execute-steps.new.queue) (acts_in c.one-item.result c.args.names.now) _ _ (ap (λ (xs : List TypedStmt). all_acts_in xs c.args.names.now) next)
          c.execute-steps.ensures.finishes c.execute-steps.ensures.steps c.loop-one.invariant.steps;
      bound = omega (arith, ap write_counts next, c.loop-one.invariant.bound, c.execute-steps.ensures.bound);
    }

-- ---- how many steps

pub execute-returns-in-Block-clause-steps : goal.execute-returns-in-Block-clause-steps
execute-returns-in-Block-clause-steps t c =
    c.execute_all.ensures.steps ∙ sym (ap (λ (a : Acts). steps_of a c.args.now.now.view) (block_acts c.args.body.now _ _ c.args.names.now c.in-Block.is c.as_slice.ensures))

pub execute-returns-in-Block-clause-bound : goal.execute-returns-in-Block-clause-bound
execute-returns-in-Block-clause-bound t c = omega (arith, block_count c.args.body.now _ _ c.in-Block.is c.as_slice.ensures, c.execute_all.ensures.bound)

pub execute-overflow_add-result-in-Some : goal.execute-overflow_add-result-in-Some
execute-overflow_add-result-in-Some t c =
    omega (
      arith,
      body_count c.args.body.now _ _ _ _ c.index-arms-i.result c.in-Case.is c.as_slice-arms.ensures c.in-Some.ensures.within,
      c.execute-in-Some.ensures.bound,
      c.requires.counted,
    )

pub execute-returns-in-Some-clause-bound : goal.execute-returns-in-Some-clause-bound
execute-returns-in-Some-clause-bound t c =
    omega (
      arith,
      body_count c.args.body.now _ _ _ _ c.index-arms-i.result c.in-Case.is c.as_slice-arms.ensures c.in-Some.ensures.within,
      c.execute-in-Some.ensures.bound,
    )

pub execute-returns-in-Some-clause-steps : goal.execute-returns-in-Some-clause-steps
execute-returns-in-Some-clause-steps t c =
    let arms : List TypedArm = c.as_slice-arms.result.now in
    omega (
      arith,
      case_steps c.args.body.now _ _ _ c.args.names.now c.args.now.now.view _ c.in-Case.is c.as_slice-arms.ensures c.value-word.ensures.value,
      ap (λ (a : Acts). steps_of a c.args.now.now.view)
          (c.in-Some.ensures.taken
          ∙ ap (λ (o : Option TypedArm). acts_of_arm o c.args.names.now End) (slice_get-get_or arms c.in-Some.i c.index-arms-i.result c.in-Some.ensures.within)),
      c.execute-in-Some.ensures.steps,
    )

pub execute-returns-in-None-clause-steps : goal.execute-returns-in-None-clause-steps
execute-returns-in-None-clause-steps t c =
    omega (
      arith,
      case_steps c.args.body.now _ _ _ c.args.names.now c.args.now.now.view _ c.in-Case.is c.as_slice-arms.ensures c.value-word.ensures.value,
      ap (λ (a : Acts). steps_of a c.args.now.now.view)
          (c.taken_arm.ensures.taken ∙ ap (λ (o : Option ℕ). acts_at o c.as_slice-arms.result.now c.args.names.now End) c.in-None.is),
    )
