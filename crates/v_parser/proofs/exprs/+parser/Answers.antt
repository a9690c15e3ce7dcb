use Rattle.std.proofs.Common.{sym, ◌∙◌, ◌-◌, ◌<◌, length, arith}
use Rattle.std.proofs.lemmas.Result.{err_from_is_err_and}
use Rattle.v_parser.specs.Exprs.{binary_at, operand_at}
use Rattle.v_parser.proofs.Loop.{links_miss_in, links_err_in, links_step}
use Rattle.v_parser.proofs.Depth.{binary_first_fails}
use Rattle.v_parser.proofs.exprs.+parser.Goals as goal

pub links-returns-in_err-op-clause-gives : goal.links-returns-in_err-op-clause-gives
links-returns-in_err-op-clause-gives t c =
    let p = err_from_is_err_and c.from_residual.result c.from_residual.ensures.1 in
    rw (p.1, p.2) (links_miss_in c.args.rank (binary_at (operand_at c.args.depth) (c.args.rank - 1)) c.loop-alloc.links c.loop-alloc.left.now _ c.in_err-op.field-0.0
    (sym c.next_has_rank.ensures ∙ c.loop-alloc-test.true) c.in_err-op.ensures.gives c.loop-alloc.invariant.same)

pub links-returns-in_err-inner-clause-gives : goal.links-returns-in_err-inner-clause-gives
links-returns-in_err-inner-clause-gives t c =
    let p = err_from_is_err_and c.from_residual-in_err-inner.result c.from_residual-in_err-inner.ensures.1 in
    rw (p.1, p.2) (links_err_in c.args.rank (binary_at (operand_at c.args.depth) (c.args.rank - 1)) c.loop-alloc.links c.loop-alloc.left.now _ _ _ c.in_err-inner.field-0.0
    (sym c.next_has_rank.ensures ∙ c.loop-alloc-test.true) c.in_ok-op.ensures.gives c.in_err-inner.ensures.gives c.loop-alloc.invariant.same)

pub links-loop-alloc-preserved : goal.links-loop-alloc-preserved
links-loop-alloc-preserved t c =
    let lt : length c.in_ok-inner.after.now < length c.loop-alloc.left.now = omega (arith, c.in_ok-op.ensures.shorter, c.in_ok-inner.ensures.shorter) in
    record {
      same = rw c.in_ok-push.ensures.ok (sym (links_step c.args.rank (binary_at (operand_at c.args.depth) (c.args.rank - 1)) c.loop-alloc.links c.loop-alloc.left.now
          c.in_ok-op.rest.now c.in_ok-inner.after.now c.in_ok-op.op c.in_ok-inner.inner (sym c.next_has_rank.ensures ∙ c.loop-alloc-test.true) c.in_ok-op.ensures.gives c.in_ok-inner.ensures.gives lt)
          ∙ c.loop-alloc.invariant.same);
      shorter = omega (arith, lt, c.loop-alloc.invariant.shorter);
    }

pub binary-returns-in_err-first-clause-gives : goal.binary-returns-in_err-first-clause-gives
binary-returns-in_err-first-clause-gives t c =
    let p = err_from_is_err_and c.from_residual.result c.from_residual.ensures.1 in
    rw (p.1, p.2) (binary_first_fails (operand_at c.args.depth) c.args.rank c.args.tokens.now c.in_err-first.field-0.0 c.in_err-first.ensures.gives)
