use Rattle.std.proofs.Common.{◌<◌, length, sym, ◌∙◌, arith}
use Rattle.std.proofs.lemmas.Result.{err_from_is_err_and}
use Rattle.v_parser.proofs.Loop.{more_err_in, more_step}
use Rattle.v_parser.proofs.lists.more.Goals as goal

pub returns-in_err-part-clause-gives : goal.returns-in_err-part-clause-gives
returns-in_err-part-clause-gives g c =
    let p = err_from_is_err_and c.from_residual-in_err-part.result c.from_residual-in_err-part.ensures.1 in
    rw (p.1, p.2) (more_err_in g.P.Part.reading c.loop-alloc.parts c.loop-alloc.left.now _ _ _ c.in_err-part.field-0.0
    (sym c.next_is.ensures ∙ c.loop-alloc-test.true) c.in_ok-rest.ensures.gives c.in_err-part.ensures.gives c.loop-alloc.invariant.same)

pub loop-alloc-preserved : goal.loop-alloc-preserved
loop-alloc-preserved g c =
    let lt : length c.in_ok-part.after.now < length c.loop-alloc.left.now = omega (arith, c.in_ok-rest.ensures.shorter, c.in_ok-part.ensures.shorter) in
    record {
      same = rw c.in_ok-push-2.ensures.ok (sym (more_step g.P.Part.reading c.loop-alloc.parts c.loop-alloc.left.now c.in_ok-rest.rest.now c.in_ok-part.after.now _ c.in_ok-part.part
          (sym c.next_is.ensures ∙ c.loop-alloc-test.true) c.in_ok-rest.ensures.gives c.in_ok-part.ensures.gives lt) ∙ c.loop-alloc.invariant.same);
      shorter = omega (arith, lt, c.loop-alloc.invariant.shorter);
    }
