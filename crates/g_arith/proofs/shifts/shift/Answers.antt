use Rattle.std.proofs.Common.{refl, ◌∙◌}
use Rattle.g_arith.proofs.Growth.{adds_further}
use Rattle.g_arith.proofs.Shifting.{rest_whole, shift_all, wide_of}
use Rattle.g_arith.proofs.shifts.shift.Goals as goal

pub returns-in_err-none-clause-adds : goal.returns-in_err-none-clause-adds
returns-in_err-none-clause-adds g c = adds_further _ _ _ c.in_ok-moved.ensures.adds c.in_err-none.ensures.adds

pub returns-in_err-fills-clause-adds : goal.returns-in_err-fills-clause-adds
returns-in_err-fills-clause-adds g c = adds_further _ _ _ c.in_ok-moved.ensures.adds c.in_ok-none.ensures.adds

pub returns-in_err-bits-clause-adds : goal.returns-in_err-bits-clause-adds
returns-in_err-bits-clause-adds g c = adds_further _ _ _ (adds_further _ _ _ c.in_ok-moved.ensures.adds c.in_ok-none.ensures.adds) c.in_err-bits.ensures.adds

pub returns-clause-adds : goal.returns-clause-adds
returns-clause-adds g c = adds_further _ _ _ (adds_further _ _ _ c.in_ok-moved.ensures.adds c.in_ok-none.ensures.adds) c.in_ok-bits.ensures.adds

pub returns-clause-number : goal.returns-clause-number
returns-clause-number g c =
    shift_all c.args.builder.now.part _ _ _ c.args.left c.args.fill c.stage_count-count.result _ c.args.x.now c.args.amount.now _ _ c.as_slice.result.now c.in_ok-moved.moved c.as_slice-2.result.now c.as_slice-3.result.now _
    c.in_ok-moved.ensures.adds c.in_ok-none.ensures.adds c.in_ok-bits.ensures.adds (c.constants.ensures.zero _) c.requires.fill c.requires.amount c.stage_count-count.ensures.within
    (wide_of _ _ _ _ c.stage_count-count.ensures.enough c.if-count-amount.false) refl (rest_whole c.stage_count-count.result c.args.amount.now) (c.as_slice.ensures ∙ c.in_ok-zeros.ensures) (c.as_slice-3.ensures ∙ c.in_ok-fills.ensures) c.as_slice-2.ensures
    c.in_ok-moved.ensures.number c.in_ok-none.ensures.equal c.in_ok-bits.ensures.number
