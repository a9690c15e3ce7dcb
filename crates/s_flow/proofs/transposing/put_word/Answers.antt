use Rattle.std.proofs.Common.{◌≡◌, ◌<◌, ◌+◌, ◌-◌, ◌∙◌, ℕ, length, suc, ap, sym, arith}
use Rattle.std.proofs.Math.ListN.{length-set}
use Rattle.s_flow.proofs.Streams.{bit_put, bit_kept}
use Rattle.s_flow.proofs.transposing.put_word.Goals as goal

pub loop-preserved : goal.loop-preserved
loop-preserved c =
    let width : c.args.word.now.width ≡ c.word.inside.width = ap (λ v. v.width) (sym c.word.view_is) in
    let one : c.word.inside.width - c.loop.counter ≡ suc (c.word.inside.width - (c.loop.counter + 1)) = omega arith in
    let lt : c.loop.next < length c.loop.lanes = omega arith in
    record {
      next = omega arith;
      long = omega (arith, length-set {A = ℕ});
      own = bit_put c.args.index _ _ c.loop.next c.with_bit.result c.loop.lanes c.loop.value one lt c.with_bit.ensures.own ∙ c.loop.invariant.own;
      others = λ other below ne. bit_kept other c.loop.next c.with_bit.result c.loop.lanes (c.with_bit.ensures.others other below ne) ∙ c.loop.invariant.others other below ne;
    }
