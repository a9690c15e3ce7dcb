use Rattle.std.proofs.Common.{◌<◌, ap, sym, ◌∙◌, arith, length}
use Rattle.v_values.specs.Moments.{MemoryValue}
use Rattle.v_values.proofs.Changes.{copied_next, copied_same, same_at}
use Rattle.v_values.proofs.memory.copy_all.Goals as goal

pub copy-requires-clause-width : goal.copy-requires-clause-width
copy-requires-clause-width c =
    same_at (λ (m : MemoryValue). m.width) c.loop-i.to c.args.from.now c.loop-i.i _ _ (omega (arith, c.loop-i.auto.to)) c.loop-i.invariant.widths
    ∙ sym (ap (λ (m : MemoryValue). m.width) c.index-from-i.is)

pub copy-requires-clause-count : goal.copy-requires-clause-count
copy-requires-clause-count c =
    same_at (λ (m : MemoryValue). length m.words) c.loop-i.to c.args.from.now c.loop-i.i _ _ (omega (arith, c.loop-i.auto.to)) c.loop-i.invariant.counts
    ∙ sym (ap (λ (m : MemoryValue). length m.words) c.index-from-i.is)

pub loop-i-preserved : goal.loop-i-preserved
loop-i-preserved c =
    let within : c.loop-i.i < length c.loop-i.to = omega (arith, c.loop-i.auto.to) in
    let is = c.copy.ensures ∙ c.index-from-i.is in
    record {
      widths = copied_same (λ (m : MemoryValue). m.width) c.loop-i.to c.args.from.now c.loop-i.i _ _ within c.loop-i.invariant.widths is;
      counts = copied_same (λ (m : MemoryValue). length m.words) c.loop-i.to c.args.from.now c.loop-i.i _ _ within c.loop-i.invariant.counts is;
      done = copied_next (λ (m : MemoryValue). m.width) c.loop-i.to c.args.from.now c.loop-i.i _ _ within c.loop-i.invariant.widths is c.loop-i.invariant.done;
    }
