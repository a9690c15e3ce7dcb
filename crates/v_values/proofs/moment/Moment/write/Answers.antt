use Rattle.std.proofs.Common.{◌<◌, ap, ◌∙◌, arith, ℕ, length, List}
use Rattle.v_meaning.specs.Views.{changed_at, with_bits}
use Rattle.v_values.specs.Moments.{MemoryValue}
use Rattle.v_values.specs.Writes.{place_in}
use Rattle.v_values.proofs.Changes.{map_set, map_set_same, memory_written, memories_shaped}
use Rattle.v_values.proofs.moment.Moment.write.Goals as goal

pub returns-then-k-len-clause-view : goal.returns-then-k-len-clause-view
returns-then-k-len-clause-view c =
    memory_written c.args.self.now _ _ c.in-Word.k c.in-Word.i _ _ c.self.view_is (ap place_in c.in-Word.is)
    (map_set (λ (m : MemoryValue). m.words) (λ (words : List ℕ). changed_at (with_bits c.args.write.low c.args.write.width c.args.write.value) words c.in-Word.i)
    c.self.inside.memories.items c.in-Word.k c.write.new.self c.index_mut.result.now (omega (arith, c.if-k-len.true, c.len.ensures))
    (c.write.ensures.words ∙ ap (λ (m : MemoryValue). changed_at (with_bits c.args.write.low c.args.write.width c.args.write.value) m.words c.in-Word.i) c.index_mut.ensures.value))

pub returns-then-k-len-clause-shape : goal.returns-then-k-len-clause-shape
returns-then-k-len-clause-shape c =
    let within : c.in-Word.k < length c.self.inside.memories.items = omega (arith, c.if-k-len.true, c.len.ensures) in
    memories_shaped c.args.self.now _ _ _ c.self.view_is
    (map_set_same (λ (m : MemoryValue). m.width) c.self.inside.memories.items c.in-Word.k c.write.new.self c.index_mut.result.now within
    (c.write.ensures.width ∙ ap (λ (m : MemoryValue). m.width) c.index_mut.ensures.value))
    (map_set_same (λ (m : MemoryValue). length m.words) c.self.inside.memories.items c.in-Word.k c.write.new.self c.index_mut.result.now within
    (c.write.ensures.count ∙ ap (λ (m : MemoryValue). length m.words) c.index_mut.ensures.value))
