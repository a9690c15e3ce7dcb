use Rattle.std.proofs.Common.{◌<◌, ◌≤◌, ◌+◌, ◌^◌, ℕ, Bool, if◌then◌else◌, length, ap, sym, ◌∙◌, arith}
use Rattle.std.proofs.Math.Nat.{pow-le-pow_right}
use Rattle.m_valid.specs.Plain.{leaf_bit, table_from}
use Rattle.m_valid.specs.Validity.{operation}
use Rattle.m_valid.proofs.Plainly.{table_more, table_none, table_small}
use Rattle.m_valid.proofs.mapping.gate_table.Goals as goal

pub loop-i-init : goal.loop-i-init
loop-i-init c = sym (table_none (λ k. operation (leaf_bit c.args.leaves.now k) c.args.gate))

pub single-table-requires : goal.single-table-requires
single-table-requires c =
    let two : 0 < 2 = omega arith in
    let most : 2 ^ length c.args.leaves.now ≤ 2 ^ 2 = pow-le-pow_right two c.requires in
    omega (arith, most, c.assignments-i-end.ensures.count)

pub overflow_add-table : goal.overflow_add-table
overflow_add-table c =
    let two : 0 < 2 = omega arith in
    let most : 2 ^ length c.args.leaves.now ≤ 2 ^ 2 = pow-le-pow_right two c.requires in
    let least : c.loop-i.i ≤ 3 = omega (arith, most, c.assignments-i-end.ensures.count) in
    let here : 2 ^ c.loop-i.i ≤ 2 ^ 3 = pow-le-pow_right two least in
    let small : table_from c.loop-i.i (λ k. operation (leaf_bit c.args.leaves.now k) c.args.gate) < 2 ^ c.loop-i.i = table_small c.loop-i.i (λ k. operation (leaf_bit c.args.leaves.now k) c.args.gate) in
    omega (arith, here, small, c.loop-i.invariant, c.single-table.ensures.small)

pub loop-i-preserved : goal.loop-i-preserved
loop-i-preserved c =
    let i = c.loop-i.i in
    let bits = λ (k : ℕ). operation (leaf_bit c.args.leaves.now k) c.args.gate in
    ap (λ t. t + c.single-table.result) c.loop-i.invariant
    ∙ ap (λ s. table_from i bits + s) (c.single-table.ensures.single ∙ ap (λ (b : Bool). if b then 2 ^ i else 0) c.gate_bit.ensures)
    ∙ sym (table_more i bits)
