use Rattle.std.proofs.Common.{◌==◌, ap, sym, ◌∙◌}
use Rattle.std.proofs.lemmas.Nat.Bits.{bit_at_set_same, bit_at_set_other, bit_at_clear_same, bit_at_clear_other}
use Rattle.std.specs.Int.{w64}
use Rattle.s_flow.proofs.transposing.with_bit.Goals as goal

pub returns-then-bit-clause-own : goal.returns-then-bit-clause-own
returns-then-bit-clause-own c = ap (λ k. k == 1) (bit_at_set_same w64 c.args.lanes c.args.index c.requires) ∙ sym c.if-bit.true

pub returns-then-bit-clause-others : goal.returns-then-bit-clause-others
returns-then-bit-clause-others c = λ other _ ne. bit_at_set_other w64 c.args.lanes c.args.index c.requires other ne

pub returns-else-bit-clause-own : goal.returns-else-bit-clause-own
returns-else-bit-clause-own c = ap (λ k. k == 1) (bit_at_clear_same w64 c.args.lanes c.args.index c.requires) ∙ sym c.if-bit.false

pub returns-else-bit-clause-others : goal.returns-else-bit-clause-others
returns-else-bit-clause-others c = λ other below ne. bit_at_clear_other w64 c.args.lanes c.args.index c.requires other below ne
