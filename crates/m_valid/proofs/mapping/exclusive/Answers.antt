use Rattle.std.proofs.Common.{ap, ◌∙◌, sym, Bool}
use mathlib.Core.Bool.{xor}
use Rattle.m_valid.proofs.Plainly.{exclusive_true, exclusive_false}
use Rattle.m_valid.proofs.mapping.exclusive.Goals as goal

pub returns-then-a : goal.returns-then-a
returns-then-a c = exclusive_true c.args.b ∙ ap (λ (a : Bool). xor a c.args.b) (sym c.if-a.true)

pub returns-else-a : goal.returns-else-a
returns-else-a c = exclusive_false c.args.b ∙ ap (λ (a : Bool). xor a c.args.b) (sym c.if-a.false)
