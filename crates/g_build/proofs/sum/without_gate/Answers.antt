use Rattle.g_build.proofs.Sums.{equal_first, equal_last, apart_first, apart_last}
use Rattle.g_build.proofs.sum.without_gate.Goals as goal

pub returns-then-a-b : goal.returns-then-a-b
returns-then-a-b c = equal_first c.args.trio c.if-a-b.true

pub returns-then-b-c : goal.returns-then-b-c
returns-then-b-c c = equal_last c.args.trio c.if-b-c.true

pub returns-then-a-inverse : goal.returns-then-a-inverse
returns-then-a-inverse c = apart_first c.inverted_values.ensures.value c.inverted_values.ensures.node c.args.trio _ _ c.inverse.ensures c.if-a-inverse.true c.inverse-then-a-inverse.ensures

pub returns-then-b-inverse : goal.returns-then-b-inverse
returns-then-b-inverse c = apart_last c.inverted_values.ensures.value c.inverted_values.ensures.node c.args.trio _ _ c.inverse-else-a-inverse.ensures c.if-b-inverse.true c.inverse-then-b-inverse.ensures
