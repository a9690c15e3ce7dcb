use Rattle.std.proofs.Common.{sym, ◌∙◌}
use Rattle.v_small.proofs.Again.{one_spelling}
use Rattle.v_small.proofs.reading.one_module.Goals as goal

pub returns : goal.returns
returns c = λ tokens a b one other. one_spelling a b (sym one.spelled ∙ other.spelled)
