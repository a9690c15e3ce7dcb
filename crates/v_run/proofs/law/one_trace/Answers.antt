use Rattle.std.proofs.Common.{sym}
use Rattle.v_run.proofs.law.one_trace.Goals as goal

pub returns : goal.returns
returns c = λ d choices stimulus one other a b. sym (a.every b.some.0 other b.some.1 b.some.2)
