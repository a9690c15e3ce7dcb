use Rattle.std.proofs.Common.{◌≤◌, arith, ap, length}
use Rattle.lz_base.specs.Limits.{source_limit}
use Rattle.s_cli.proofs.Traced.{prepares_whole}
use Rattle.s_cli.proofs.source_run.source_of.Goals as goal

pub returns-in-Some-clause-prepares : goal.returns-in-Some-clause-prepares
returns-in-Some-clause-prepares c =
    let short = rw c.in-Some.is at c.requires in
    let within : length c.in-Some.bytes.items ≤ source_limit = omega (arith, short, c.as_slice.ensures.len, ap length c.as_slice.ensures.value) in
    rw c.in-Some.is (prepares_whole c.in-Some.bytes c.runnable.result within (rw c.as_slice.ensures.value at c.runnable.ensures))
