use Rattle.std.proofs.Common.{◌≤◌, arith, ap, length}
use Rattle.lz_base.specs.Limits.{text_limit}
use Rattle.s_cli.proofs.Traced.{schedules_whole}
use Rattle.s_cli.proofs.source_run.schedules_of.Goals as goal

pub returns-in-Some-clause-schedules : goal.returns-in-Some-clause-schedules
returns-in-Some-clause-schedules c =
    let short = rw c.in-Some.is at c.requires in
    let within : length c.in-Some.bytes.items ≤ text_limit = omega (arith, short, c.as_slice.ensures.len, ap length c.as_slice.ensures.value) in
    let read = c.schedules_for.ensures in
    rw c.in-Some.is (schedules_whole _ _ c.in-Some.bytes c.schedules_for.result within (rw c.as_slice.ensures.value at read.found) (rw c.as_slice.ensures.value at read.only) (rw c.as_slice.ensures.value at read.fault))
