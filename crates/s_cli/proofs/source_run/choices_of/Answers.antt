use Rattle.std.proofs.Common.{◌≤◌, arith, ap, length}
use Rattle.lz_base.specs.Limits.{text_limit}
use Rattle.s_cli.proofs.Traced.{chooses_whole}
use Rattle.s_cli.proofs.source_run.choices_of.Goals as goal

pub returns-in-Some-clause-chooses : goal.returns-in-Some-clause-chooses
returns-in-Some-clause-chooses c =
    let short = rw c.in-Some.is at c.requires in
    let within : length c.in-Some.bytes.items ≤ text_limit = omega (arith, short, c.as_slice.ensures.len, ap length c.as_slice.ensures.value) in
    let read = c.choices_for.ensures in
    rw c.in-Some.is (chooses_whole _ _ c.in-Some.bytes c.choices_for.result within (rw c.as_slice.ensures.value at read.found) (rw c.as_slice.ensures.value at read.only) (rw c.as_slice.ensures.value at read.fault))
