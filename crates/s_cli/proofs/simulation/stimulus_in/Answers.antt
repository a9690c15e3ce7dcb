use Rattle.std.proofs.Common.{◌≤◌, arith, ap, length}
use Rattle.lz_base.specs.Limits.{text_limit}
use Rattle.s_cli.proofs.Simulated.{drives_whole}
use Rattle.s_cli.proofs.simulation.stimulus_in.Goals as goal

pub returns-in-Some-clause-drives : goal.returns-in-Some-clause-drives
returns-in-Some-clause-drives c =
    let short = rw c.in-Some.is at c.requires.short in
    let within : length c.in-Some.bytes.items ≤ text_limit = omega (arith, short, c.as_slice.ensures.len, ap length c.as_slice.ensures.value) in
    let read = c.read_stimulus.ensures in
    rw c.in-Some.is (drives_whole _ c.in-Some.bytes c.read_stimulus.result within (rw c.as_slice.ensures.value at read.found) (rw c.as_slice.ensures.value at read.only) (rw c.as_slice.ensures.value at read.fault))
