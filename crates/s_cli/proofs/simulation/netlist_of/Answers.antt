use Rattle.std.proofs.Common.{◌≤◌, arith, ap, length}
use Rattle.lz_base.specs.Limits.{text_limit}
use Rattle.n_cells.specs.declared.format.Format.TheVariants.{Two}
use Rattle.s_cli.proofs.Simulated.{reads_whole}
use Rattle.s_cli.proofs.simulation.netlist_of.Goals as goal

pub returns-in-Some : goal.returns-in-Some
returns-in-Some c =
    let short = rw c.in-Some.is at c.requires in
    let within : length c.in-Some.bytes.items ≤ text_limit = omega (arith, short, c.as_slice.ensures.len, ap length c.as_slice.ensures.value) in
    rw c.in-Some.is (reads_whole Two c.in-Some.bytes c.read.result within (rw c.as_slice.ensures.value at c.read.ensures.text) c.read.ensures.formed (rw c.as_slice.ensures.value at c.read.ensures.only) (rw c.as_slice.ensures.value at c.read.ensures.fault))
