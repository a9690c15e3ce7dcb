use Rattle.std.proofs.Common.{◌+◌, length, ap, arith, refl}
use Rattle.std.specs.Int.Bits.{bit_xor}
use Rattle.n_sim.proofs.Cells.{below_wider}
use Rattle.n_sim.proofs.Steps.{below_parts, extends_long, extends_on, extends_same, none_holds, table_holds, table_on}
use Rattle.n_sim.proofs.making.+put_table.Goals as goal

pub returns-in_default-clause-extends : goal.returns-in_default-clause-extends
returns-in_default-clause-extends t c = extends_same c.args.first c.args.steps.now c.requires.back

pub returns-in_default-clause-holds : goal.returns-in_default-clause-holds
returns-in_default-clause-holds t c = none_holds c.args.first c.args.steps.now c.args.table _ c.args.leaves.now c.requires.some c.in_default.ensures.cases refl

pub put_table-requires : goal.put_table-requires
put_table-requires t c =
    let there = rw c.in-Some.ensures.cases.0 at c.requires.there in
    let below = below_parts _ c.in-Some.others.now c.in-Some.last.now there in
    (omega (arith, c.in-Some.ensures.cases.1), (c.requires.back, (c.requires.some, (omega (arith, c.in-Some.ensures.cases.1, c.requires.few), below.0))))

pub put_table-requires-2 : goal.put_table-requires-2
put_table-requires-2 t c =
    let there = rw c.in-Some.ensures.cases.0 at c.requires.there in
    let below = below_parts _ c.in-Some.others.now c.in-Some.last.now there in
    let x = c.in_ok-base.ensures.extends in (
      omega (arith, c.in-Some.ensures.cases.1),
      (
        x.back,
        (
          c.requires.some,
          (
            omega (arith, c.in-Some.ensures.cases.1, c.requires.few),
            below_wider _ _ c.in-Some.others.now (omega (arith, extends_long c.args.first c.args.steps.now c.put_table.new.steps x)) below.0,
          ),
        ),
      ),
    )

pub put-requires-clause-there : goal.put-requires-clause-there
put-requires-clause-there t c =
    let there = rw c.in-Some.ensures.cases.0 at c.requires.there in
    let below = below_parts _ c.in-Some.others.now c.in-Some.last.now there in
    let long = extends_long c.args.first c.args.steps.now c.put_table.new.steps c.in_ok-base.ensures.extends in
    let more = extends_long c.args.first c.put_table.new.steps c.put_table-2.new.steps c.in_ok-change.ensures.extends in
    (omega (arith, c.in_ok-base.ensures.holds.there, more), c.in_ok-change.ensures.holds.there, omega (arith, below.1, long, more))

pub returns-clause-extends : goal.returns-clause-extends
returns-clause-extends t c =
    extends_on c.args.first c.args.steps.now c.put_table.new.steps c.put.new.steps c.in_ok-base.ensures.extends
    (extends_on c.args.first c.put_table.new.steps c.put_table-2.new.steps c.put.new.steps c.in_ok-change.ensures.extends c.in_ok-place.ensures.extends)

pub returns-clause-holds : goal.returns-clause-holds
returns-clause-holds t c =
    let there = rw c.in-Some.ensures.cases.0 at c.requires.there in
    let others = c.in-Some.others.now in
    let below = below_parts _ others c.in-Some.last.now there in
    let first = c.args.first in
    let one = c.put_table.new.steps in
    let two = c.put_table-2.new.steps in
    let all = c.put.new.steps in
    let here = below_wider _ (first + length one) others (omega (arith, extends_long first c.args.steps.now one c.in_ok-base.ensures.extends)) below.0 in
    let on = below_wider _ (first + length two) others (omega (arith, extends_long first one two c.in_ok-change.ensures.extends)) here in
    table_holds first all c.args.table _ c.in_ok-base.base c.in_ok-change.change c.in-Some.last.now c.in_ok-place.place others c.args.leaves.now
    c.in-Some.ensures.cases.0 (ap (bit_xor c.args.table) c.upper_half.ensures)
    (table_on first one all c.in_ok-base.base c.args.table others (extends_on first one two all c.in_ok-change.ensures.extends c.in_ok-place.ensures.extends) here c.in_ok-base.ensures.holds)
    (table_on first two all c.in_ok-change.change _ others c.in_ok-place.ensures.extends on c.in_ok-change.ensures.holds)
    c.in_ok-place.ensures.holds
