use Rattle.std.proofs.Common.{arith}
use Rattle.n_sim.proofs.Steps.{carry_holds, extends_long, extends_on, step_on, sum_holds, xor_on}
use Rattle.n_sim.proofs.making.put_carry.Goals as goal

pub returns-clause-extends : goal.returns-clause-extends
returns-clause-extends c =
    let first = c.args.first in
    let one = c.put_xor.new.steps in
    let two = c.put_xor-2.new.steps in
    let three = c.put.new.steps in
    let all = c.put-2.new.steps in
    extends_on first c.args.steps.now one all c.in_ok-either.ensures.extends
    (extends_on first one two all c.in_ok-sum.ensures.extends (extends_on first two three all c.in_ok-both.ensures.extends c.in_ok-carry.ensures.extends))

pub returns-clause-sum : goal.returns-clause-sum
returns-clause-sum c =
    let first = c.args.first in
    let one = c.put_xor.new.steps in
    let two = c.put_xor-2.new.steps in
    let three = c.put.new.steps in
    let all = c.put-2.new.steps in
    let long = extends_long first c.args.steps.now one c.in_ok-either.ensures.extends in
    let more = extends_long first one two c.in_ok-sum.ensures.extends in
    let rest = extends_on first two three all c.in_ok-both.ensures.extends c.in_ok-carry.ensures.extends in
    sum_holds first all c.args.a c.args.b c.args.c c.in_ok-either.either c.in_ok-sum.sum
    (xor_on first one all c.in_ok-either.either c.args.b c.args.c (extends_on first one two all c.in_ok-sum.ensures.extends rest)
    (omega (arith, c.requires.b_there, long)) (omega (arith, c.requires.c_there, long)) c.in_ok-either.ensures.holds)
    (xor_on first two all c.in_ok-sum.sum c.args.a c.in_ok-either.either rest
    (omega (arith, c.requires.a_there, long, more)) (omega (arith, c.in_ok-either.ensures.holds.there, more)) c.in_ok-sum.ensures.holds)

pub returns-clause-carry : goal.returns-clause-carry
returns-clause-carry c =
    let first = c.args.first in
    let one = c.put_xor.new.steps in
    let two = c.put_xor-2.new.steps in
    let three = c.put.new.steps in
    let all = c.put-2.new.steps in
    let long = extends_long first c.args.steps.now one c.in_ok-either.ensures.extends in
    let more = extends_long first one two c.in_ok-sum.ensures.extends in
    let most = extends_long first two three c.in_ok-both.ensures.extends in
    let rest = extends_on first two three all c.in_ok-both.ensures.extends c.in_ok-carry.ensures.extends in
    carry_holds first all c.args.a c.args.b c.args.c c.in_ok-either.either c.in_ok-both.both c.in_ok-carry.carry c.requires.some
    (xor_on first one all c.in_ok-either.either c.args.b c.args.c (extends_on first one two all c.in_ok-sum.ensures.extends rest)
    (omega (arith, c.requires.b_there, long)) (omega (arith, c.requires.c_there, long)) c.in_ok-either.ensures.holds)
    (step_on first three all c.in_ok-both.both (record { base = 0; change = c.args.b; by = c.args.c }) c.in_ok-carry.ensures.extends
    (omega (arith, c.requires.some), omega (arith, c.requires.b_there, long, more, most), omega (arith, c.requires.c_there, long, more, most)) c.in_ok-both.ensures.holds)
    c.in_ok-carry.ensures.holds
