use Rattle.v_depends.proofs.Orders.{next_number}
use Rattle.v_depends.proofs.ordering.numbers_among.Goals as goal

pub loop-read-preserved : goal.loop-read-preserved
loop-read-preserved c = λ names n.
    next_number names c.args.reads.now c.loop-read.read-index c.read-item.result c.loop-read.row c.add_number.new.row c.loop-read-test.true c.read-item.is (c.in_ok-add_number.ensures names n)
    (c.loop-read.invariant names n)
