use Rattle.v_depends.proofs.Places.{number_known, number_new}
use Rattle.v_depends.proofs.graph.number.Goals as goal

pub returns-in-Some : goal.returns-in-Some
returns-in-Some c = λ names n. number_known c.args.numbers.now names c.args.name c.in-Some.number.now c.in-Some.ensures.value n

pub returns-in_ok-insert-in-None : goal.returns-in_ok-insert-in-None
returns-in_ok-insert-in-None c = λ names n.
    number_new c.args.numbers.now c.insert.new.self names c.args.name c.len-number.result c.in_ok-insert-in-None.field-0 c.in-None.ensures.value c.len-number.ensures.len c.in_ok-insert-in-None.ensures.updates
    c.in_ok-insert-in-None.ensures.old c.in_ok-insert-in-None.ensures.len n
