use Rattle.std.proofs.Common.{map}
use Rattle.v_syntax.specs.Small.{seen}
use Rattle.v_small.proofs.Again.{no_ports, fewer_left}
use Rattle.v_small.proofs.reading.take_ports.Goals as goal

pub loop-next-smaller : goal.loop-next-smaller
loop-next-smaller c = fewer_left c.in-Some-2.port c.loop-next.left.now c.in-Some.next.now c.in-Some-2.rest.now c.in-Some.ensures.found (rw c.in-Some-2.is at c.in_ok-port.ensures.found)

pub returns-in-None-clause-none : goal.returns-in-None-clause-none
returns-in-None-clause-none c =
    no_ports c.loop-next.ports (map seen c.args.tokens.now) (map seen c.loop-next.left.now) (map seen c.in-Some.next.now) c.loop-next.invariant c.in-Some.ensures.found (rw c.in-None.is at c.in_ok-port.ensures.same)
