use Rattle.std.proofs.Common.{map}
use Rattle.v_syntax.specs.Small.{seen}
use Rattle.v_small.proofs.Again.{end_spelling, no_head, behind_head, no_body, in_one}
use Rattle.v_small.proofs.reading.take_module.Goals as goal

pub returns-in_default-clause-none : goal.returns-in_default-clause-none
returns-in_default-clause-none c = no_head (map seen c.args.tokens.now) (rw c.in_default.is at c.in_ok-name.ensures.same)

pub returns-in_default-2-clause-none : goal.returns-in_default-2-clause-none
returns-in_default-2-clause-none c = λ s spelled.
    (rw c.in_default-2.is at c.in_ok-ports.ensures.none) s.ports (end_spelling s)
    (behind_head c.in-Some.name c.in-Some.clock (map seen c.args.tokens.now) (map seen c.in-Some.rest.now) (rw c.in-Some.is at c.in_ok-name.ensures.found) s spelled).1

pub returns-in_default-3-clause-none : goal.returns-in_default-3-clause-none
returns-in_default-3-clause-none c = λ s spelled.
    no_body c.in-Some-2.ports (map seen c.in-Some.rest.now) (map seen c.in-Some-2.rest.now) (rw c.in-Some-2.is at c.in_ok-ports.ensures.found) (rw c.in-Some-2.is at c.in_ok-ports.ensures.last)
    (rw c.in_default-3.is at c.in_ok-event.ensures.same) s
    (behind_head c.in-Some.name c.in-Some.clock (map seen c.args.tokens.now) (map seen c.in-Some.rest.now) (rw c.in-Some.is at c.in_ok-name.ensures.found) s spelled).1

pub returns-clause-found : goal.returns-clause-found
returns-clause-found c =
    in_one c.in-Some.name c.in-Some.clock c.in-Some-3.event c.in-Some-3.target c.in-Some-2.ports c.in-Some-3.value (map seen c.args.tokens.now) (map seen c.in-Some.rest.now) (map seen c.in-Some-2.rest.now)
    (rw c.in-Some.is at c.in_ok-name.ensures.found) (rw c.in-Some-2.is at c.in_ok-ports.ensures.found) (rw c.in-Some-3.is at c.in_ok-event.ensures.found)
