use Rattle.g_build.proofs.Sums.{literals_have, carry_has}
use Rattle.g_build.proofs.building.Builder.carry.Goals as goal

pub returns-in-Some-clause-sum : goal.returns-in-Some-clause-sum
returns-in-Some-clause-sum g c =
    (literals_have c.args.self.now.part (c.args.a, c.args.b, c.args.c) _ _ c.in_order-trio.ensures c.in-Some.ensures (c.requires.first, c.requires.second, c.requires.third)).0

pub returns-in-Some-clause-majority : goal.returns-in-Some-clause-majority
returns-in-Some-clause-majority g c =
    (literals_have c.args.self.now.part (c.args.a, c.args.b, c.args.c) _ _ c.in_order-trio.ensures c.in-Some.ensures (c.requires.first, c.requires.second, c.requires.third)).1

pub returns-in_ok-node-in-None-clause-sum : goal.returns-in_ok-node-in-None-clause-sum
returns-in_ok-node-in-None-clause-sum g c =
    (carry_has c.two_literals.ensures.even c.place.new.self (c.args.a, c.args.b, c.args.c) _ _ c.in_order-trio.ensures c.in_ok-node-in-None.ensures.stands c.in_ok-node-in-None.ensures.within).0

pub returns-in_ok-node-in-None-clause-majority : goal.returns-in_ok-node-in-None-clause-majority
returns-in_ok-node-in-None-clause-majority g c =
    (carry_has c.two_literals.ensures.even c.place.new.self (c.args.a, c.args.b, c.args.c) _ _ c.in_order-trio.ensures c.in_ok-node-in-None.ensures.stands c.in_ok-node-in-None.ensures.within).1
