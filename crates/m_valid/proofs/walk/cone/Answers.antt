use Rattle.std.proofs.Common.{Bool, length, subst, arith}
use Rattle.m_valid.specs.Walk.{known, IsTurn}
use Rattle.m_valid.proofs.Turns.{leaves_there, walk_begins}
use Rattle.m_valid.proofs.walk.cone.Goals as goal

pub mark_leaves-requires-clause-there : goal.mark_leaves-requires-clause-there
mark_leaves-requires-clause-there c = λ k lt.
    omega (arith, c.requires.marked, leaves_there (length c.args.nodes.now) c.args.line.now c.as_slice.result.now c.requires.ready c.as_slice.ensures k lt)

pub walk-init : goal.walk-init
walk-init c = record {
  walking = walk_begins c.args.nodes.now c.args.line.now (known c.mark_leaves.new.marks c.args.number) c.as_slice.result.now c.clear.new.self.items c.requires.before c.as_slice.ensures c.clear.ensures.items c.mark_leaves.ensures.tables;
  later = c.mark_leaves.ensures.later;
}

pub walk-preserved : goal.walk-preserved
walk-preserved c =
    let turned = subst (λ (b : Bool). IsTurn c.args.nodes.now c.args.line.now c.args.number c.walk.marks c.turn.new.marks c.walk.path.items c.turn.new.path.items b) c.if-not-goes_on.false c.in_ok-goes_on-in-None.ensures.turn in
    record {
      walking = turned.0;
      later = λ later k before none. c.turn.ensures.later later k before (c.walk.invariant.later later k before none);
    }

pub walk-smaller : goal.walk-smaller
walk-smaller c =
    let turned = subst (λ (b : Bool). IsTurn c.args.nodes.now c.args.line.now c.args.number c.walk.marks c.turn.new.marks c.walk.path.items c.turn.new.path.items b) c.if-not-goes_on.false c.in_ok-goes_on-in-None.ensures.turn in
    turned.1

pub returns-then-not-goes_on-clause-cone : goal.returns-then-not-goes_on-clause-cone
returns-then-not-goes_on-clause-cone c =
    subst (λ (b : Bool). IsTurn c.args.nodes.now c.args.line.now c.args.number c.walk.marks c.turn.new.marks c.walk.path.items c.turn.new.path.items b) c.if-not-goes_on.true c.in_ok-goes_on-in-None.ensures.turn
