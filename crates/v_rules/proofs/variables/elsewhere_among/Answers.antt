use Rattle.v_rules.specs.Groups.{is_elsewhere}
use Rattle.v_rules.proofs.Rounds.{next_place, ended_places}
use Rattle.v_rules.proofs.variables.elsewhere_among.Goals as goal

pub loop-ident-preserved : goal.loop-ident-preserved
loop-ident-preserved c ms ss os m s o =
    next_place (is_elsewhere ms ss os) _ _ _ _ _ _ _ _ c.loop-ident-test.true c.ident-item.is (c.is_elsewhere.ensures ms ss os m s o) c.note-first.ensures (c.loop-ident.invariant ms ss os m s o)

pub returns : goal.returns
returns c ms ss os m s o = ended_places (is_elsewhere ms ss os) _ _ _ _ c.loop-ident-test.false (c.loop-ident.invariant ms ss os m s o)
