use Rattle.v_rules.proofs.Rounds.{next_place, ended_places}
use Rattle.v_rules.proofs.places.first_among.Goals as goal

pub loop-ident-preserved : goal.loop-ident-preserved
loop-ident-preserved g c passes tests = next_place passes _ _ _ _ _ _ _ _ c.loop-ident-test.true c.ident-item.is (tests _ _ c.test.ensures) c.note-first.ensures (c.loop-ident.invariant passes tests)

pub returns : goal.returns
returns g c passes tests = ended_places passes _ _ _ _ c.loop-ident-test.false (c.loop-ident.invariant passes tests)
