use Rattle.lz_base.specs.Names.{is_among}
use Rattle.v_rules.proofs.Rounds.{next_place, ended_places}
use Rattle.v_rules.proofs.Sets.{tested}
use Rattle.v_rules.proofs.places.first_met.Goals as goal

pub loop-ident-preserved : goal.loop-ident-preserved
loop-ident-preserved c names met =
    next_place (λ name. is_among name names) _ _ _ _ _ _ _ _ c.loop-ident-test.true c.ident-item.is (tested _ _ _ names c.bytes.ensures.value (c.is_met.ensures names met)) c.note-first.ensures (c.loop-ident.invariant names met)

pub returns : goal.returns
returns c names met = ended_places (λ name. is_among name names) _ _ _ _ c.loop-ident-test.false (c.loop-ident.invariant names met)
