use Rattle.std.proofs.Common.{refl, map, flat_map}
use Rattle.v_uses.specs.Gathered.{process_in}
use Rattle.v_rules.specs.Groups.{elsewhere_at}
use Rattle.v_rules.proofs.Rounds.{round, ended}
use Rattle.v_rules.proofs.variables.first_elsewhere.Goals as goal

pub loop-process-preserved : goal.loop-process-preserved
loop-process-preserved c ms ss m s =
    round (λ ps. flat_map (elsewhere_at ms ss) (map process_in ps)) (λ ps. flat_map (elsewhere_at ms ss) (map process_in ps)) _ _ _ _ _ _ _ _ c.loop-process-test.true c.process-item.is refl (c.in_ok-first.ensures ms ss m s) (c.loop-process.invariant ms ss m s)

pub returns : goal.returns
returns c ms ss m s = ended (λ ps. flat_map (elsewhere_at ms ss) (map process_in ps)) _ _ _ _ c.loop-process-test.false refl (c.loop-process.invariant ms ss m s)
