use Rattle.std.proofs.Common.{map, refl}
use Rattle.v_uses.specs.Gathered.{written_in}
use Rattle.v_rules.specs.Groups.{blocking_in}
use Rattle.v_rules.proofs.Rounds.{gathered_all}
use Rattle.v_rules.proofs.Gathered.{blocking_next}
use Rattle.v_rules.proofs.idents.blocking_targets.Goals as goal

pub loop-write-preserved : goal.loop-write-preserved
loop-write-preserved c = blocking_next _ _ _ _ _ _ _ c.loop-write-test.true c.write-item.is c.in_ok-add_blocking.ensures c.loop-write.invariant

pub returns : goal.returns
returns c = gathered_all (λ ws. blocking_in (map written_in ws)) _ _ _ _ c.loop-write-test.false refl c.loop-write.invariant
