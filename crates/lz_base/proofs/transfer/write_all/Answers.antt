-- One more write appends the next bytes.
use Rattle.std.proofs.Common.{arith}
use Rattle.std.proofs.KnownBytes.{Appends-trans}
use Rattle.std.proofs.lemmas.Grind.{common_steps}
use Rattle.lz_base.proofs.Pieces.{take-next}
use Rattle.lz_base.proofs.transfer.write_all.Goals as goal

pub loop-sent-preserved : goal.loop-sent-preserved
loop-sent-preserved g c =
    let more = Appends-trans _ _ _ _ _ c.loop-sent.invariant.1 c.in-Ok.ensures.bytes in (
      grind (arith, common_steps, c.in-Ok.ensures.bound),
      rw take-next at more,
      cc (c.loop-sent.invariant.2, c.in-Ok.ensures.tells),
      cc (c.in-Ok.ensures.cause.kept),
    )
