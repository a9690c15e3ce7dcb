use Rattle.v_values.proofs.Writes.{this_fits}
use Rattle.v_values.proofs.writing.apply.Goals as goal

pub write-requires : goal.write-requires
write-requires c = record { fits = this_fits _ _ c.args.writes.now _ _ c.loop-write-test.true c.loop-write.invariant.shape c.requires.fit }
