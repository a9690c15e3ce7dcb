use Rattle.std.proofs.Common.{◌≡◌, drop}
use Rattle.v_meaning.specs.Views.{applied}
use Rattle.v_values.specs.Writes.{writes_in}
use Rattle.v_values.proofs.writing.apply.Given as goal

abbrev pub invariant-loop-write : goal.invariant-loop-write
invariant-loop-write l = record {
  view : applied l.now.view (writes_in (drop l.write-index l.writes)) ≡ applied l.fn.now.view (writes_in l.writes);
  shape : l.now.shape ≡ l.fn.now.shape;
}
