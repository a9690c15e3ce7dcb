use Rattle.std.proofs.Common.{◌∙◌, arith}
use Rattle.v_depends.proofs.Edges.{rows_next}
use Rattle.v_depends.proofs.rows.rows_of.Goals as goal

pub loop-edge-preserved : goal.loop-edge-preserved
loop-edge-preserved c = record {
  long = c.in_ok-add_source.ensures.long ∙ c.loop-edge.invariant.long;
  each = λ node within. rows_next c.loop-edge.rows.items c.add_source.new.rows.items c.args.edges.now c.loop-edge.edge-index node c.loop-edge-test.true
      (c.in_ok-add_source.ensures.each node (omega (arith, c.loop-edge.invariant.long))) (c.loop-edge.invariant.each node within);
}
