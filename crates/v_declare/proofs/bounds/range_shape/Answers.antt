use Rattle.v_meaning.specs.Proper.{is_proper}
use Rattle.v_declare.proofs.Ranges.{is_so, vector_stays}
use Rattle.v_declare.proofs.bounds.range_shape.Goals as goal

pub returns-then-is_vector_range-clause-shape : goal.returns-then-is_vector_range-clause-shape
returns-then-is_vector_range-clause-shape c =
    vector_stays c.args.names.now c.args.range.now _ _ _
    (is_so (is_proper c.args.names.now c.args.range.now.msb.expr) c.args.range.now.msb.at c.in_ok-msb.ensures.judged)
    (is_so (is_proper c.args.names.now c.args.range.now.lsb.expr) c.args.range.now.lsb.at c.in_ok-lsb.ensures.judged) c.in_ok-msb.ensures.number c.in_ok-lsb.ensures.number c.vector.ensures
