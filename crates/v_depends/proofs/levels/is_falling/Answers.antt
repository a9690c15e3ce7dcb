use Rattle.std.proofs.Common.{◌≤◌, ℕ, slice_index_or, arith}
use Rattle.std.proofs.lemmas.List.Elements.{All-more}
use Rattle.v_depends.proofs.levels.is_falling.Goals as goal

pub loop-edge-preserved : goal.loop-edge-preserved
loop-edge-preserved c =
    All-more (λ (e : ℕ × ℕ). slice_index_or c.args.levels.now e.1 0 ≤ slice_index_or c.args.levels.now e.0 0) c.args.edges.now c.loop-edge.edge-index (0, 0) c.loop-edge-test.true c.loop-edge.invariant
    (omega (arith, c.if-level_of.false, c.level_of.ensures, c.level_of-in-loop-edge.ensures))
