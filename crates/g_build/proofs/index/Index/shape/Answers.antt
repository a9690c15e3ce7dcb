use Rattle.std.proofs.Common.{◌∙◌}
use Rattle.g_build.proofs.Indexing.{owner_within, owner_shape, shape_beyond}
use Rattle.g_build.proofs.index.Index.shape.Goals as goal

pub gate_at-requires : goal.gate_at-requires
gate_at-requires c = owner_within c.args.self.now c.args.gates.now c.as_slice-owners.result.now c.args.place c.requires c.as_slice-owners.ensures.value c.if-owners-place.false

pub returns : goal.returns
returns c =
    c.shape_of.ensures ∙ owner_shape c.args.self.now c.args.gates.now c.as_slice-owners.result.now c.args.place _ c.requires c.as_slice-owners.ensures.value c.if-owners-place.false c.gate_at.ensures

pub returns-then-owners-place : goal.returns-then-owners-place
returns-then-owners-place c = shape_beyond c.args.self.now c.args.gates.now c.as_slice-owners.result.now c.args.place c.requires c.as_slice-owners.ensures.value c.if-owners-place.true
