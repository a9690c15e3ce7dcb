use Rattle.std.proofs.Common.{refl}
use Rattle.v_declare.proofs.Made.{pushed}
use Rattle.v_declare.proofs.groups.push_wire.Goals as goal

pub returns-clause-behind : goal.returns-clause-behind
returns-clause-behind c =
    pushed c.args.names.now _ _ c.args.range.now c.args.signed c.args.net.now.name _ _ _ _ c.in_ok-push.ensures.ok
    (c.in_ok-entry.ensures.entry c.args.names.now c.args.range.now c.requires.shape.here) c.net_kind-kind.ensures.kind refl
