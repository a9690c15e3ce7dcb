use Rattle.v_declare.proofs.Made.{pushed}
use Rattle.v_declare.proofs.groups.declare_port.Goals as goal

pub returns-clause-behind : goal.returns-clause-behind
returns-clause-behind c =
    let s = c.requires.shape.here in
    pushed c.args.names.now _ _ c.args.group.now.range c.args.group.now.signed c.args.port.now.name _ _ _ _ c.in_ok-push.ensures.ok
    (c.in_ok-entry.ensures.entry c.args.names.now c.args.group.now.range s) (c.port_kind-kind.ensures.kind c.args.group.now.range s.width) (c.in_ok-first.ensures.value c.args.group.now.range s)
