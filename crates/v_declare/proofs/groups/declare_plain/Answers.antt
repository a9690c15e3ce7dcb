use Rattle.v_declare.proofs.Made.{pushed}
use Rattle.v_declare.proofs.groups.declare_plain.Goals as goal

pub returns-clause-behind : goal.returns-clause-behind
returns-clause-behind c =
    let s = c.requires.shape.here in
    pushed c.args.names.now _ _ c.args.range.now c.args.signed c.args.variable.now.name _ _ _ _ c.in_ok-push.ensures.ok
    (c.in_ok-entry.ensures.entry c.args.names.now c.args.range.now s) c.variable_kind-kind.ensures.kind (c.in_ok-first.ensures.value c.args.range.now s)
