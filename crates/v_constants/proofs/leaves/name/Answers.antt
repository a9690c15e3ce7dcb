use Rattle.v_constants.proofs.Steps.{name_opened, name_missed}
use Rattle.v_constants.proofs.leaves.name.Goals as goal

pub returns-in-Some : goal.returns-in-Some
returns-in-Some c =
    name_opened c.args.names.now c.args.ident.now c.leaf.result _ _ _ _ c.leaf.ensures.sense c.leaf.ensures.kept c.in-Some.ensures.value c.known-known.ensures.kind
    c.known-known.ensures.width c.known-known.ensures.signed

pub returns-in-None : goal.returns-in-None
returns-in-None c = name_missed c.args.names.now c.args.ident.now _ c.in-None.ensures.value c.known-known.ensures.kind
