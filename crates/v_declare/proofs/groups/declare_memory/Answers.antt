use Rattle.std.proofs.Common.{refl}
use Rattle.v_declare.proofs.Made.{pushed, memory_is}
use Rattle.v_declare.proofs.groups.declare_memory.Goals as goal

pub returns-clause-behind : goal.returns-clause-behind
returns-clause-behind c =
    pushed c.args.names.now _ _ c.args.range.now c.args.signed c.args.name.now _ _ _ _ c.in_ok-push.ensures.ok
    (c.in_ok-entry.ensures.entry c.args.names.now c.args.range.now c.requires.shape.here)
    (memory_is _ _ _ _ _ _ c.memories.ensures c.in_ok-words.ensures.lowest c.in_ok-words.ensures.count) refl
