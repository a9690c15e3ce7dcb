use Rattle.std.proofs.Common.{◌+◌, map, take, get_or}
use Rattle.std.proofs.lemmas.List.{map_more}
use Rattle.m_valid.specs.Validity.{half}
use Rattle.m_valid.proofs.Flagging.{tells_on}
use Rattle.m_valid.proofs.flags.set_nodes.Goals as goal

pub loop-literal-preserved : goal.loop-literal-preserved
loop-literal-preserved c = λ before h.
    let i = c.loop-literal.literal-index in
    let all = c.args.literals.now in
    tells_on _ before (map half (take i all)) (map half (take (i + 1) all)) (half (get_or all i 0)) (map_more half all i 0 c.loop-literal-test.true) (c.set_flag.ensures _ (c.loop-literal.invariant before h))
