use Rattle.std.proofs.Common.{◌+◌, [], ◌∷◌, take, flat_map, map, get_or, subst, sym, ℕ, false}
use Rattle.g_net.specs.Network.{FlipsBelow}
use Rattle.m_valid.specs.Validity.{half, flip_uses}
use Rattle.m_valid.proofs.Flagging.{flips_there, tells_all, tells_end}
use Rattle.m_valid.proofs.Lists.{flat_map_take}
use Rattle.m_valid.proofs.needs.flag_flips.Goals as goal

pub set_nodes-requires : goal.set_nodes-requires
set_nodes-requires c = flips_there _ c.args.flips.now c.loop-flip.flip-index _ (subst (λ (count : ℕ). FlipsBelow count c.args.flips.now) (sym c.loop-flip.auto.flags) c.requires) c.loop-flip-test.true

pub loop-flip-preserved : goal.loop-flip-preserved
loop-flip-preserved c = λ before h.
    let i = c.loop-flip.flip-index in
    let all = c.args.flips.now in
    let f = get_or all i (record { first = false; literal = 0; enable = 0 }) in
    tells_all _ before (flat_map flip_uses (take i all)) (map half (f.literal ∷ f.enable ∷ [])) (flat_map flip_uses (take (i + 1) all)) (flat_map_take flip_uses all i (record { first = false; literal = 0; enable = 0 }) c.loop-flip-test.true)
    (c.set_nodes.ensures _ (c.loop-flip.invariant before h))

pub returns : goal.returns
returns c = λ before h. tells_end _ before flip_uses c.args.flips.now c.loop-flip.flip-index c.loop-flip-test.false (c.loop-flip.invariant before h)
