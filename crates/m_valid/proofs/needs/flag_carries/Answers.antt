use Rattle.std.proofs.Common.{◌+◌, take, flat_map, get_or, subst, sym, ℕ}
use Rattle.g_net.specs.declared.network.Gate.TheVariants.{And}
use Rattle.g_net.specs.Network.{ReadsBelow}
use Rattle.m_valid.specs.Validity.{carry_uses}
use Rattle.m_valid.proofs.Flagging.{tells_all, tells_end}
use Rattle.m_valid.proofs.Lists.{flat_map_take}
use Rattle.m_valid.proofs.needs.flag_carries.Goals as goal

pub flag_carry-requires : goal.flag_carry-requires
flag_carry-requires c =
    subst (λ (count : ℕ). ReadsBelow count (get_or c.args.gates.now c.loop-gate.gate-index (And 0 0))) (sym c.loop-gate.auto.flags) (c.requires c.loop-gate.gate-index c.loop-gate-test.true)

pub loop-gate-preserved : goal.loop-gate-preserved
loop-gate-preserved c = λ before h.
    let i = c.loop-gate.gate-index in
    let all = c.args.gates.now in
    tells_all _ before (flat_map carry_uses (take i all)) (carry_uses (get_or all i (And 0 0))) (flat_map carry_uses (take (i + 1) all)) (flat_map_take carry_uses all i (And 0 0) c.loop-gate-test.true)
    (c.flag_carry.ensures _ (c.loop-gate.invariant before h))

pub returns : goal.returns
returns c = λ before h. tells_end _ before carry_uses c.args.gates.now c.loop-gate.gate-index c.loop-gate-test.false (c.loop-gate.invariant before h)
