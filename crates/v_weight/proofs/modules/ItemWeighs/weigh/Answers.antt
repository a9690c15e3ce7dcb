use Rattle.v_weight.proofs.Saturating.{same_refl}
use Rattle.v_weight.proofs.ModuleLaws.{when_wires, when_assigns, when_always}
use Rattle.v_weight.proofs.modules.ItemWeighs.weigh.Goals as goal

pub returns-in_ok-all-in-Wires : goal.returns-in_ok-all-in-Wires
returns-in_ok-all-in-Wires c = when_wires c.args.names.now c.args.self.now _ _ _ _ _ c.in-Wires.is c.as_slice.ensures c.in_ok-all-in-Wires.ensures

pub returns-in_ok-all-in-Assigns : goal.returns-in_ok-all-in-Assigns
returns-in_ok-all-in-Assigns c = when_assigns c.args.names.now c.args.self.now _ _ _ c.in-Assigns.is c.as_slice-in-Assigns.ensures c.in_ok-all-in-Assigns.ensures

pub returns-in_ok-all-in-Always : goal.returns-in_ok-all-in-Always
returns-in_ok-all-in-Always c =
    when_always c.args.names.now c.args.self.now _ _ _ c.in-Always.is (λ sound. c.in_ok-all-in-Always.ensures sound 0 (same_refl 0))
