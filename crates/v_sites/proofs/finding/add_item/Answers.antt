use Rattle.v_sites.proofs.Adding.{same_more, on_ok}
use Rattle.v_sites.proofs.Sound.{nets_sound, settings_sound, process_sound}
use Rattle.v_sites.proofs.ItemSites.{when_wires, when_assigns, when_always}
use Rattle.v_sites.proofs.finding.add_item.Goals as goal

pub returns-in-Wires : goal.returns-in-Wires
returns-in-Wires c =
    on_ok c.add_nets.result (same_more (nets_sound c.args.names.now c.args.item.now _ _ _ _ c.in-Wires.is c.as_slice.ensures) (when_wires c.args.names.now c.args.item.now _ _ _ _ c.in-Wires.is c.as_slice.ensures)) c.add_nets.ensures

pub returns-in-Assigns : goal.returns-in-Assigns
returns-in-Assigns c =
    on_ok c.add_settings.result (same_more (settings_sound c.args.names.now c.args.item.now _ _ c.in-Assigns.is c.as_slice-in-Assigns.ensures) (when_assigns c.args.names.now c.args.item.now _ _ c.in-Assigns.is c.as_slice-in-Assigns.ensures))
    c.add_settings.ensures

pub returns-in-Always : goal.returns-in-Always
returns-in-Always c = on_ok c.add_stmt.result (same_more (process_sound c.args.names.now c.args.item.now _ _ c.in-Always.is) (when_always c.args.names.now c.args.item.now _ _ c.in-Always.is)) c.add_stmt.ensures
