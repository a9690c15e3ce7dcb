use Rattle.v_uses.proofs.Adding.{same_more, on_ok}
use Rattle.v_uses.proofs.ItemUses.{wires_assign, settings_assign}
use Rattle.v_uses.proofs.gathering.add_item_assigns.Goals as goal

pub returns-in-Wires : goal.returns-in-Wires
returns-in-Wires c = on_ok c.add_wires.result (same_more (λ names. names) (wires_assign _ _ _ _ _ c.in-Wires.is c.as_slice.ensures)) c.add_wires.ensures

pub returns-in-Assigns : goal.returns-in-Assigns
returns-in-Assigns c = on_ok c.add_settings.result (same_more (λ names. names) (settings_assign _ _ _ c.in-Assigns.is c.as_slice-in-Assigns.ensures)) c.add_settings.ensures
