use Rattle.std.proofs.Common.{length, List, map}
use Rattle.v_meaning.specs.declared.names.Entry.{Entry}
use Rattle.v_statements.specs.declared.items.OpenItem.{OpenItem}
use Rattle.v_statements.specs.Cases.{comparison_in, item_at, open_item, typed_item}
use Rattle.v_statements.specs.Forms.{item_form, open_item_form}
use Rattle.v_statements.specs.Sited.{is_sited_item, is_sited_open_item}
use Rattle.v_statements.proofs.Turns.{AreLeft}
use Rattle.v_statements.proofs.items.fixed_items.Given as goal

-- the items that are left, and behind them those that are fixed
abbrev pub invariant-loop-item : goal.invariant-loop-item
invariant-loop-item l =
    ((names : List Entry) → AreLeft (typed_item names) (λ (o : OpenItem). item_at (comparison_in l.by) (open_item names o)) l.fixed.items l.left
    (map (λ (o : OpenItem). item_at (comparison_in l.by) (open_item names o)) l.initial.left))
    × ((names : List Entry) → AreLeft (item_form names) (open_item_form names l.by) l.fixed.items l.left (map (open_item_form names l.by) l.initial.left))
    × AreLeft is_sited_item is_sited_open_item l.fixed.items l.left (map is_sited_open_item l.initial.left)

abbrev pub decreases-loop-item : goal.decreases-loop-item
decreases-loop-item l = length l.left
