use Rattle.std.proofs.Common.{◌≡◌, ℕ, List, true}
use Rattle.v_typing.specs.Sited.{AllRead}
use Rattle.v_statements.specs.Sited.{are_sited_open_items}
use Rattle.v_statements.specs.Cases.{open_item, source_item}
use Rattle.v_statements.specs.Forms.{Each, ItemFormed}
use Rattle.v_statements.proofs.Turns.{AreSame}
use Rattle.v_statements.proofs.items.opened_items.Given as goal

abbrev pub invariant-loop-item : goal.invariant-loop-item
invariant-loop-item l =
    AreSame (open_item l.names) (source_item l.names l.sites l.kind) l.all l.items l.item-index × Each (ItemFormed l.names) l.all
    × ((widths : List ℕ) → AllRead widths l.sites l.names l.items → are_sited_open_items l.all l.names widths ≡ true)
