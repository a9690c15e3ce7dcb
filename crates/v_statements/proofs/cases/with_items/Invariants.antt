use Rattle.std.proofs.Common.{◌≡◌, drop, List, map}
use Rattle.v_meaning.specs.declared.names.Entry.{Entry}
use Rattle.v_statements.specs.Cases.{comparison_in, comparison_behind, open_item, senses_of}
use Rattle.v_statements.proofs.cases.with_items.Given as goal

abbrev pub invariant-loop-item : goal.invariant-loop-item
invariant-loop-item l =
    (names : List Entry) → comparison_behind (comparison_in l.all) (senses_of (map (open_item names) (drop l.item-index l.items)))
    ≡ comparison_behind (comparison_in l.initial.all) (senses_of (map (open_item names) l.items))
