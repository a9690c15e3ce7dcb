use Rattle.std.proofs.Common.{◌≡◌, drop, List, map}
use Rattle.v_meaning.specs.declared.names.Entry.{Entry}
use Rattle.v_statements.specs.Cases.{comparison_in, comparison_behind, open_arm, senses_among}
use Rattle.v_statements.proofs.cases.common.Given as goal

abbrev pub invariant-loop-arm : goal.invariant-loop-arm
invariant-loop-arm l =
    (names : List Entry) → comparison_behind (comparison_in l.all) (senses_among (map (open_arm names) (drop l.arm-index l.arms)))
    ≡ comparison_behind (comparison_in l.initial.all) (senses_among (map (open_arm names) l.arms))
