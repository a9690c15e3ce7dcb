use Rattle.std.proofs.Common.{◌≡◌, ◌+◌, drop, List}
use Rattle.v_meaning.specs.Targets.{parts_width}
use Rattle.v_meaning.specs.declared.names.Entry.{Entry}
use Rattle.v_values.specs.Kept.{senses_in}
use Rattle.v_values.proofs.targets.+measuring.Given as goal

abbrev pub invariant-parts_width-loop-part : goal.invariant-parts_width-loop-part
invariant-parts_width-loop-part l =
    (names : List Entry) → l.width + parts_width (senses_in names (drop l.part-index l.parts)) ≡ parts_width (senses_in names l.parts)
