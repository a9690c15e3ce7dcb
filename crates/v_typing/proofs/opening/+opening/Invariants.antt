use Rattle.std.proofs.Common.{◌≡◌, ℕ, List, drop, true}
use Rattle.v_meaning.specs.Senses.{chained, joined, joined_behind}
use Rattle.v_core.specs.Bodies.{sense_in}
use Rattle.v_core.specs.Formed.{formed_parts, has, part_forms}
use Rattle.v_core.specs.OpenForms.{OpenFormed}
use Rattle.v_typing.specs.Meanings.{meanings, link_meanings}
use Rattle.v_core.specs.Sited.{are_sited_parts}
use Rattle.v_typing.specs.Sited.{AllRead, LinksRead, OpenSited}
use Rattle.v_typing.specs.Sound.{all_sound, links_sound}
use Rattle.v_typing.proofs.Turns.{leaf_of}
use Rattle.v_typing.proofs.opening.+opening.Given as goal

abbrev pub invariant-chained-loop-operator : goal.invariant-chained-loop-operator
invariant-chained-loop-operator l =
    (chained (sense_in l.all l.names) (link_meanings l.names l.sites (drop l.operator-index l.links)) ≡ chained (sense_in l.initial.all l.names) (link_meanings l.names l.sites l.links))
    × (links_sound l.names (drop l.operator-index l.links) ≡ true)
    × (OpenFormed l.initial.all l.names → OpenFormed l.all l.names)
    × ((widths : List ℕ) → LinksRead widths l.sites l.names l.links → OpenSited l.initial.all l.names widths → OpenSited l.all l.names widths)

abbrev pub invariant-joined-loop-x : goal.invariant-joined-loop-x
invariant-joined-loop-x l =
    (joined_behind (leaf_of l.width l.typed l.names) (meanings l.names l.sites (drop l.x-index l.parts)) ≡ joined (meanings l.names l.sites l.parts))
    × (all_sound l.names (drop l.x-index l.parts) ≡ true)
    × (has l.width (formed_parts (part_forms l.typed) l.names) ≡ true)
    × ((widths : List ℕ) → AllRead widths l.sites l.names l.parts → are_sited_parts l.typed l.names widths ≡ true)
