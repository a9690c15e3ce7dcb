use Rattle.v_meaning.specs.Sites.{item_sites}
use Rattle.v_typing.specs.Sound.{is_sound_item}
use Rattle.v_sites.proofs.Adding.{Each}
use Rattle.v_sites.proofs.finding.sites.Given as goal

abbrev pub invariant-loop-item : goal.invariant-loop-item
invariant-loop-item l = Each (is_sound_item l.names) (item_sites l.names) l.item-items l.item-index l.initial.found l.found
