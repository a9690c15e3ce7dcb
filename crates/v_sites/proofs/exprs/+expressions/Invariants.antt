use Rattle.v_meaning.specs.Proper.{is_sound}
use Rattle.v_meaning.specs.Sites.{sites_of}
use Rattle.v_sites.specs.Adding.{link_sites, is_sound_link}
use Rattle.v_sites.proofs.Adding.{Each}
use Rattle.v_sites.proofs.exprs.+expressions.Given as goal

abbrev pub invariant-add_links-loop-operand : goal.invariant-add_links-loop-operand
invariant-add_links-loop-operand l = Each (is_sound_link l.names) (link_sites l.names) l.links l.operand-index l.initial.found l.found

abbrev pub invariant-add_exprs-loop-x : goal.invariant-add_exprs-loop-x
invariant-add_exprs-loop-x l = Each (is_sound l.names) (sites_of l.names) l.xs l.x-index l.initial.found l.found
