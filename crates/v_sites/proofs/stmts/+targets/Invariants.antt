use Rattle.v_meaning.specs.Sites.{target_sites}
use Rattle.v_typing.specs.Sound.{is_sound_target}
use Rattle.v_sites.proofs.Adding.{Each}
use Rattle.v_sites.proofs.stmts.+targets.Given as goal

abbrev pub invariant-add_targets-loop-target : goal.invariant-add_targets-loop-target
invariant-add_targets-loop-target l = Each (is_sound_target l.names) (target_sites l.names) l.targets l.target-index l.initial.found l.found
