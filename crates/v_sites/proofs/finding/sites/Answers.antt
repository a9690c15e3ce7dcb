use Rattle.std.proofs.Common.{ap, ◌∙◌}
use Rattle.v_meaning.specs.Sites.{item_sites}
use Rattle.v_typing.specs.Sound.{is_sound_item}
use Rattle.v_sites.specs.Found.{are_words}
use Rattle.v_sites.proofs.Adding.{each_next, each_ends}
use Rattle.v_sites.proofs.ItemSites.{all_found}
use Rattle.v_sites.proofs.finding.sites.Goals as goal

pub loop-item-preserved : goal.loop-item-preserved
loop-item-preserved c = each_next (is_sound_item c.args.names.now) (item_sites c.args.names.now) c.loop-item-test.true c.item-item.is c.in_ok-add_item.ensures c.loop-item.invariant

pub returns-clause-sites : goal.returns-clause-sites
returns-clause-sites c =
    all_found c.args.names.now _ _ _ c.args.module.now.items c.new-found.ensures c.as_slice-item-items.ensures c.requires.sound (each_ends (is_sound_item c.args.names.now) (item_sites c.args.names.now) c.loop-item-test.false c.loop-item.invariant)

pub returns-clause-words : goal.returns-clause-words
returns-clause-words c = c.loop-item.invariant.words ∙ ap are_words c.new-found.ensures
