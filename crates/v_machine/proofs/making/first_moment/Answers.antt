use Rattle.std.proofs.Common.{ap, sym, ◌∙◌}
use Rattle.std.specs.List.{list_all}
use Rattle.std.proofs.lemmas.List.Folds.{list_all-map}
use Rattle.v_core.specs.declared.modules.TypedSite.{TypedSite}
use Rattle.v_core.specs.Formed.{is_width}
use Rattle.v_machine.proofs.making.first_moment.Goals as goal

pub site_zeros-requires : goal.site_zeros-requires
site_zeros-requires c = record {
  words = ap (list_all (λ (s : TypedSite). is_width s.width)) c.as_slice.ensures ∙ sym (list_all-map is_width (λ (s : TypedSite). s.width) c.args.core.now.sites) ∙ c.requires.places;
}
