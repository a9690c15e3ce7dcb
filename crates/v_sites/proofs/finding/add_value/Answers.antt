use Rattle.std.proofs.Common.{◌≡◌, true, ap, sym, ◌∙◌}
use Rattle.v_meaning.specs.Sites.{value_sites}
use Rattle.v_typing.specs.Sound.{is_sound_value}
use Rattle.v_sites.proofs.Adding.{none_more, same_more, on_ok}
use Rattle.v_sites.proofs.finding.add_value.Goals as goal

pub returns-in-None : goal.returns-in-None
returns-in-None c = none_more _ _ _ (λ h. ap (value_sites c.args.names.now) c.in-None.is)

pub returns-in-Some : goal.returns-in-Some
returns-in-Some c = on_ok c.add_expr.result (same_more (λ (h : is_sound_value c.args.names.now c.args.value.now ≡ true). sym (ap (is_sound_value c.args.names.now) c.in-Some.is) ∙ h) (ap (value_sites c.args.names.now) c.in-Some.is)) c.add_expr.ensures
