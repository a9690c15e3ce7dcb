use Rattle.std.proofs.Common.{ap, ◌∙◌}
use Rattle.v_meaning.specs.Views.{no_view}
use Rattle.v_meaning.specs.Senses.{Sense, assigned}
use Rattle.v_constants.specs.Bodies.{sense_in}
use Rattle.v_constants.proofs.known.Constant.assigned.Goals as goal

pub returns-clause-value : goal.returns-clause-value
returns-clause-value c = λ names x h. c.assigned_to.ensures.value ∙ ap (λ (s : Sense). assigned c.args.width s no_view) (ap sense_in c.self.view_is ∙ h.means)
