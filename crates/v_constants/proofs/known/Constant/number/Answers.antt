use Rattle.std.proofs.Common.{ap, ◌∙◌}
use Rattle.v_meaning.specs.Senses.{constant}
use Rattle.v_constants.specs.Bodies.{sense_in}
use Rattle.v_constants.proofs.known.Constant.number.Goals as goal

pub returns : goal.returns
returns c = λ names x h. c.number_of.ensures ∙ ap constant (ap sense_in c.self.view_is ∙ h.means)
