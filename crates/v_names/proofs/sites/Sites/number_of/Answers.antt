use Rattle.std.proofs.Common.{◌∙◌, ap, length, None, Some}
use Rattle.v_names.proofs.First.{placed}
use Rattle.v_names.proofs.sites.Sites.number_of.Goals as goal

pub returns-in-Some : goal.returns-in-Some
returns-in-Some c = placed _ _ c.args.place (Some c.in-Some.number.now) c.self.view_is (c.in-Some.ensures.value ∙ c.self.invariant.found c.args.place)

pub returns-in-None : goal.returns-in-None
returns-in-None c =
    c.len.ensures ∙ ap length c.self.view_is ∙ placed _ _ c.args.place None c.self.view_is (c.in-None.ensures.value ∙ c.self.invariant.found c.args.place)
