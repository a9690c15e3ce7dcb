use Rattle.std.proofs.Common.{◌∙◌, Some}
use Rattle.v_names.proofs.First.{numbered, unnumbered}
use Rattle.v_names.proofs.names.Names.number_of.Goals as goal

pub returns-in-Some : goal.returns-in-Some
returns-in-Some c = numbered _ _ c.args.name.now (Some c.in-Some.number.now) c.self.view_is (c.in-Some.ensures.value ∙ c.self.invariant.0.found c.args.name.now)

pub returns-in-None : goal.returns-in-None
returns-in-None c = unnumbered _ _ c.args.name.now _ c.self.view_is (c.in-None.ensures.value ∙ c.self.invariant.0.found c.args.name.now) c.len.ensures
