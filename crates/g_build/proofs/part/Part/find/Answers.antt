use Rattle.g_build.proofs.Indexing.{finds_some, finds_none}
use Rattle.g_build.proofs.part.Part.find.Goals as goal

pub returns-in-Some : goal.returns-in-Some
returns-in-Some c = finds_some c.self.inside.network c.args.self.now c.self.inside.index c.args.gate _ _ c.self.view_is c.self.invariant.indexes c.in-Some.ensures c.first-first.ensures.number

pub returns-in-None : goal.returns-in-None
returns-in-None c = finds_none c.self.inside.network c.args.self.now c.self.inside.index c.args.gate c.self.view_is c.self.invariant.indexes c.in-None.ensures
