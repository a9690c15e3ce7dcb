use Rattle.g_build.proofs.Indexing.{differ_more}
use Rattle.g_build.proofs.part.Part.place.Goals as goal

pub returns-in_ok-node-in-None-clause-differ : goal.returns-in_ok-node-in-None-clause-differ
returns-in_ok-node-in-None-clause-differ c = λ before. rw c.in_ok-node-in-None.ensures.ok (differ_more c.args.self.now.gates c.args.gate c.in-None.ensures before)
