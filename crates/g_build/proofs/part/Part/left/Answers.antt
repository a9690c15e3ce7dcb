use Rattle.std.proofs.Common.{subst}
use Rattle.g_net.specs.Network.{IsWellFormed}
use Rattle.g_build.proofs.Leaving.{is_left}
use Rattle.g_build.proofs.part.Part.left.Goals as goal

pub returns-clause-left : goal.returns-clause-left
returns-clause-left g c =
    is_left c.gates_stand.ensures.stands c.values_stay.ensures.stands c.sources_first.ensures.constant c.args.self.now c.args.shape c.apply.result (subst IsWellFormed c.self.view_is c.self.invariant.formed)
    c.apply.ensures.right
