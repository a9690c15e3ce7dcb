use Rattle.std.proofs.Common.{Some}
use Rattle.s_map.proofs.flow.map_by.Goals as goal

pub returns-clause-mapped : goal.returns-clause-mapped
returns-clause-mapped g c = record {
  read = c.in_ok-network.network;
  offer = Some c.in_ok-proposal.proposal.lines;
  is = c.in_ok-network.ensures.is;
  alone = c.in_ok-network.ensures.alone;
  offered = c.in_ok-proposal.ensures;
  made = c.in_ok-finished.ensures;
}
