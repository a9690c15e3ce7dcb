use Rattle.g_net.proofs.Valuation.{gate_stands, gate_there}
use Rattle.g_net.proofs.law.gates_stand.Goals as goal

pub returns : goal.returns
returns c = record { stands = gate_stands; there = gate_there }
