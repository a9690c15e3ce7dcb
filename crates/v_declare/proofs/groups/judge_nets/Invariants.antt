use Rattle.v_declare.specs.Groups.{net_faults}
use Rattle.v_declare.proofs.Walking.{Left}
use Rattle.v_declare.proofs.groups.judge_nets.Given as goal

abbrev pub invariant-loop-net : goal.invariant-loop-net
invariant-loop-net l = Left (net_faults l.names) l.nets l.net-index
