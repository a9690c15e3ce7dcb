use Rattle.v_sites.specs.Adding.{net_sites, is_sound_net}
use Rattle.v_sites.proofs.Adding.{Each}
use Rattle.v_sites.proofs.finding.add_nets.Given as goal

abbrev pub invariant-loop-net : goal.invariant-loop-net
invariant-loop-net l = Each (is_sound_net l.names) (net_sites l.names) l.nets l.net-index l.initial.found l.found
