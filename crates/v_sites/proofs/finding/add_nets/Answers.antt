use Rattle.v_sites.specs.Adding.{net_sites, is_sound_net}
use Rattle.v_sites.proofs.Adding.{each_next, each_ends}
use Rattle.v_sites.proofs.finding.add_nets.Goals as goal

pub loop-net-preserved : goal.loop-net-preserved
loop-net-preserved c = each_next (is_sound_net c.args.names.now) (net_sites c.args.names.now) c.loop-net-test.true c.net-item.is c.in_ok-add_value.ensures c.loop-net.invariant

pub returns : goal.returns
returns c = each_ends (is_sound_net c.args.names.now) (net_sites c.args.names.now) c.loop-net-test.false c.loop-net.invariant
