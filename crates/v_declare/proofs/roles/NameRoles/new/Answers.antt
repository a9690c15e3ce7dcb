use Rattle.std.proofs.Common.{[]}
use Rattle.v_declare.proofs.roles.NameRoles.new.Goals as goal

pub invariant_of-result : goal.invariant_of-result
invariant_of-result c = record { first = c.first_event.ensures; met = c.in_ok-meet_items.ensures.met [] c.no_names-combinational.ensures }
