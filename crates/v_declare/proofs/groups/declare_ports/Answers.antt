use Rattle.v_declare.proofs.Walking.{fails, same_stop, stops_behind, behind_none, along_begins, along_next, along_stops, along_ends, along_behind}
use Rattle.std.proofs.Common.{refl, ◌∙◌}
use Rattle.v_declare.proofs.Made.{shape_more}
use Rattle.v_declare.proofs.GroupFaults.{ports_along}
use Rattle.v_declare.proofs.groups.declare_ports.Goals as goal

pub loop-port-init : goal.loop-port-init
loop-port-init c = record { along = along_begins _ _ _ _; shape = c.in_ok-shape.ensures.shape }

pub loop-port-preserved : goal.loop-port-preserved
loop-port-preserved c = record {
  along = along_next _ _ _ _ _ _ _ _ c.loop-port-test.true c.port-item.is c.in_ok-declare_port.ensures.judged c.in_ok-declare_port.ensures.behind c.loop-port.invariant.along;
  shape = rw c.in_ok-declare_port.ensures.behind (shape_more _ _ _ _ c.loop-port.invariant.shape);
}

pub returns-in_err-declare_port-clause-judged : goal.returns-in_err-declare_port-clause-judged
returns-in_err-declare_port-clause-judged c =
    fails c.from_residual-in_err-declare_port.result _ _ c.from_residual-in_err-declare_port.ensures.1
    (same_stop _ _ _ (ports_along c.args.roles.now c.args.names.now c.args.group.now _ c.as_slice-ports.ensures)
    (stops_behind _ _ _ _ refl c.in_ok-shape.ensures.judged
    (along_stops _ _ _ _ _ _ _ _ c.loop-port-test.true c.port-item.is c.in_err-declare_port.ensures.judged c.loop-port.invariant.along)))

pub returns-clause-judged : goal.returns-clause-judged
returns-clause-judged c =
    ports_along c.args.roles.now c.args.names.now c.args.group.now _ c.as_slice-ports.ensures ∙ behind_none _ _ _ refl c.in_ok-shape.ensures.judged ∙ along_ends _ _ _ _ _ _ c.loop-port-test.false c.loop-port.invariant.along

pub returns-clause-behind : goal.returns-clause-behind
returns-clause-behind c = rw (← c.as_slice-ports.ensures) (along_behind _ _ _ _ _ _ c.loop-port-test.false c.loop-port.invariant.along)
