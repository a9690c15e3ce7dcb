use Rattle.std.proofs.Common.{◌≡◌, ◌+◌, arith}
use Rattle.n_cells.specs.Netlist.{net_count}
use Rattle.n_text.specs.Lent.{lent_value}
use Rattle.lz_lines.proofs.Faulting.{begun_at, at_flops, at_cells, at_outputs, none_there, fault_inputs, fault_flops, fault_cells, fault_outputs}
use Rattle.n_text.proofs.Faulting.{judged, room}
use Rattle.n_text.proofs.references.judge.Goals as goal

pub returns-in_err-at-2-clause-fault : goal.returns-in_err-at-2-clause-fault
returns-in_err-at-2-clause-fault c =
    let n = lent_value c.args.parts in
    fault_inputs (judged c.args.format n) c.from_residual-in_err-at-2.result c.in_err-at-2.field-0.0 c.in_ok-at.at c.from_residual-in_err-at-2.ensures.1 (begun_at _ _ _ _ c.behind_model.ensures c.in_ok-at.ensures.place) (c.in_err-at-2.ensures.judged _ (c.in_ok-at.ensures.met c.no_names-met.ensures))

pub judge_flops-requires : goal.judge_flops-requires
judge_flops-requires c =
    let n = lent_value c.args.parts in
    let flops = at_flops (judged c.args.format n) c.in_ok-at.at c.in_ok-at-2.at (begun_at _ _ _ _ c.behind_model.ensures c.in_ok-at.ensures.place) (c.in_ok-at-2.ensures.judged _ (c.in_ok-at.ensures.met c.no_names-met.ensures)) in
    record { room = omega (arith, flops.begun, room c.args.format n c.requires.room) }

pub returns-in_err-at-3-clause-fault : goal.returns-in_err-at-3-clause-fault
returns-in_err-at-3-clause-fault c =
    let n = lent_value c.args.parts in
    let flops = at_flops (judged c.args.format n) c.in_ok-at.at c.in_ok-at-2.at (begun_at _ _ _ _ c.behind_model.ensures c.in_ok-at.ensures.place) (c.in_ok-at-2.ensures.judged _ (c.in_ok-at.ensures.met c.no_names-met.ensures)) in
    let count : c.count_front-first.result + c.count_nets.result ≡ net_count n = omega arith in
    fault_flops (judged c.args.format n) c.from_residual-in_err-at-3.result c.in_err-at-3.field-0.0 (c.count_front-first.result + c.count_nets.result) c.in_ok-at-2.at c.from_residual-in_err-at-3.ensures.1 count flops c.in_err-at-3.ensures

pub judge_cells-requires-clause-nets : goal.judge_cells-requires-clause-nets
judge_cells-requires-clause-nets c = omega (arith, c.count_front-first.ensures.bound, c.count_nets.ensures.bound, c.count_nets.ensures.count)

pub judge_cells-requires-clause-room : goal.judge_cells-requires-clause-room
judge_cells-requires-clause-room c =
    let n = lent_value c.args.parts in
    let flops = at_flops (judged c.args.format n) c.in_ok-at.at c.in_ok-at-2.at (begun_at _ _ _ _ c.behind_model.ensures c.in_ok-at.ensures.place) (c.in_ok-at-2.ensures.judged _ (c.in_ok-at.ensures.met c.no_names-met.ensures)) in
    let count : c.count_front-first.result + c.count_nets.result ≡ net_count n = omega arith in
    let cells = at_cells (judged c.args.format n) (c.count_front-first.result + c.count_nets.result) c.in_ok-at-2.at c.in_ok-at-3.at count flops c.in_ok-at-3.ensures in
    omega (arith, cells.begun, room c.args.format n c.requires.room)

pub returns-in_err-at-4-clause-fault : goal.returns-in_err-at-4-clause-fault
returns-in_err-at-4-clause-fault c =
    let n = lent_value c.args.parts in
    let flops = at_flops (judged c.args.format n) c.in_ok-at.at c.in_ok-at-2.at (begun_at _ _ _ _ c.behind_model.ensures c.in_ok-at.ensures.place) (c.in_ok-at-2.ensures.judged _ (c.in_ok-at.ensures.met c.no_names-met.ensures)) in
    let count : c.count_front-first.result + c.count_nets.result ≡ net_count n = omega arith in
    let cells = at_cells (judged c.args.format n) (c.count_front-first.result + c.count_nets.result) c.in_ok-at-2.at c.in_ok-at-3.at count flops c.in_ok-at-3.ensures in
    fault_cells (judged c.args.format n) c.from_residual-in_err-at-4.result c.in_err-at-4.field-0.0 c.count_front-first.result c.in_ok-at-3.at c.from_residual-in_err-at-4.ensures.1 c.count_front-first.ensures.count cells c.in_err-at-4.ensures

pub judge_outputs-requires-clause-room : goal.judge_outputs-requires-clause-room
judge_outputs-requires-clause-room c =
    let n = lent_value c.args.parts in
    let flops = at_flops (judged c.args.format n) c.in_ok-at.at c.in_ok-at-2.at (begun_at _ _ _ _ c.behind_model.ensures c.in_ok-at.ensures.place) (c.in_ok-at-2.ensures.judged _ (c.in_ok-at.ensures.met c.no_names-met.ensures)) in
    let count : c.count_front-first.result + c.count_nets.result ≡ net_count n = omega arith in
    let cells = at_cells (judged c.args.format n) (c.count_front-first.result + c.count_nets.result) c.in_ok-at-2.at c.in_ok-at-3.at count flops c.in_ok-at-3.ensures in
    let outputs = at_outputs (judged c.args.format n) c.count_front-first.result c.in_ok-at-3.at c.in_ok-at-4.at c.count_front-first.ensures.count cells c.in_ok-at-4.ensures in
    omega (arith, outputs.begun, room c.args.format n c.requires.room)

pub returns-in_err-judge_outputs-clause-fault : goal.returns-in_err-judge_outputs-clause-fault
returns-in_err-judge_outputs-clause-fault c =
    let n = lent_value c.args.parts in
    let flops = at_flops (judged c.args.format n) c.in_ok-at.at c.in_ok-at-2.at (begun_at _ _ _ _ c.behind_model.ensures c.in_ok-at.ensures.place) (c.in_ok-at-2.ensures.judged _ (c.in_ok-at.ensures.met c.no_names-met.ensures)) in
    let count : c.count_front-first.result + c.count_nets.result ≡ net_count n = omega arith in
    let cells = at_cells (judged c.args.format n) (c.count_front-first.result + c.count_nets.result) c.in_ok-at-2.at c.in_ok-at-3.at count flops c.in_ok-at-3.ensures in
    let outputs = at_outputs (judged c.args.format n) c.count_front-first.result c.in_ok-at-3.at c.in_ok-at-4.at c.count_front-first.ensures.count cells c.in_ok-at-4.ensures in
    fault_outputs (judged c.args.format n) c.from_residual-in_err-judge_outputs.result c.in_err-judge_outputs.field-0.0 (c.count_front-first.result + c.count_nets.result) c.in_ok-at-4.at c.from_residual-in_err-judge_outputs.ensures.1 count outputs (c.in_err-judge_outputs.ensures _ (c.in_ok-at-2.ensures.met _ (c.in_ok-at.ensures.met c.no_names-met.ensures)))

pub returns-clause-right : goal.returns-clause-right
returns-clause-right c =
    let n = lent_value c.args.parts in
    let flops = at_flops (judged c.args.format n) c.in_ok-at.at c.in_ok-at-2.at (begun_at _ _ _ _ c.behind_model.ensures c.in_ok-at.ensures.place) (c.in_ok-at-2.ensures.judged _ (c.in_ok-at.ensures.met c.no_names-met.ensures)) in
    let count : c.count_front-first.result + c.count_nets.result ≡ net_count n = omega arith in
    let cells = at_cells (judged c.args.format n) (c.count_front-first.result + c.count_nets.result) c.in_ok-at-2.at c.in_ok-at-3.at count flops c.in_ok-at-3.ensures in
    let outputs = at_outputs (judged c.args.format n) c.count_front-first.result c.in_ok-at-3.at c.in_ok-at-4.at c.count_front-first.ensures.count cells c.in_ok-at-4.ensures in
    none_there (judged c.args.format n) (c.count_front-first.result + c.count_nets.result) c.in_ok-at-4.at _ _ count outputs (c.in_ok-judge_outputs.ensures _ (c.in_ok-at-2.ensures.met _ (c.in_ok-at.ensures.met c.no_names-met.ensures)))
