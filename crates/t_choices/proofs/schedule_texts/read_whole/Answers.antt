use Rattle.lz_lines.proofs.Forms.{after_obtains}
use Rattle.lz_lines.proofs.Standing.{hand_broken, hand_on}
use Rattle.t_choices.proofs.WholeSchedules.{head_read, head_broken, cycles_read, cycles_broken}
use Rattle.t_choices.proofs.schedule_texts.read_whole.Goals as goal

pub returns-in_err-rest : goal.returns-in_err-rest
returns-in_err-rest c = hand_broken _ _ _ _ _ c.from_residual.result _ c.from_residual.ensures.1 (head_broken c.args.processes c.args.cycles c.in_err-rest.ensures.reads)

pub returns-in_err-schedules : goal.returns-in_err-schedules
returns-in_err-schedules c =
    let head = head_read c.args.processes c.args.cycles c.in_ok-rest.ensures.reads in
    hand_on _ _ _ _ _ _ _ _ _ _ c.from_residual-in_err-schedules.result c.read_cycles.result _ c.from_residual-in_err-schedules.ensures.1 c.in_err-schedules.was c.read_cycles.ensures
    (λ l b. cycles_broken c.args.processes c.args.cycles head b)

pub returns : goal.returns
returns c =
    let head = head_read c.args.processes c.args.cycles c.in_ok-rest.ensures.reads in
    after_obtains _ _ c.read_last.result (cycles_read c.args.processes c.args.cycles c.in_ok-schedules.schedules head c.in_ok-schedules.ensures) c.read_last.ensures
