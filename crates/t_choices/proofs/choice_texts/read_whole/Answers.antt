use Rattle.lz_lines.proofs.Forms.{after_obtains}
use Rattle.lz_lines.proofs.Standing.{hand_broken, hand_on}
use Rattle.t_choices.proofs.WholeChoices.{head_read, head_broken, first_read, first_broken, cycles_read, cycles_broken}
use Rattle.t_choices.proofs.choice_texts.read_whole.Goals as goal

pub returns-in_err-rest : goal.returns-in_err-rest
returns-in_err-rest c = hand_broken _ _ _ _ _ c.from_residual.result _ c.from_residual.ensures.1 (head_broken c.args.first_bits c.args.cycle_bits c.args.cycles c.in_err-rest.ensures.reads)

pub returns-in_err-first : goal.returns-in_err-first
returns-in_err-first c =
    let head = head_read c.args.first_bits c.args.cycle_bits c.args.cycles c.in_ok-rest.ensures.reads in
    hand_on _ _ _ _ _ _ _ _ _ _ c.from_residual-in_err-first.result c.read_line.result _ c.from_residual-in_err-first.ensures.1 c.in_err-first.was c.read_line.ensures
    (λ l b. first_broken c.args.first_bits c.args.cycle_bits c.args.cycles head b)

pub returns-in_err-cycles : goal.returns-in_err-cycles
returns-in_err-cycles c =
    let first = c.in_ok-first.first in
    let head = head_read c.args.first_bits c.args.cycle_bits c.args.cycles c.in_ok-rest.ensures.reads in
    let begun = first_read c.args.first_bits c.args.cycle_bits c.args.cycles first head c.in_ok-first.ensures in
    hand_on _ _ _ _ _ _ _ _ _ _ c.from_residual-in_err-cycles.result c.read_cycles.result _ c.from_residual-in_err-cycles.ensures.1 c.in_err-cycles.was c.read_cycles.ensures
    (λ l b. cycles_broken c.args.first_bits c.args.cycle_bits c.args.cycles first begun b)

pub returns : goal.returns
returns c =
    let first = c.in_ok-first.first in
    let head = head_read c.args.first_bits c.args.cycle_bits c.args.cycles c.in_ok-rest.ensures.reads in
    let begun = first_read c.args.first_bits c.args.cycle_bits c.args.cycles first head c.in_ok-first.ensures in
    after_obtains _ _ c.read_last.result (cycles_read c.args.first_bits c.args.cycle_bits c.args.cycles first c.in_ok-cycles.cycles begun c.in_ok-cycles.ensures) c.read_last.ensures
