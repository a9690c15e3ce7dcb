use Rattle.std.proofs.Common.{◌<◌, arith}
use Rattle.lz_lines.proofs.Forms.{after_obtains}
use Rattle.lz_lines.proofs.Standing.{hand_broken}
use Rattle.t_choices.proofs.ChoiceFields.{blank_read, blank_broken}
use Rattle.t_choices.proofs.bits.read_choice.Goals as goal

pub returns-in_err-rest : goal.returns-in_err-rest
returns-in_err-rest c =
    let some : 0 < c.args.count = omega arith in
    hand_broken _ _ _ _ _ c.from_residual.result _ c.from_residual.ensures.1 (blank_broken c.args.count some c.in_err-rest.ensures.reads)

pub returns : goal.returns
returns c =
    let some : 0 < c.args.count = omega arith in
    after_obtains _ _ c.read_digits.result (blank_read c.args.count some c.in_ok-rest.ensures.reads) c.read_digits.ensures
