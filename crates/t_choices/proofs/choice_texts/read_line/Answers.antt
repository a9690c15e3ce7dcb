use Rattle.lz_lines.specs.Forms.{Anything}
use Rattle.lz_lines.proofs.Forms.{after_obtains}
use Rattle.lz_lines.proofs.Standing.{hand_broken, hand_on}
use Rattle.t_choices.specs.Bits.{HasBits, choice_field}
use Rattle.t_choices.proofs.ChoiceFields.{some_bits}
use Rattle.t_choices.proofs.KeyedLines.{key_read, key_broken, fields_read, fields_broken}
use Rattle.t_choices.proofs.choice_texts.read_line.Goals as goal

pub returns-in_err-rest : goal.returns-in_err-rest
returns-in_err-rest c =
    hand_broken _ _ _ _ _ c.from_residual.result _ c.from_residual.ensures.1 (key_broken c.args.key.now choice_field (HasBits c.args.count) (some_bits c.args.count) c.in_err-rest.ensures.reads)

pub returns-in_err-bits : goal.returns-in_err-bits
returns-in_err-bits c =
    let key = key_read c.args.key.now choice_field (HasBits c.args.count) c.in_ok-rest.ensures.reads in
    hand_on _ _ _ _ _ _ _ _ _ _ c.from_residual-in_err-bits.result c.read_choice.result _ c.from_residual-in_err-bits.ensures.1 c.in_err-bits.was c.read_choice.ensures
    (λ l b. fields_broken c.args.key.now choice_field (HasBits c.args.count) Anything (λ v behind. tt) key b)

pub returns : goal.returns
returns c =
    let key = key_read c.args.key.now choice_field (HasBits c.args.count) c.in_ok-rest.ensures.reads in
    after_obtains _ _ c.end_line.result (fields_read c.args.key.now choice_field (HasBits c.args.count) Anything c.in_ok-bits.bits (λ v behind. tt) key c.in_ok-bits.ensures) c.end_line.ensures.reads
