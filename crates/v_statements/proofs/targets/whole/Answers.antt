use Rattle.std.proofs.Common.{refl, arith}
use Rattle.v_statements.proofs.FormLaws.{is_word, part_keeps}
use Rattle.v_statements.proofs.TargetLaws.{part_made}
use Rattle.v_statements.proofs.targets.whole.Goals as goal

pub returns-clause-target : goal.returns-clause-target
returns-clause-target c =
    let word = is_word c.known-known.result.width c.known-known.ensures.has_bit c.known-known.ensures.within in
    part_made c.args.names.now _ _ _ _ _ _ _ c.part-target.ensures.value c.known-known.ensures.number refl c.known-known.ensures.width word
    (part_keeps c.args.names.now _ _ _ _ _ c.part-target.ensures.form c.known-known.ensures.number word (omega (arith, c.known-known.ensures.width)))
