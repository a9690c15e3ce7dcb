use Rattle.std.proofs.Common.{ap, ◌∙◌, ℕ, ◌-◌}
use Rattle.v_meaning.specs.Names.{entry_of}
use Rattle.v_statements.proofs.FormLaws.{part_fits, part_keeps}
use Rattle.v_statements.proofs.TargetLaws.{part_made}
use Rattle.v_statements.proofs.targets.part.Goals as goal

pub returns-clause-target : goal.returns-clause-target
returns-clause-target c =
    let low = c.offset-low.ensures ∙ ap (λ (k : ℕ). c.args.lsb - k) c.known-known.ensures.low in
    let fits =
    part_fits (entry_of c.args.names.now c.args.ident.now.name) c.args.msb c.args.lsb _ _ _ c.span-width.ensures low c.known-known.ensures.width c.known-known.ensures.within c.requires.above c.requires.descends c.requires.within in
    part_made c.args.names.now _ _ _ _ _ _ _ c.part-target.ensures.value c.known-known.ensures.number low c.span-width.ensures fits.0
    (part_keeps c.args.names.now _ _ _ _ _ c.part-target.ensures.form c.known-known.ensures.number fits.0 fits.1)
