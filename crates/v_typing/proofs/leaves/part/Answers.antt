use Rattle.v_typing.proofs.KeepLaws.{part_fits, part_has}
use Rattle.std.proofs.Common.{ap, ◌∙◌, ℕ, ◌-◌}
use Rattle.v_meaning.specs.Names.{entry_of}
use Rattle.v_typing.proofs.LeafLaws.{part_is}
use Rattle.v_typing.proofs.leaves.part.Goals as goal

pub returns-clause-value : goal.returns-clause-value
returns-clause-value c =
    part_is c.args.names.now _ _ _ _ _ _ c.args.msb c.args.lsb c.leaf.ensures.value c.bits.ensures.value c.known-known.ensures.number c.span-width.ensures
    (c.offset-low.ensures ∙ ap (λ (k : ℕ). c.args.lsb - k) c.known-known.ensures.low)

pub returns-clause-form : goal.returns-clause-form
returns-clause-form c =
    let fits =
    part_fits (entry_of c.args.names.now c.args.ident.now.name) c.args.msb c.args.lsb _ _ _ c.span-width.ensures
    (c.offset-low.ensures ∙ ap (λ (k : ℕ). c.args.lsb - k) c.known-known.ensures.low) c.known-known.ensures.width c.known-known.ensures.within c.requires.above
    c.requires.descends c.requires.within in
    c.leaf.ensures.form c.args.names.now fits.0 (part_has c.args.names.now _ _ _ _ _ c.bits.ensures.form c.known-known.ensures.number fits.0 fits.1)
