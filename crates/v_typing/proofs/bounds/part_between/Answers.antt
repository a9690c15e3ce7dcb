use Rattle.std.proofs.Common.{◌∙◌}
use Rattle.v_meaning.specs.Names.{entry_of, read_part}
use Rattle.v_typing.proofs.SoundLaws.{some_bound, some_other, part_bounds, value_of}
use Rattle.v_typing.proofs.bounds.part_between.Goals as goal

pub bound-requires : goal.bound-requires
bound-requires c = some_bound (entry_of c.args.names.now c.args.ident.now.name) _ _ c.requires.bounds

pub bound-requires-2 : goal.bound-requires-2
bound-requires-2 c = some_other (entry_of c.args.names.now c.args.ident.now.name) _ _ c.requires.bounds

pub part-requires-clause-above : goal.part-requires-clause-above
part-requires-clause-above c = (part_bounds (entry_of c.args.names.now c.args.ident.now.name) _ _ _ _ c.in_ok-m.ensures c.in_ok-l.ensures c.requires.bounds).above

pub part-requires-clause-descends : goal.part-requires-clause-descends
part-requires-clause-descends c = (part_bounds (entry_of c.args.names.now c.args.ident.now.name) _ _ _ _ c.in_ok-m.ensures c.in_ok-l.ensures c.requires.bounds).descends

pub part-requires-clause-within : goal.part-requires-clause-within
part-requires-clause-within c = (part_bounds (entry_of c.args.names.now c.args.ident.now.name) _ _ _ _ c.in_ok-m.ensures c.in_ok-l.ensures c.requires.bounds).within

pub returns-clause-value : goal.returns-clause-value
returns-clause-value c =
    c.part.ensures.value
    ∙ (λ i. read_part (entry_of c.args.names.now c.args.ident.now.name) (value_of c.args.names.now c.args.msb.now _ c.in_ok-m.ensures i) (value_of c.args.names.now c.args.lsb.now _ c.in_ok-l.ensures i))

pub returns-clause-form : goal.returns-clause-form
returns-clause-form c = c.part.ensures.form

pub returns-clause-sited : goal.returns-clause-sited
returns-clause-sited c = c.part.ensures.sited
