use Rattle.std.proofs.Common.{◌∙◌}
use Rattle.v_meaning.specs.Names.{entry_of}
use Rattle.v_statements.proofs.FormLaws.{is_word, select_word, select_keeps}
use Rattle.v_statements.proofs.TargetLaws.{select_made}
use Rattle.v_statements.proofs.targets.selected.Goals as goal

pub returns-clause-target : goal.returns-clause-target
returns-clause-target c =
    let word = is_word c.known-known.result.width c.known-known.ensures.has_bit c.known-known.ensures.within in
    select_made c.args.names.now _ _ _ _ _ _ c.args.index _ c.select-target.ensures.value c.in_ok-x.ensures.value c.known-known.ensures.number c.select_width-width.ensures
    c.known-known.ensures.kind c.known-known.ensures.width (select_word _ c.known-known.result.width c.known-known.result.kind c.select_width-width.ensures word)
    (select_keeps c.args.names.now (entry_of c.args.names.now c.args.ident.now.name) _ c.args.index _ _ _ c.known-known.result.width c.known-known.result.kind c.select-target.ensures.form (c.in_ok-x.ensures.form c.args.names.now c.requires.index) c.known-known.ensures.number
    c.select_width-width.ensures c.known-known.ensures.kind c.known-known.ensures.width word)

pub returns-clause-sited : goal.returns-clause-sited
returns-clause-sited c = c.select-target.ensures.sited ∙ c.in_ok-x.ensures.sited
