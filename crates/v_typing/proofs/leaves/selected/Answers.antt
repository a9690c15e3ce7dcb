use Rattle.v_typing.proofs.KeepLaws.{is_word, select_bits, select_is_word, select_has}
use Rattle.v_meaning.specs.Names.{entry_of}
use Rattle.v_typing.proofs.LeafLaws.{selected_is}
use Rattle.v_typing.proofs.SitedLaws.{selected_sited}
use Rattle.v_typing.proofs.leaves.selected.Goals as goal

pub returns-clause-value : goal.returns-clause-value
returns-clause-value c =
    selected_is c.args.names.now c.args.sites.now c.args.ident.now.at _ c.args.index _ _ _ _ _ _ _ _ _ c.known-known.result.kind c.leaf.ensures.value c.in_ok-t.ensures.value c.in_ok-x.ensures.value
    c.known-known.ensures.number c.number_of-site.ensures c.select_width-width.ensures c.select_sign-signed.ensures c.known-known.ensures.kind c.known-known.ensures.width
    c.known-known.ensures.signed

pub returns-clause-form : goal.returns-clause-form
returns-clause-form c h =
    let word = is_word c.known-known.result.width c.known-known.ensures.has_bit c.known-known.ensures.within in
    let bits = select_bits (entry_of c.args.names.now c.args.ident.now.name) c.known-known.result.kind _ _ c.select_width-width.ensures c.known-known.ensures.kind c.known-known.ensures.width in
    c.leaf.ensures.form c.args.names.now (select_is_word (entry_of c.args.names.now c.args.ident.now.name) _ _ bits c.known-known.ensures.width word)
    (select_has c.args.names.now _ c.args.index _ _ _ _ _ c.in_ok-t.ensures.form (c.in_ok-x.ensures.form c.args.names.now h) c.known-known.ensures.number bits c.known-known.ensures.width word)

pub returns-clause-sited : goal.returns-clause-sited
returns-clause-sited c widths fits h =
    selected_sited c.args.names.now widths c.args.sites.now _ _ _ _ _ _ _ _ c.leaf.ensures.sited c.in_ok-t.ensures.sited c.in_ok-x.ensures.sited c.known-known.ensures.number
    c.number_of-site.ensures fits h
