use Rattle.v_typing.proofs.KeepLaws.{is_word, name_has}
use Rattle.v_typing.proofs.LeafLaws.{name_is}
use Rattle.v_typing.proofs.leaves.name.Goals as goal

pub returns-clause-value : goal.returns-clause-value
returns-clause-value c =
    name_is c.args.names.now _ _ _ _ _ _ c.leaf.ensures.value c.word-word.ensures.value c.known-known.ensures.number c.known-known.ensures.width c.known-known.ensures.signed

pub returns-clause-form : goal.returns-clause-form
returns-clause-form c =
    let word = is_word c.known-known.result.width c.known-known.ensures.has_bit c.known-known.ensures.within in
    c.leaf.ensures.form c.args.names.now word
    (name_has c.args.names.now _ _ _ _ c.word-word.ensures.form c.known-known.ensures.number c.known-known.ensures.width word)
