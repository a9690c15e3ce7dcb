use Rattle.std.proofs.Common.{refl}
use Rattle.v_typing.proofs.KeepLaws.{copied_has, copies_word}
use Rattle.v_typing.proofs.OperatorLaws.{replicated_is}
use Rattle.v_typing.proofs.operators.replicated.Goals as goal

pub returns-clause-value : goal.returns-clause-value
returns-clause-value c = replicated_is c.args.count _ c.args.x _ _ _ c.leaf.ensures.value c.in_ok-t-2.ensures.value c.in_ok-t.ensures.value refl

pub returns-clause-form : goal.returns-clause-form
returns-clause-form c names some h =
    let word = copies_word c.args.count c.args.x.width some c.requires.room h.word in
    c.leaf.ensures.form names word (copied_has _ c.args.x _ _ names c.in_ok-t-2.ensures.form (c.in_ok-t.ensures.form names) word h)
