-- Both signs of a comparison.
use Rattle.std.proofs.Common.{sym, ◌∙◌}
use Rattle.v_words.proofs.Signs.{less_apart, less_alike, less_unsigned}
use Rattle.v_words.proofs.sign.is_less.Goals as goal
use Rattle.v_words.proofs.sign.is_less.Goals.{else-signed-via-then-signed+else-is_negative, else-signed-via-else-signed}

pub returns-then-is_negative : goal.returns-then-is_negative
returns-then-is_negative c =
    c.is_negative-then-is_negative.ensures ∙ sym c.is_negative.ensures ∙ less_apart _ _ _ _ _ _ c.if-signed.true c.is_negative.ensures c.is_negative-then-signed.ensures c.if-is_negative.true

pub returns-else-signed : goal.returns-else-signed
returns-else-signed c = elim c.else-signed.branch [
  | else-signed-via-then-signed+else-is_negative w ↦ less_alike _ _ _ _ _ _ w.if-signed.true w.is_negative.ensures w.is_negative-then-signed.ensures w.if-is_negative.false
  | else-signed-via-else-signed w ↦ less_unsigned _ _ _ _ w.if-signed.false
]
