use Rattle.v_scope.proofs.Judging.{by_digits}
use Rattle.v_scope.proofs.rules.note_number.Goals as goal

pub returns-in-Digits : goal.returns-in-Digits
returns-in-Digits c names = by_digits names _ _ _ _ _ _ c.in-Digits.is c.is_wrong.ensures c.note.ensures
