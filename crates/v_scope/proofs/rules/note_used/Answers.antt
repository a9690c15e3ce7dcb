use Rattle.v_scope.proofs.Judging.{used_none, used_some}
use Rattle.v_scope.proofs.rules.note_used.Goals as goal

pub returns-in-None : goal.returns-in-None
returns-in-None c ks ps es k p e = used_none ks ps es _ _ c.in-None.is

pub returns-in-Some : goal.returns-in-Some
returns-in-Some c ks ps es k p e = used_some ks ps es _ _ _ _ _ _ c.in-Some.is c.bytes.ensures.value (c.is_early_name-early.ensures ks ps es k p e) c.note.ensures
