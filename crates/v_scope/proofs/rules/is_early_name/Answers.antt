use Rattle.v_scope.proofs.Judging.{early_by}
use Rattle.v_scope.proofs.rules.is_early_name.Goals as goal

pub returns : goal.returns
returns c ks ps es k p e = early_by ks ps es _ _ _ _ _ c.is_early_by.ensures (c.is_met.ensures ks k) (c.is_met-2.ensures ps p) (c.is_met-3.ensures es e)
