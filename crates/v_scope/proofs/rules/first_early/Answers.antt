use Rattle.v_scope.proofs.Judging.{early_of_all}
use Rattle.v_scope.proofs.rules.first_early.Goals as goal

pub returns : goal.returns
returns c = early_of_all c.first_among.result c.args.all.now _ _ (c.in_ok-meet_all.ensures c.no_names-known.ensures c.no_names-parameters.ensures) c.first_among.ensures
