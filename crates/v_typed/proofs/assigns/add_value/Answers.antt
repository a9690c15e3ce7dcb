use Rattle.std.proofs.Common.{ℕ, List, subst}
use Rattle.v_typed.specs.Sited.{ValueRead}
use Rattle.v_typed.proofs.Read.{where_whole}
use Rattle.v_typed.proofs.assigns.add_value.Goals as goal

pub returns-in-Some-clause-sited : goal.returns-in-Some-clause-sited
returns-in-Some-clause-sited c =
    where_whole _ _ (λ (widths : List ℕ). ValueRead widths c.args.sites.now c.args.names.now c.args.value.now) _
    (λ widths read. subst (ValueRead widths c.args.sites.now c.args.names.now) c.in-Some.is read) c.add_assign.ensures.sited
