use Rattle.v_sites.proofs.LeafSites.{fixed_by, not_fixed}
use Rattle.v_sites.proofs.leaves.is_fixed.Goals as goal

pub returns-in-Some : goal.returns-in-Some
returns-in-Some c sound e kind low width =
    fixed_by c.args.names.now e c.args.index.now _ _ _ (c.in_ok-constant.ensures.some _ c.in-Some.is) (c.number.ensures c.args.names.now c.args.index.now (c.in_ok-constant.ensures.some _ c.in-Some.is))
    (c.is_in_range.ensures e kind low width)

pub returns-in-None : goal.returns-in-None
returns-in-None c sound e kind low width = not_fixed c.args.names.now e c.args.index.now sound (c.in_ok-constant.ensures.none c.in-None.is)
