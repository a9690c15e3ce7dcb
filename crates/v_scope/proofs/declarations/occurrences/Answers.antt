use Rattle.v_scope.proofs.ItemMarks.{module_is}
use Rattle.v_scope.proofs.declarations.occurrences.Goals as goal

pub returns : goal.returns
returns c =
    module_is c.args.module.now _ _ _ _ _ _ _ c.new-all.ensures.items c.as_slice.ensures c.as_slice-2.ensures c.as_slice-3.ensures c.in_ok-add_each.ensures c.in_ok-add_each-2.ensures c.in_ok-add_each-3.ensures
