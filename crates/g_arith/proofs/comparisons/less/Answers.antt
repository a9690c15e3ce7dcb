use Rattle.std.proofs.Common.{arith, sym, subst, ◌∙◌}
use Rattle.g_net.specs.Network.{LiteralsBelow, node_count}
use Rattle.g_arith.specs.Sums.{IsInverse}
use Rattle.g_arith.proofs.Comparing.{topped_below, sum_orders}
use Rattle.g_arith.proofs.comparisons.less.Goals as goal

pub sum-requires-clause-second : goal.sum-requires-clause-second
sum-requires-clause-second g c =
    subst (LiteralsBelow (node_count c.args.builder.now.part)) (sym c.as_slice-3.ensures)
    (c.in_ok-inverted.ensures.there (node_count c.args.builder.now.part)
    (topped_below c.inverted_values.ensures.node (node_count c.args.builder.now.part) c.args.y.now c.args.signed _ (omega arith) (c.as_slice.ensures ∙ c.in_ok-y_turned.ensures) c.requires.second))

pub returns-clause-less : goal.returns-clause-less
returns-clause-less g c =
    sum_orders c.inverted_values.ensures.value _ _ c.args.x.now c.args.y.now _ _ _ _ c.args.signed _ _ (c.constants.ensures.one c.args.builder.now.part) c.requires.width c.requires.same_width
    (c.as_slice-2.ensures ∙ c.in_ok-x_turned.ensures) (c.as_slice.ensures ∙ c.in_ok-y_turned.ensures) (subst (IsInverse c.as_slice.result.now) (sym c.as_slice-3.ensures) c.in_ok-inverted.ensures) c.in_ok-carry.ensures.adds
    c.in_ok-carry.ensures.sum c.complement.ensures.value c.complement.ensures.node
