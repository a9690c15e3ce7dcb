use Rattle.std.proofs.Common.{◌≡◌, ◌<◌, drop, true}
use Rattle.std.specs.Prelude.{◌^◌}
use Rattle.std.specs.List.{list_all}
use Rattle.v_syntax.specs.declared.expr.BinaryOperator.{BinaryOperator}
use Rattle.v_constants.specs.declared.body.Body.{Body}
use Rattle.v_constants.specs.Bodies.{chain_value, held}
use Rattle.v_constants.proofs.evaluating.+evaluating.Given as goal

abbrev pub invariant-chained-loop-operator : goal.invariant-chained-loop-operator
invariant-chained-loop-operator l =
    (chain_value (λ (x : Body). (held x).value l.width l.signed) l.width l.signed l.left (drop l.operator-index l.links)
    ≡ chain_value (λ (x : Body). (held x).value l.width l.signed) l.width l.signed l.first l.links)
    × (l.left < 2 ^ l.width)
    × (list_all (λ (link : BinaryOperator × Body). (held link.1).fits l.width) (drop l.operator-index l.links) ≡ true)
