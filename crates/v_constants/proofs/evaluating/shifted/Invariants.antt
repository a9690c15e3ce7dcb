use Rattle.std.proofs.Common.{◌≡◌, ◌<◌, ℕ, drop, true}
use Rattle.std.specs.Prelude.{◌^◌}
use Rattle.std.specs.List.{list_all}
use Rattle.v_syntax.specs.declared.expr.BinaryOperator.{BinaryOperator}
use Rattle.v_meaning.specs.Senses.{class_of}
use Rattle.v_constants.specs.Bodies.{chain_value, is_shifted}
use Rattle.v_constants.proofs.evaluating.shifted.Given as goal

abbrev pub invariant-loop-operator : goal.invariant-loop-operator
invariant-loop-operator l =
    (chain_value (λ (n : ℕ). n) l.width l.signed l.left (drop l.operator-index l.links) ≡ chain_value (λ (n : ℕ). n) l.width l.signed l.first l.links)
    × (l.left < 2 ^ l.width)
    × (list_all (λ (link : BinaryOperator × ℕ). is_shifted (class_of link.0)) (drop l.operator-index l.links) ≡ true)
