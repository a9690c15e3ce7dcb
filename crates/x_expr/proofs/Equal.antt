-- Nodes that a set takes for equal are equal.
use Rattle.std.proofs.Common.{rules, ◌≡◌, ◌==◌, ℕ, ◌&&◌, Bool, true, false, refl}
use mathlib.Core.Bool.{beq}
use Rattle.x_expr.specs.declared.node.Between.{Between}
use Rattle.x_expr.specs.declared.node.Node.{Node}
use Rattle.x_expr.specs.declared.node.Node.TheVariants as n
use Rattle.x_expr.specs.contracts.node.BetweenPartialEq.TheImpl as between
use Rattle.x_expr.specs.contracts.node.NodePartialEq.TheImpl.{eq-value}
use Rattle.x_expr.specs.contracts.node.NodeEq.TheImpl.Laws.{laws-law}

pub itself : (x : Node) → eq-value.it x x ≡ true
itself x = laws-law.refl x

between_same : (x y : Between) → between.eq-value.it x y ≡ true → x ≡ y
between_same x y h = search rules

binary_same : (operators : Bool) (a f : Between) (b g d j e k : ℕ) (c i : Bool) → (operators ≡ true → a ≡ f)
    → (operators && ((b == g) && (beq c i && ((d == j) && (e == k))))) ≡ true → n.Binary a b c d e ≡ n.Binary f g i j k
binary_same true a f b g d j e k c i is h = let first : a ≡ f = is refl in rw first (search rules)
binary_same false a f b g d j e k c i is h = absurd (cc h)

pub same : (x y : Node) → eq-value.it x y ≡ true → x ≡ y
same (n.Constant a b) y h = search rules
same (n.Input a b) y h = search rules
same (n.Variable a b) y h = search rules
same (n.Memory a b c) y h = search rules
same (n.Site a b) y h = search rules
same (n.Unary a b c) y h = search rules
same (n.Binary a b c d e) (n.Binary f g i j k) h =
    binary_same (between.eq-value.it a f) a f b g d j e k c i (between_same a f) h
same (n.Binary a b c d e) y h = search rules
same (n.Choose a b c d) y h = search rules
same (n.Part a b c) y h = search rules
same (n.Extend a b c d) y h = search rules
same (n.Concat a b c d) y h = search rules
same (n.Copies a b c) y h = search rules
same (n.Read a b c d) y h = search rules
same (n.Write a b c d e) y h = search rules
