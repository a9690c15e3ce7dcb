-- What operators make of what is counted of their operands, where a test or a match has found which they are.
use Rattle.std.proofs.Common.{◌≡◌, ℕ, Bool, subst}
use Rattle.std.specs.Prelude.{if◌then◌else◌}
use Rattle.v_syntax.specs.declared.expr.BinaryOperator.{BinaryOperator}
use Rattle.v_meaning.specs.Senses.{Class}
use Rattle.v_weight.specs.declared.counting.Counted.{Counted}
use Rattle.v_weight.specs.Saturated.{Same}
use Rattle.v_weight.specs.Counts.{Operates, Prefixes}

pub of_class : (class other : Class) (op : BinaryOperator) (x y r : Counted) → class ≡ other → Operates class op x y r → Operates other op x y r
of_class class other op x y r is h = subst (λ (k : Class). Operates k op x y r) is h

pub of_way : (through other : Bool) (x r : Counted) → through ≡ other → Prefixes through x r → Prefixes other x r
of_way through other x r is h = subst (λ (b : Bool). Prefixes b x r) is h

pub if_fixed : (fixed other : Bool) (r n : ℕ) → fixed ≡ other → Same r (if fixed then 0 else n) → Same r (if other then 0 else n)
if_fixed fixed other r n is h = subst (λ (b : Bool). Same r (if b then 0 else n)) is h
