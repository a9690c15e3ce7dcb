-- The meanings of lists of expressions, over the declared names and the places of the sites.
use Rattle.std.specs.Prelude.{ℕ, List, [], ◌∷◌, Bool, true, false}
use Rattle.v_syntax.specs.declared.expr.Expr.{Expr}
use Rattle.v_syntax.specs.declared.expr.BinaryOperator.{BinaryOperator}
use Rattle.v_meaning.specs.Senses.{Sense}
use Rattle.v_meaning.specs.declared.names.Kind.{Kind}
use Rattle.v_meaning.specs.declared.names.Kind.TheVariants.{Memory}
use Rattle.v_meaning.specs.declared.names.Entry.{Entry}
use Rattle.v_meaning.specs.Expressions.{sense_of}

abbrev pub meanings : List Entry → List ℕ → List Expr → List Sense
meanings names sites [] = []
meanings names sites (x ∷ xs) = sense_of names sites x ∷ meanings names sites xs

-- of the operands of a chain, each behind its operator
abbrev pub link_meanings : List Entry → List ℕ → List (BinaryOperator × Expr) → List (BinaryOperator × Sense)
link_meanings names sites [] = []
link_meanings names sites (link ∷ links) = (link.0, sense_of names sites link.1) ∷ link_meanings names sites links

abbrev pub is_memory : Kind → Bool
is_memory (Memory k low count) = true
is_memory _ = false
