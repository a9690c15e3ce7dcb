-- What expressions mean whose final width and sign are open (1364-2005, 5.4.1 and 5.5).
use Rattle.std.specs.Prelude.{ℕ, ◌==◌, List, [], ◌∷◌, Bool, if◌then◌else◌}
use Rattle.v_syntax.specs.declared.expr.BinaryOperator.{BinaryOperator}
use Rattle.v_meaning.specs.Views.{View}
use Rattle.v_meaning.specs.Senses.{Sense, extended, operation_before}
use Rattle.v_meaning.specs.declared.names.Entry.{Entry}
use Rattle.v_core.specs.declared.typed.Link.{Link}
use Rattle.v_core.specs.declared.open.Body.{Body}
use Rattle.v_core.specs.declared.open.Body.TheOpen.{Body-F}
use Rattle.v_core.specs.declared.open.Body.TheOpen as b
use Rattle.v_core.specs.declared.open.Body.TheFolds.{fold-Body}
use Rattle.v_core.specs.declared.open.Open.{Open}
use Rattle.v_core.specs.Values.{Value, typed_value, chain_value}

-- a value where a final width and sign come down
abbrev pub Fixed : Type 0
Fixed = ℕ → Bool → List Entry → View → ℕ

-- the operands of a chain at a final width and sign, each behind its operator
abbrev pub fixed_links : List (BinaryOperator × Fixed) → ℕ → Bool → List (Link × Value)
fixed_links [] w s = []
fixed_links (link ∷ links) w s = (record { operator = link.0; width = w; signed = s }, link.1 w s) ∷ fixed_links links w s

abbrev pub body_step : Body-F Fixed → ℕ → Bool → List Entry → View → ℕ
body_step (b.Leaf width x) w s names v = extended width (typed_value x names v) w s
body_step (b.Own x) w s names v = typed_value x names v
body_step (b.Unary op x) w s names v = operation_before op w (x w s names v)
body_step (b.Chain x links) w s names v = chain_value (x w s names v) (fixed_links links w s) names v
body_step (b.Choice c x y) w s names v = if typed_value c names v == 0 then y w s names v else x w s names v

abbrev pub body_value : Body → ℕ → Bool → List Entry → View → ℕ
body_value = fold-Body Fixed body_step

-- the operands of a chain, each behind its operator
abbrev pub link_bodies : List (BinaryOperator × Body) → List (BinaryOperator × Fixed)
link_bodies [] = []
link_bodies (link ∷ links) = (link.0, body_value link.1) ∷ link_bodies links

-- what an open expression means over the declared names
abbrev pub sense_in : Open → List Entry → Sense
sense_in o names = record { width = o.width; signed = o.signed; at = λ w s. body_value o.body w s names }
