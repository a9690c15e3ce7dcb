-- What each rule that looks at the gates below makes of a shape.
use Rattle.std.specs.Prelude.{◌==◌, ℕ, not, ◌||◌, if◌then◌else◌, Option, None, Some}
use Rattle.std.specs.Bool.{xor}
use Rattle.g_rules.specs.declared.shapes.Deep.{Deep}
use Rattle.g_rules.specs.declared.shapes.Rewrite.{Rewrite}
use Rattle.g_rules.specs.declared.shapes.Rewrite.TheVariants.{Keep, Literal}
use Rattle.g_rules.specs.declared.shapes.Rewrite.TheVariants as rewrite
use Rattle.g_rules.specs.declared.shapes.Shape.{Shape}
use Rattle.g_rules.specs.declared.shapes.Shape.TheVariants as shape
use Rattle.g_rules.specs.Literals.{literal_node, is_inverse, inverse_of, inverted_of}

-- the second where the first keeps the shape
abbrev pub or_else : Rewrite → Rewrite → Rewrite
or_else Keep second = second
or_else (Literal literal) second = Literal literal
or_else (rewrite.And a b) second = rewrite.And a b
or_else (rewrite.Xor a b invert) second = rewrite.Xor a b invert

-- `and` of a and of b, where the node of b is this gate, and b is no inverse: a equal to x or y to b, else a the
-- inverse of x or y to 0
abbrev pub absorbed : ℕ → ℕ → Option Shape → Rewrite
absorbed a b None = Keep
absorbed a b (Some (shape.And x y)) =
    if is_inverse b then Keep else if a == x || a == y then Literal b else if a == inverse_of x || a == inverse_of y then Literal 0 else Keep
absorbed a b (Some (shape.Xor x y)) = Keep

-- `and` of a and of b, where the node of b is this gate, and b is an inverse: a the inverse of x or y to a, else a
-- equal to x to `and` of a and the inverse of y, else a equal to y to `and` of a and the inverse of x
abbrev pub subsumed : ℕ → ℕ → Option Shape → Rewrite
subsumed a b None = Keep
subsumed a b (Some (shape.And x y)) =
    if is_inverse b
    then if a == inverse_of x || a == inverse_of y then Literal a else if a == x then rewrite.And a (inverse_of y) else if a == y then rewrite.And a (inverse_of x) else Keep
    else Keep
subsumed a b (Some (shape.Xor x y)) = Keep

-- `xor` of a and of b, where the node of b is this gate: a and x of one node to y, which is inverted where exactly one
-- of these holds: b is an inverse, a and x differ; else the same with y for x
abbrev pub cancelled : ℕ → ℕ → Option Shape → Rewrite
cancelled a b None = Keep
cancelled a b (Some (shape.And x y)) = Keep
cancelled a b (Some (shape.Xor x y)) =
    if literal_node a == literal_node x then Literal (inverted_of y (xor (is_inverse b) (not (a == x))))
    else if literal_node a == literal_node y then Literal (inverted_of x (xor (is_inverse b) (not (a == y))))
    else Keep

-- the second literal is tried first, then the first one in its place
abbrev pub absorbed_on_either : Shape → Option Shape → Option Shape → Rewrite
absorbed_on_either (shape.And a b) left right = or_else (absorbed a b right) (absorbed b a left)
absorbed_on_either (shape.Xor a b) left right = Keep

abbrev pub subsumed_on_either : Shape → Option Shape → Option Shape → Rewrite
subsumed_on_either (shape.And a b) left right = or_else (subsumed a b right) (subsumed b a left)
subsumed_on_either (shape.Xor a b) left right = Keep

abbrev pub cancelled_on_either : Shape → Option Shape → Option Shape → Rewrite
cancelled_on_either (shape.And a b) left right = Keep
cancelled_on_either (shape.Xor a b) left right = or_else (cancelled a b right) (cancelled b a left)

abbrev pub and_absorb_of : Deep → Rewrite
and_absorb_of d = absorbed_on_either d.shape d.left d.right

abbrev pub and_subsume_of : Deep → Rewrite
and_subsume_of d = subsumed_on_either d.shape d.left d.right

abbrev pub xor_cancel_of : Deep → Rewrite
xor_cancel_of d = cancelled_on_either d.shape d.left d.right
