-- What each rule makes of a shape.
use Rattle.std.specs.Prelude.{◌==◌, nat_lt, false, ◌||◌, if◌then◌else◌}
use Rattle.std.specs.Bool.{xor}
use Rattle.g_rules.specs.declared.shapes.Rewrite.{Rewrite}
use Rattle.g_rules.specs.declared.shapes.Rewrite.TheVariants.{Keep, Literal}
use Rattle.g_rules.specs.declared.shapes.Rewrite.TheVariants as rewrite
use Rattle.g_rules.specs.declared.shapes.Shape.{Shape}
use Rattle.g_rules.specs.declared.shapes.Shape.TheVariants as shape
use Rattle.g_rules.specs.Literals.{is_inverse, inverse_of, even_of}

-- 0 at either side to 0, else 1 at one side to the other literal
abbrev pub and_constant_of : Shape → Rewrite
and_constant_of (shape.And a b) = if a == 0 || b == 0 then Literal 0 else if a == 1 then Literal b else if b == 1 then Literal a else Keep
and_constant_of (shape.Xor a b) = Keep

-- equal literals to that literal, a literal and its inverse to 0
abbrev pub and_same_of : Shape → Rewrite
and_same_of (shape.And a b) = if a == b then Literal a else if a == inverse_of b then Literal 0 else Keep
and_same_of (shape.Xor a b) = Keep

-- the smaller literal first
abbrev pub and_order_of : Shape → Rewrite
and_order_of (shape.And a b) = if nat_lt b a then rewrite.And b a else Keep
and_order_of (shape.Xor a b) = Keep

-- 0 at one side to the other literal, else 1 at one side to the inverse of the other
abbrev pub xor_constant_of : Shape → Rewrite
xor_constant_of (shape.And a b) = Keep
xor_constant_of (shape.Xor a b) =
    if a == 0 then Literal b else if b == 0 then Literal a else if a == 1 then Literal (inverse_of b) else if b == 1 then Literal (inverse_of a) else Keep

-- equal literals to 0, a literal and its inverse to 1
abbrev pub xor_same_of : Shape → Rewrite
xor_same_of (shape.And a b) = Keep
xor_same_of (shape.Xor a b) = if a == b then Literal 0 else if a == inverse_of b then Literal 1 else Keep

-- where a literal is an inverse, both nodes themselves, inverted where exactly one was an inverse
abbrev pub xor_signs_of : Shape → Rewrite
xor_signs_of (shape.And a b) = Keep
xor_signs_of (shape.Xor a b) = if is_inverse a || is_inverse b then rewrite.Xor (even_of a) (even_of b) (xor (is_inverse a) (is_inverse b)) else Keep

-- the smaller literal first
abbrev pub xor_order_of : Shape → Rewrite
xor_order_of (shape.And a b) = Keep
xor_order_of (shape.Xor a b) = if nat_lt b a then rewrite.Xor b a false else Keep
