-- Literals: 2n for node n, and 2n + 1 for its inverse. Node 0 is the constant 0.
use Rattle.std.specs.Prelude.{◌==◌, ℕ, ◌+◌, ◌-◌, ◌*◌, ◌/◌, ◌%◌, Bool, true, false, if◌then◌else◌}

-- the node of a literal
abbrev pub literal_node : ℕ → ℕ
literal_node literal = literal / 2

-- whether the literal is the inverse of its node
abbrev pub is_inverse : ℕ → Bool
is_inverse literal = literal % 2 == 1

-- the literal with the lowest bit changed
abbrev pub inverse_of : ℕ → ℕ
inverse_of literal = if literal % 2 == 0 then literal + 1 else literal - 1

abbrev pub inverted_of : ℕ → Bool → ℕ
inverted_of literal true = inverse_of literal
inverted_of literal false = literal

-- the literal of the node itself
abbrev pub even_of : ℕ → ℕ
even_of literal = 2 * (literal / 2)
