-- Constant expressions with a proper value, and which expressions have a width at all (1364-2005, 4.10.1, 5, 5.1.14 and
-- 5.2.1).
use Rattle.std.specs.Prelude.{ℕ, ◌+◌, ◌*◌, List, [], ◌∷◌, map, Bool, true, false, not, ◌&&◌, nat_le, nat_lt, if◌then◌else◌, Option, None, Some}
use Rattle.std.specs.List.{list_all}
use Rattle.v_syntax.specs.declared.expr.Expr.{Expr}
use Rattle.v_syntax.specs.declared.expr.Expr.TheOpen.{Expr-F}
use Rattle.v_syntax.specs.declared.expr.Expr.TheOpen as o
use Rattle.v_syntax.specs.declared.expr.Expr.TheFolds.{para-Expr}
use Rattle.v_syntax.specs.declared.expr.Number.{Number}
use Rattle.v_syntax.specs.declared.expr.BinaryOperator.{BinaryOperator}
use Rattle.v_syntax.specs.declared.stmt.Target.{Target}
use Rattle.v_syntax.specs.declared.stmt.Target.TheOpen.{Target-F}
use Rattle.v_syntax.specs.declared.stmt.Target.TheOpen as t
use Rattle.v_syntax.specs.declared.stmt.Target.TheFolds.{fold-Target}
use Rattle.v_meaning.specs.Literals.{is_unsized, is_wrong_number}
use Rattle.v_meaning.specs.Senses.{joined}
use Rattle.v_meaning.specs.declared.names.Entry.{Entry}
use Rattle.v_meaning.specs.Names.{entry_of, or_zero}
use Rattle.v_meaning.specs.Expressions.{sense_of, is_constant, number_by_itself}
use Rattle.v_meaning.specs.Declarations.{constant_value}

abbrev pub width_of : List Entry → Expr → ℕ
width_of names x = (sense_of names [] x).width

-- how many bits expressions have together
abbrev pub all_width : List Entry → List Expr → ℕ
all_width names parts = (joined (map (sense_of names []) parts)).width

abbrev pub is_between_1_and_128 : Option ℕ → Bool
is_between_1_and_128 None = false
is_between_1_and_128 (Some n) = nat_le 1 n && nat_le n 128

-- bounds that descend within the declared range (5.2.1)
abbrev pub is_part : Entry → Option ℕ → Option ℕ → Bool
is_part e (Some msb) (Some lsb) = nat_le e.low lsb && nat_le lsb msb && nat_lt msb (e.low + e.width)
is_part e _ _ = false

-- ---- sound and proper expressions

-- an operand beside whether it is sound
abbrev pub Judged : Type 0
Judged = Expr × Bool

abbrev pub judged_exprs : List Judged → List Expr
judged_exprs xs = map (λ (x : Judged). x.0) xs

abbrev pub are_sound : List Judged → Bool
are_sound xs = list_all (λ (x : Judged). x.1) xs

abbrev pub is_unsized_number : Option Number → Bool
is_unsized_number None = false
is_unsized_number (Some n) = is_unsized n.spelling

-- parts without numbers that have no size, so many times of 1 to 128 bits together
abbrev pub can_join : List Entry → ℕ → List Judged → Bool
can_join names count parts =
    list_all (λ (x : Judged). not (is_unsized_number (number_by_itself x.0))) parts
    && is_between_1_and_128 (Some (count * all_width names (judged_exprs parts)))

-- a sound constant expression, as a bound or count
abbrev pub is_proper_operand : List Entry → Judged → Bool
is_proper_operand names x = is_constant names x.0 && x.1

-- Its numbers have their form. It holds no concatenation or replication with a number without a size as a part or of no
-- or more than 128 bits, no replication count but constants from 1 to 128, and no bounds but constants that descend
-- within the declared range.
abbrev pub sound_step : List Entry → Expr-F Judged → Bool
sound_step names (o.Number n) = not (is_wrong_number n.spelling)
sound_step names (o.Name n) = true
sound_step names (o.Select n bracket index) = index.1
sound_step names (o.Part n bracket msb_at msb lsb_at lsb) =
    is_proper_operand names msb && is_proper_operand names lsb
    && is_part (entry_of names n.name) (constant_value names msb.0) (constant_value names lsb.0)
sound_step names (o.Unary op x) = x.1
sound_step names (o.Chain x links) = x.1 && list_all (λ (link : BinaryOperator × Judged). link.1.1) links
sound_step names (o.Conditional c x y) = c.1 && x.1 && y.1
sound_step names (o.Concat brace parts) = are_sound parts && can_join names 1 parts
sound_step names (o.Replicate brace count_at count inner parts) =
    is_proper_operand names count && is_between_1_and_128 (constant_value names count.0)
    && are_sound parts && can_join names (or_zero (constant_value names count.0)) parts
sound_step names (o.Cast sign x) = x.1

abbrev pub is_sound : List Entry → Expr → Bool
is_sound names = para-Expr Bool (sound_step names)

-- a constant expression with a proper value
abbrev pub is_proper : List Entry → Expr → Bool
is_proper names x = is_constant names x && is_sound names x

abbrev pub is_count : List Entry → Expr → Bool
is_count names x = is_proper names x && is_between_1_and_128 (constant_value names x)

-- the number that a bound stands for, where it is proper
abbrev pub proper_value : List Entry → Expr → Option ℕ
proper_value names x = if is_proper names x then constant_value names x else None

-- ---- definite widths: where a bound or count is not proper, nothing is said of how many bits there are

abbrev pub Known : Type 0
Known = Expr × Bool

abbrev pub are_known : List Known → Bool
are_known xs = list_all (λ (x : Known). x.1) xs

abbrev pub definite_step : List Entry → Expr-F Known → Bool
definite_step names (o.Number n) = true
definite_step names (o.Name n) = true
definite_step names (o.Select n bracket index) = true
definite_step names (o.Part n bracket msb_at msb lsb_at lsb) = is_proper names msb.0 && is_proper names lsb.0
definite_step names (o.Unary op x) = x.1
definite_step names (o.Chain x links) = x.1 && list_all (λ (link : BinaryOperator × Known). link.1.1) links
definite_step names (o.Conditional c x y) = x.1 && y.1
definite_step names (o.Concat brace parts) = are_known parts
definite_step names (o.Replicate brace count_at count inner parts) = is_count names count.0 && are_known parts
definite_step names (o.Cast sign x) = x.1

abbrev pub is_definite : List Entry → Expr → Bool
is_definite names = para-Expr Bool (definite_step names)

abbrev pub are_definite : List Entry → List Expr → Bool
are_definite names xs = list_all (is_definite names) xs

abbrev pub definite_target_step : List Entry → Target-F Bool → Bool
definite_target_step names (t.Name n) = true
definite_target_step names (t.Select n bracket index) = true
definite_target_step names (t.Part n r) = is_proper names r.msb.expr && is_proper names r.lsb.expr
definite_target_step names (t.Concat brace parts) = list_all (λ part. part) parts

abbrev pub is_definite_target : List Entry → Target → Bool
is_definite_target names = fold-Target Bool (definite_target_step names)

-- so many bits, where they are definite
abbrev pub bits_if : Bool → ℕ → Option ℕ
bits_if true width = Some width
bits_if false width = None

abbrev pub concat_bits : List Entry → List Expr → Option ℕ
concat_bits names parts = bits_if (are_definite names parts) (all_width names parts)

abbrev pub replicated_bits : List Entry → Expr → List Expr → Option ℕ
replicated_bits names count parts =
    bits_if (is_count names count && are_definite names parts) (or_zero (constant_value names count) * all_width names parts)
