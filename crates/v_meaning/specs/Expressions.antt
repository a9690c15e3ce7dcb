-- The meaning of each expression of the source, by recursion on the syntax (1364-2005, 5).
use Rattle.std.specs.Prelude.{ℕ, ◌+◌, ◌==◌, List, [], ◌∷◌, Bool, true, false, not, ◌&&◌, if◌then◌else◌, slice_index, Option, None, Some}
use Rattle.std.specs.List.{list_all}
use Rattle.v_syntax.specs.declared.expr.Expr.{Expr}
use Rattle.v_syntax.specs.declared.expr.Expr.TheOpen.{Expr-F}
use Rattle.v_syntax.specs.declared.expr.Expr.TheOpen as o
use Rattle.v_syntax.specs.declared.expr.Expr.TheFolds.{fold-Expr}
use Rattle.v_syntax.specs.declared.expr.Number.{Number}
use Rattle.v_syntax.specs.declared.expr.BinaryOperator.{BinaryOperator}
use Rattle.v_meaning.specs.Views.{View}
use Rattle.v_meaning.specs.declared.literal.Literal.{Literal}
use Rattle.v_meaning.specs.Literals.{literal_of, literal_value, digit_in, is_x, is_z}
use Rattle.v_meaning.specs.Senses.{Sense, leaf, constant, prefixed, chained, chosen, joined, replicated, recast}
use Rattle.v_meaning.specs.declared.names.Kind.{Kind}
use Rattle.v_meaning.specs.declared.names.Kind.TheVariants.{Parameter}
use Rattle.v_meaning.specs.declared.names.Entry.{Entry}
use Rattle.v_meaning.specs.Names.{entry_of, read, selected, or_zero, read_part}

-- the number of a site, by its place in the text
abbrev pub number_of_place : List ℕ → ℕ → ℕ
number_of_place [] at = 0
number_of_place (site ∷ sites) at = if site == at then 0 else 1 + number_of_place sites at

-- the bits of the site at a place
abbrev pub open_at : List ℕ → ℕ → View → ℕ
open_at sites at v = slice_index v.sites (number_of_place sites at)

abbrev pub number_sense : Literal → (View → ℕ) → Sense
number_sense l free = leaf l.width l.signed (λ v. literal_value l (free v))

-- The declared names, and the places of the sites in order; a site is a number, or a select, and its place is the first
-- byte.
abbrev pub sense_step : List Entry → List ℕ → Expr-F Sense → Sense
sense_step names sites (o.Number n) = number_sense (literal_of n.spelling) (open_at sites n.at)
sense_step names sites (o.Name n) = read (entry_of names n.name)
sense_step names sites (o.Select n bracket index) = selected (entry_of names n.name) index (open_at sites n.at)
sense_step names sites (o.Part n bracket msb_at msb lsb_at lsb) =
    read_part (entry_of names n.name) (or_zero (constant msb)) (or_zero (constant lsb))
sense_step names sites (o.Unary op x) = prefixed op x
sense_step names sites (o.Chain x links) = chained x links
sense_step names sites (o.Conditional c x y) = chosen c x y
sense_step names sites (o.Concat brace parts) = joined parts
sense_step names sites (o.Replicate brace count_at count inner parts) = replicated (or_zero (constant count)) (joined parts)
sense_step names sites (o.Cast sign x) = recast sign x

abbrev pub sense_of : List Entry → List ℕ → Expr → Sense
sense_of names sites = fold-Expr Sense (sense_step names sites)

-- ---- constant expressions (4.10.1, 5)

abbrev pub is_parameter : Kind → Bool
is_parameter (Parameter value) = true
is_parameter _ = false

abbrev pub all_links : List (BinaryOperator × Bool) → Bool
all_links [] = true
all_links (link ∷ links) = link.1 && all_links links

-- It holds numbers without x and z digits, parameters, and operators over such; and no other name, and no select.
abbrev pub constant_step : List Entry → Expr-F Bool → Bool
constant_step names (o.Number n) = not (digit_in is_x n.spelling) && not (digit_in is_z n.spelling)
constant_step names (o.Name n) = is_parameter (entry_of names n.name).kind
constant_step names (o.Select n bracket index) = false
constant_step names (o.Part n bracket msb_at msb lsb_at lsb) = false
constant_step names (o.Unary op x) = x
constant_step names (o.Chain x links) = x && all_links links
constant_step names (o.Conditional c x y) = c && x && y
constant_step names (o.Concat brace parts) = list_all (λ part. part) parts
constant_step names (o.Replicate brace count_at count inner parts) = count && list_all (λ part. part) parts
constant_step names (o.Cast sign x) = x

abbrev pub is_constant : List Entry → Expr → Bool
is_constant names = fold-Expr Bool (constant_step names)

-- ---- numbers by themselves

abbrev pub number_at_top : Expr-F (Option Number) → Option Number
number_at_top (o.Number n) = Some n
number_at_top _ = None

-- the number, where an expression is one and nothing else
abbrev pub number_by_itself : Expr → Option Number
number_by_itself = fold-Expr (Option Number) number_at_top
