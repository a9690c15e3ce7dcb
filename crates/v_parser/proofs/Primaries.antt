-- The readers of expressions read the grammar's expressions: what holds no operator.
use Rattle.std.proofs.Common.{◌≡◌, ℕ, Bool, true, ◌||◌, get_or, List, [], ◌∷◌, Some, refl, ap, ◌∙◌, arith}
use Rattle.std.specs.Prelude.{nat_le}
use Rattle.v_syntax.specs.declared.token.Mark.{Mark}
use Rattle.v_syntax.specs.declared.token.Mark.TheVariants as m
use Rattle.v_syntax.specs.declared.expr.Expr.{Expr}
use Rattle.v_syntax.specs.declared.expr.Number.{Number}
use Rattle.v_syntax.specs.declared.expr.Placed.{Placed}
use Rattle.v_syntax.specs.declared.expr.Range.{Range}
use Rattle.v_syntax.specs.declared.expr.Spelling.TheVariants as s
use Rattle.v_syntax.specs.declared.expr.UnaryOperator.{UnaryOperator}
use Rattle.v_syntax.specs.Rule.{Rule, ◌>>=◌, ◌>>◌, yields, mark, ident}
use Rattle.v_syntax.specs.Grammar.{decimal, based, cast, prefix, unary_of, IsSized, IsNumber, placed, IsRange}
use Rattle.v_parser.specs.Reading as read
use Rattle.v_parser.specs.Reading.{Reader, gives, choose, mark_code, word_code, kind, next, next_in, among, mark_at, word_at, repeated, is_comma, more_at, listed_at}
use Rattle.v_parser.specs.Exprs.{identifiers, decimals, baseds, casts, numbers, based_at, number_at, placed_at, opened_at, bound_at, range_at, ranks}
use Rattle.v_parser.proofs.Exact.{Reads, Begins, reads_bind, reads_then, reads_behind, reads_yields, reads_choose, leads_yields, leads_bind, reads_led, Leads, begins_bind, begins_here, begins_or, begins_among, none, opens, silent, others, nothing}
use Rattle.v_parser.proofs.Single.{reads_mark, reads_decimal, reads_based, reads_here, mark_here}

-- ---- how single tokens begin

pub begins_mark : (x : Mark) → Begins (mark x) (mark_code x ∷ [])
begins_mark x = record { first = λ before after at h. mark_here x before after at h }

pub begins_ident : Begins ident identifiers
begins_ident = record { first = λ before after i h. ap (next_in identifiers) h }

pub begins_decimal : Begins decimal decimals
begins_decimal = record { first = λ before after d h. ap (next_in decimals) h }

pub begins_based : Begins based baseds
begins_based = record { first = λ before after d h. ap (next_in baseds) h }

pub begins_cast : Begins cast casts
begins_cast = record { first = λ before after sign h. ap (next_in casts) h.1 }

-- the kinds of the operators before an operand
abbrev pub prefixes : List ℕ
prefixes = 14 ∷ 15 ∷ 17 ∷ 18 ∷ 19 ∷ 34 ∷ 20 ∷ 35 ∷ 21 ∷ 36 ∷ 37 ∷ []

prefix_kind : (x : Mark) (op : UnaryOperator) → unary_of x ≡ Some op → among (mark_code x) prefixes ≡ true
prefix_kind m.OpenParen op is = absurd cc
prefix_kind m.CloseParen op is = absurd cc
prefix_kind m.OpenBracket op is = absurd cc
prefix_kind m.CloseBracket op is = absurd cc
prefix_kind m.OpenBrace op is = absurd cc
prefix_kind m.CloseBrace op is = absurd cc
prefix_kind m.Semicolon op is = absurd cc
prefix_kind m.Colon op is = absurd cc
prefix_kind m.Comma op is = absurd cc
prefix_kind m.Dot op is = absurd cc
prefix_kind m.Hash op is = absurd cc
prefix_kind m.At op is = absurd cc
prefix_kind m.Question op is = absurd cc
prefix_kind m.Equal op is = absurd cc
prefix_kind m.Plus op is = refl
prefix_kind m.Minus op is = refl
prefix_kind m.Star op is = absurd cc
prefix_kind m.Bang op is = refl
prefix_kind m.Tilde op is = refl
prefix_kind m.Ampersand op is = refl
prefix_kind m.Bar op is = refl
prefix_kind m.Caret op is = refl
prefix_kind m.Less op is = absurd cc
prefix_kind m.Greater op is = absurd cc
prefix_kind m.AndAnd op is = absurd cc
prefix_kind m.OrOr op is = absurd cc
prefix_kind m.EqualEqual op is = absurd cc
prefix_kind m.BangEqual op is = absurd cc
prefix_kind m.LessEqual op is = absurd cc
prefix_kind m.GreaterEqual op is = absurd cc
prefix_kind m.ShiftLeft op is = absurd cc
prefix_kind m.ShiftRight op is = absurd cc
prefix_kind m.ShiftLeftSigned op is = absurd cc
prefix_kind m.ShiftRightSigned op is = absurd cc
prefix_kind m.TildeAmpersand op is = refl
prefix_kind m.TildeBar op is = refl
prefix_kind m.TildeCaret op is = refl
prefix_kind m.CaretTilde op is = refl

pub begins_prefix : Begins prefix prefixes
begins_prefix = record { first = λ before after op h. ap (next_in prefixes) h.2 ∙ prefix_kind h.0 op h.3 }

-- ---- numbers

abbrev pub number_goes : ℕ → Bool
number_goes x = among x baseds

abbrev sized_at : ℕ × List ℕ → Reader Number
sized_at d = choose baseds (read.◌>>=◌ based_at λ x. gives (record { at = d.0; spelling = s.Sized d.1 x.1 })) (gives (record { at = d.0; spelling = s.Decimal d.1 }))

reads_sized : (d : ℕ × List ℕ) → Reads (IsSized d) number_goes 0 (sized_at d)
reads_sized d = reads_choose 0 baseds
    (reads_then (reads_based none) (λ x. reads_yields number_goes (record { at = d.0; spelling = s.Sized d.1 x.1 })))
    (reads_yields number_goes (record { at = d.0; spelling = s.Decimal d.1 })) (omega arith) (omega arith)
    (begins_bind begins_based)
    (nothing baseds (λ l fin. fin))

pub reads_number : Reads IsNumber number_goes 1 number_at
unfolding number_at
reads_number = reads_choose 1 decimals
    (reads_then (reads_decimal none) reads_sized)
    (reads_then (reads_based none) (λ x. reads_yields number_goes (record { at = x.0; spelling = s.Based x.1 }))) (omega arith) (omega arith)
    (begins_bind begins_decimal)
    (others decimals baseds refl (begins_bind begins_based))

pub begins_number : Begins IsNumber numbers
begins_number = begins_or (begins_among decimals numbers refl (begins_bind begins_decimal)) (begins_among baseds numbers refl (begins_bind begins_based))

-- ---- what can go on an expression, and what begins one

abbrev pub operand_goes : ℕ → Bool
operand_goes x = among x (2 ∷ 62 ∷ [])

abbrev pub binary_goes : ℕ → ℕ → Bool
binary_goes rank x = operand_goes x || nat_le (get_or ranks x 99) rank

abbrev pub expr_goes : ℕ → Bool
expr_goes x = among x (12 ∷ []) || binary_goes 10 x

abbrev pub expr_kinds : List ℕ
expr_kinds = 60 ∷ 61 ∷ 62 ∷ 63 ∷ 0 ∷ 4 ∷ prefixes

-- an expression and its first byte
pub reads_placed : {expr : Rule Expr} {c : ℕ → Bool} {f : Reader Expr} → Reads expr c 1 f → Reads (placed expr) c 1 (placed_at f)
reads_placed {c = c} p = reads_behind (reads_here none) (λ at. reads_bind p (λ x. reads_yields c (record { at = at; expr = x })) (silent c))

pub begins_placed : {expr : Rule Expr} {kinds : List ℕ} → Begins expr kinds → Begins (placed expr) kinds
begins_placed b = begins_here (λ at. begins_bind b)

-- ---- ranges, over the expressions in them

abbrev pub OpenedForm : Rule Expr → Rule (ℕ × Placed)
OpenedForm expr = mark m.OpenBracket >>= λ bracket. placed expr >>= λ first. yields (bracket, first)

abbrev pub BoundForm : Rule Expr → Rule Placed
BoundForm expr = mark m.Colon >> (placed expr >>= λ lsb. mark m.CloseBracket >> yields lsb)

pub reads_opened : {expr : Rule Expr} {f : Reader Expr} → Reads expr expr_goes 1 f → Reads (OpenedForm expr) expr_goes 1 (opened_at f)
unfolding opened_at
reads_opened p = reads_then (reads_mark none m.OpenBracket) λ bracket. reads_bind (reads_placed p) (λ first. reads_yields expr_goes (bracket, first)) (silent expr_goes)

pub leads_opened : {B : Type 0} {expr : Rule Expr} {K : ℕ × Placed → Rule B} → Leads (OpenedForm expr) K (mark m.OpenBracket >>= λ bracket. placed expr >>= λ first. K (bracket, first))
leads_opened = leads_bind λ bracket. leads_bind λ first. leads_yields

pub reads_bound : {expr : Rule Expr} {f : Reader Expr} → Reads expr expr_goes 1 f → Reads (BoundForm expr) none 1 (bound_at f)
unfolding bound_at
reads_bound p =
    reads_then (reads_mark none m.Colon) λ _.
    reads_bind (reads_placed p) (λ lsb. reads_then (reads_mark none m.CloseBracket) λ _. reads_yields none lsb)
    (opens expr_goes (3 ∷ []) refl (λ lsb. begins_bind (begins_mark m.CloseBracket)))

pub leads_bound : {B : Type 0} {expr : Rule Expr} {K : Placed → Rule B} → Leads (BoundForm expr) K (mark m.Colon >> (placed expr >>= λ lsb. mark m.CloseBracket >> K lsb))
leads_bound = leads_bind λ _. leads_bind λ lsb. leads_bind λ _. leads_yields

abbrev BehindOpened : Rule Expr → ℕ × Placed → Rule Range
BehindOpened expr inner = mark m.Colon >> (placed expr >>= λ lsb. mark m.CloseBracket >> yields (record { bracket = inner.0; msb = inner.1; lsb = lsb }))

reads_behind_opened : {expr : Rule Expr} {f : Reader Expr} (inner : ℕ × Placed) → Reads expr expr_goes 1 f
    → Reads (BehindOpened expr inner) none 1 (read.◌>>=◌ (bound_at f) λ lsb. gives (record { bracket = inner.0; msb = inner.1; lsb = lsb }))
reads_behind_opened inner p = reads_led leads_bound (reads_then (reads_bound p) λ lsb. reads_yields none (record { bracket = inner.0; msb = inner.1; lsb = lsb }))

pub reads_range : {expr : Rule Expr} {f : Reader Expr} → Reads expr expr_goes 1 f → Reads (IsRange expr) none 1 (range_at f)
unfolding range_at
reads_range p = reads_led leads_opened
    (reads_bind (reads_opened p) (λ inner. reads_behind_opened inner p)
    (opens expr_goes (7 ∷ []) refl (λ inner. begins_bind (begins_mark m.Colon))))
