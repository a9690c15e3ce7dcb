-- How expressions are read.
use Rattle.std.specs.Prelude.{ℕ, zero, suc, ◌==◌, Bool, List, [], ◌∷◌, get_or, Option, None, Some, Result, Ok, Err, if◌then◌else◌}
use Rattle.v_syntax.specs.declared.token.Token.{Token}
use Rattle.v_syntax.specs.declared.token.Ident.{Ident}
use Rattle.v_syntax.specs.declared.token.Cast.{Cast}
use Rattle.v_syntax.specs.declared.token.Lexeme.{Lexeme}
use Rattle.v_syntax.specs.declared.token.Lexeme.TheVariants as l
use Rattle.v_syntax.specs.declared.token.Mark.{Mark}
use Rattle.v_syntax.specs.declared.token.Mark.TheVariants as m
use Rattle.v_syntax.specs.declared.expr.Expr.{Expr}
use Rattle.v_syntax.specs.declared.expr.Expr.TheVariants as e
use Rattle.v_syntax.specs.declared.expr.Number.{Number}
use Rattle.v_syntax.specs.declared.expr.Spelling.TheVariants as s
use Rattle.v_syntax.specs.declared.expr.Placed.{Placed}
use Rattle.v_syntax.specs.declared.expr.Range.{Range}
use Rattle.v_syntax.specs.declared.expr.UnaryOperator.{UnaryOperator}
use Rattle.v_syntax.specs.declared.expr.BinaryOperator.{BinaryOperator}
use Rattle.v_syntax.specs.Grammar.{unary_of, binary_of, rank_of, chain}
use Rattle.v_parser.specs.Reading.{Reader, ◌>>=◌, ◌>>◌, gives, mark_code, choose, repeated, more_at, listed_at, mark_at, before_at, behind_at, here_at, ident_at}

abbrev pub identifiers : List ℕ
identifiers = 60 ∷ []

abbrev pub decimals : List ℕ
decimals = 61 ∷ []

abbrev pub baseds : List ℕ
baseds = 62 ∷ []

abbrev pub casts : List ℕ
casts = 63 ∷ []

abbrev pub numbers : List ℕ
numbers = 61 ∷ 62 ∷ []

abbrev pub only : Mark → List ℕ
only x = mark_code x ∷ []

-- the bytes of a number
abbrev pub bytes_of : Lexeme → List ℕ
bytes_of (l.Decimal bytes) = bytes
bytes_of (l.Based bytes) = bytes
bytes_of (l.Identifier name) = []
bytes_of (l.Mark x) = []
bytes_of (l.Keyword x) = []
bytes_of (l.Cast sign) = []
bytes_of (l.Reserved name) = []

abbrev pub decimal_in : Lexeme → Option (List ℕ)
decimal_in (l.Decimal bytes) = Some bytes
decimal_in (l.Based bytes) = None
decimal_in (l.Identifier name) = None
decimal_in (l.Mark x) = None
decimal_in (l.Keyword x) = None
decimal_in (l.Cast sign) = None
decimal_in (l.Reserved name) = None

abbrev pub based_in : Lexeme → Option (List ℕ)
based_in (l.Decimal bytes) = None
based_in (l.Based bytes) = Some bytes
based_in (l.Identifier name) = None
based_in (l.Mark x) = None
based_in (l.Keyword x) = None
based_in (l.Cast sign) = None
based_in (l.Reserved name) = None

abbrev pub cast_in : Lexeme → Option Cast
cast_in (l.Decimal bytes) = None
cast_in (l.Based bytes) = None
cast_in (l.Identifier name) = None
cast_in (l.Mark x) = None
cast_in (l.Keyword x) = None
cast_in (l.Cast sign) = Some sign
cast_in (l.Reserved name) = None

abbrev pub prefix_in : Lexeme → Option UnaryOperator
prefix_in (l.Decimal bytes) = None
prefix_in (l.Based bytes) = None
prefix_in (l.Identifier name) = None
prefix_in (l.Mark x) = unary_of x
prefix_in (l.Keyword x) = None
prefix_in (l.Cast sign) = None
prefix_in (l.Reserved name) = None

abbrev pub of_rank : ℕ → Option BinaryOperator → Option BinaryOperator
of_rank rank None = None
of_rank rank (Some op) = if rank_of op == rank then Some op else None

abbrev pub between_in : ℕ → Lexeme → Option BinaryOperator
between_in rank (l.Decimal bytes) = None
between_in rank (l.Based bytes) = None
between_in rank (l.Identifier name) = None
between_in rank (l.Mark x) = of_rank rank (binary_of x)
between_in rank (l.Keyword x) = None
between_in rank (l.Cast sign) = None
between_in rank (l.Reserved name) = None

-- the token, where the view finds something in it
abbrev pub seen : {A B : Type 0} → Option A → B → List Token → Result (B × List Token) (List Token)
seen None b tokens = Err tokens
seen (Some a) b tokens = Ok (b, tokens)

abbrev pub found : {A : Type 0} → Option A → List Token → List Token → Result (A × List Token) (List Token)
found None after all = Err all
found (Some a) after all = Ok (a, after)

abbrev pub found_at : {A : Type 0} → Option A → ℕ → List Token → List Token → Result ((ℕ × A) × List Token) (List Token)
found_at None at after all = Err all
found_at (Some a) at after all = Ok ((at, a), after)

unfoldable pub decimal_at : Reader (ℕ × List ℕ)
decimal_at [] = Err []
decimal_at (t ∷ tokens) = found_at (decimal_in t.lexeme) t.at tokens (t ∷ tokens)

unfoldable pub based_at : Reader (ℕ × List ℕ)
based_at [] = Err []
based_at (t ∷ tokens) = found_at (based_in t.lexeme) t.at tokens (t ∷ tokens)

unfoldable pub cast_at : Reader Cast
cast_at [] = Err []
cast_at (t ∷ tokens) = found (cast_in t.lexeme) tokens (t ∷ tokens)

unfoldable pub prefix_at : Reader UnaryOperator
prefix_at [] = Err []
prefix_at (t ∷ tokens) = found (prefix_in t.lexeme) tokens (t ∷ tokens)

unfoldable pub between_at : ℕ → Reader BinaryOperator
between_at rank [] = Err []
between_at rank (t ∷ tokens) = found (between_in rank t.lexeme) tokens (t ∷ tokens)

unfoldable pub number_at : Reader Number
number_at = choose decimals
    (decimal_at >>= λ d. choose baseds
    (based_at >>= λ x. gives (record { at = d.0; spelling = s.Sized d.1 x.1 }))
    (gives (record { at = d.0; spelling = s.Decimal d.1 })))
    (based_at >>= λ x. gives (record { at = x.0; spelling = s.Based x.1 }))

abbrev pub placed_at : Reader Expr → Reader Placed
placed_at f = here_at >>= λ at. f >>= λ x. gives (record { at = at; expr = x })

-- an opening bracket, and the expression behind it
unfoldable pub opened_at : Reader Expr → Reader (ℕ × Placed)
opened_at expr = do
  bracket ← mark_at m.OpenBracket
  first ← placed_at expr
  gives (bracket, first)

-- the second bound of a range, from the colon to the closing bracket
unfoldable pub bound_at : Reader Expr → Reader Placed
bound_at expr = do
  mark_at m.Colon
  lsb ← placed_at expr
  before_at m.CloseBracket lsb

unfoldable pub range_at : Reader Expr → Reader Range
range_at expr = do
  inner ← opened_at expr
  lsb ← bound_at expr
  gives (record { bracket = inner.0; msb = inner.1; lsb = lsb })

-- the ranks of the marks by their codes; 99 is no operator
abbrev pub ranks : List ℕ
ranks =
    99 ∷ 99 ∷ 99 ∷ 99 ∷ 99 ∷ 99 ∷ 99 ∷ 99 ∷ 99 ∷ 99 ∷ 99 ∷ 99 ∷ 99 ∷ 99 ∷ 2 ∷ 2 ∷ 1 ∷ 99 ∷ 99 ∷ 6 ∷ 8 ∷ 7 ∷ 4 ∷ 4 ∷ 9 ∷ 10 ∷ 5 ∷ 5 ∷ 4 ∷ 4 ∷ 3 ∷ 3 ∷ 3 ∷ 3 ∷ 99 ∷ 99 ∷ 7 ∷ 7 ∷ []

abbrev pub has_rank : ℕ → ℕ → Bool
has_rank rank x = get_or ranks x 99 == rank

unfoldable pub part_at : Reader Expr → Ident → ℕ → Placed → Reader Expr
part_at expr name bracket msb = bound_at expr >>= λ lsb. gives (e.Part name bracket msb.at msb.expr lsb.at lsb.expr)

unfoldable pub index_at : Reader Expr → Ident → Reader Expr
index_at expr name = do
  inner ← opened_at expr
  choose (only m.Colon) (part_at expr name inner.0 inner.1) (before_at m.CloseBracket (e.Select name inner.0 inner.1.expr))

unfoldable pub name_at : Reader Expr → Reader Expr
name_at expr = ident_at >>= λ name. choose (only m.OpenBracket) (index_at expr name) (gives (e.Name name))

unfoldable pub group_at : Reader Expr → Reader Expr
group_at expr = do
  mark_at m.OpenParen
  x ← expr
  before_at m.CloseParen x

unfoldable pub concat_at : Reader Expr → ℕ → Expr → Reader Expr
concat_at expr brace first = more_at expr (first ∷ []) >>= λ parts. before_at m.CloseBrace (e.Concat brace parts)

-- the inner brace and the parts of a replication, up to its end
unfoldable pub inner_parts_at : Reader Expr → Reader (ℕ × List Expr)
inner_parts_at expr = do
  inner ← mark_at m.OpenBrace
  parts ← listed_at expr
  mark_at m.CloseBrace
  before_at m.CloseBrace (inner, parts)

unfoldable pub replicate_at : Reader Expr → ℕ → Placed → Reader Expr
replicate_at expr brace count = inner_parts_at expr >>= λ inner. gives (e.Replicate brace count.at count.expr inner.0 inner.1)

unfoldable pub braces_at : Reader Expr → Reader Expr
braces_at expr = do
  brace ← mark_at m.OpenBrace
  first ← placed_at expr
  choose (only m.OpenBrace) (replicate_at expr brace first) (concat_at expr brace first.expr)

unfoldable pub signed_at : Reader Expr → Reader Expr
signed_at expr = cast_at >>= λ sign. group_at expr >>= λ x. gives (e.Cast sign x)

unfoldable pub prefixed_at : Reader Expr → Reader Expr
prefixed_at operand = prefix_at >>= λ op. operand >>= λ x. gives (e.Unary op x)

unfoldable pub leaf_at : Reader Expr
leaf_at = choose identifiers (ident_at >>= λ name. gives (e.Name name)) (number_at >>= λ n. gives (e.Number n))

unfoldable pub operand_over_at : Reader Expr → Reader Expr → Reader Expr
operand_over_at operand expr =
    choose identifiers (name_at expr)
    (choose numbers (number_at >>= λ n. gives (e.Number n))
    (choose (only m.OpenParen) (group_at expr)
    (choose (only m.OpenBrace) (braces_at expr)
    (choose casts (signed_at expr) (prefixed_at operand)))))

unfoldable pub link_at : ℕ → Reader Expr → Reader (BinaryOperator × Expr)
link_at rank operand = between_at rank >>= λ op. operand >>= λ x. gives (op, x)

unfoldable pub binary_at : Reader Expr → ℕ → Reader Expr
binary_at operand zero = operand
binary_at operand (suc rank) =
    binary_at operand rank >>= λ first. repeated (has_rank (suc rank)) (link_at (suc rank) (binary_at operand rank)) [] >>= λ others. gives (chain first others)

unfoldable pub other_arm_at : Reader Expr → Expr → Expr → Reader Expr
other_arm_at arm condition one = behind_at m.Colon arm >>= λ other. gives (e.Conditional condition one other)

unfoldable pub arms_at : Reader Expr → Expr → Reader Expr
arms_at arm condition = behind_at m.Question arm >>= λ one. other_arm_at arm condition one

unfoldable pub expr_over_at : Reader Expr → Reader Expr → Reader Expr
expr_over_at condition arm = condition >>= λ c. choose (only m.Question) (arms_at arm c) (gives c)

unfoldable pub nested_at : ℕ → Reader Expr × Reader Expr
nested_at zero = (leaf_at, binary_at leaf_at 10)
nested_at (suc levels) = (
  operand_over_at (nested_at levels).0 (nested_at levels).1,
  expr_over_at (binary_at (operand_over_at (nested_at levels).0 (nested_at levels).1) 10) (nested_at levels).1,
)

abbrev pub operand_at : ℕ → Reader Expr
operand_at levels = (nested_at levels).0

abbrev pub expr_at : ℕ → Reader Expr
expr_at levels = (nested_at levels).1
