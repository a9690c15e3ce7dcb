-- The grammar of expressions. From IEEE Std 1364-2005, annex A.8.
use Rattle.std.specs.Prelude.{◌≡◌, ℕ, zero, suc, List, [], ◌∷◌, Option, None, Some}
use Rattle.v_syntax.specs.declared.token.Cast.{Cast}
use Rattle.v_syntax.specs.declared.token.Lexeme.TheVariants as l
use Rattle.v_syntax.specs.declared.token.Mark.{Mark}
use Rattle.v_syntax.specs.declared.token.Mark.TheVariants as m
use Rattle.v_syntax.specs.declared.expr.Expr.{Expr}
use Rattle.v_syntax.specs.declared.expr.Expr.TheVariants as e
use Rattle.v_syntax.specs.declared.expr.Number.{Number}
use Rattle.v_syntax.specs.declared.expr.Spelling.TheVariants as s
use Rattle.v_syntax.specs.declared.expr.Placed.{Placed}
use Rattle.v_syntax.specs.declared.expr.Range.{Range}
use Rattle.v_syntax.specs.declared.expr.UnaryOperator.{UnaryOperator}
use Rattle.v_syntax.specs.declared.expr.UnaryOperator.TheVariants as u
use Rattle.v_syntax.specs.declared.expr.BinaryOperator.{BinaryOperator}
use Rattle.v_syntax.specs.declared.expr.BinaryOperator.TheVariants as b
use Rattle.v_syntax.specs.Rule.{Rule, ◌>>=◌, ◌>>◌, ◌<|>◌, yields, mark, ident, here, many, listed}

-- the operator that a mark is before an operand
abbrev pub unary_of : Mark → Option UnaryOperator
unary_of m.Plus = Some u.Plus
unary_of m.Minus = Some u.Minus
unary_of m.Bang = Some u.Not
unary_of m.Tilde = Some u.Invert
unary_of m.Ampersand = Some u.And
unary_of m.TildeAmpersand = Some u.Nand
unary_of m.Bar = Some u.Or
unary_of m.TildeBar = Some u.Nor
unary_of m.Caret = Some u.Xor
unary_of m.TildeCaret = Some u.Xnor
unary_of m.CaretTilde = Some u.Xnor
unary_of _ = None

-- the operator that a mark is between two operands
abbrev pub binary_of : Mark → Option BinaryOperator
binary_of m.Star = Some b.Multiply
binary_of m.Plus = Some b.Add
binary_of m.Minus = Some b.Subtract
binary_of m.ShiftLeft = Some b.ShiftLeft
binary_of m.ShiftLeftSigned = Some b.ShiftLeft
binary_of m.ShiftRight = Some b.ShiftRight
binary_of m.ShiftRightSigned = Some b.ShiftRightSigned
binary_of m.Less = Some b.Less
binary_of m.LessEqual = Some b.LessEqual
binary_of m.Greater = Some b.Greater
binary_of m.GreaterEqual = Some b.GreaterEqual
binary_of m.EqualEqual = Some b.Equal
binary_of m.BangEqual = Some b.NotEqual
binary_of m.Ampersand = Some b.And
binary_of m.Caret = Some b.Xor
binary_of m.TildeCaret = Some b.Xnor
binary_of m.CaretTilde = Some b.Xnor
binary_of m.Bar = Some b.Or
binary_of m.AndAnd = Some b.AndAlso
binary_of m.OrOr = Some b.OrElse
binary_of _ = None

-- how loosely an operator binds: 1 is tightest
abbrev pub rank_of : BinaryOperator → ℕ
rank_of b.Multiply = 1
rank_of b.Add = 2
rank_of b.Subtract = 2
rank_of b.ShiftLeft = 3
rank_of b.ShiftRight = 3
rank_of b.ShiftRightSigned = 3
rank_of b.Less = 4
rank_of b.LessEqual = 4
rank_of b.Greater = 4
rank_of b.GreaterEqual = 4
rank_of b.Equal = 5
rank_of b.NotEqual = 5
rank_of b.And = 6
rank_of b.Xor = 7
rank_of b.Xnor = 7
rank_of b.Or = 8
rank_of b.AndAlso = 9
rank_of b.OrElse = 10

-- DEC
abbrev pub decimal : Rule (ℕ × List ℕ)
decimal before after d = before ≡ record { lexeme = l.Decimal d.1; at = d.0 } ∷ after

-- BASED
abbrev pub based : Rule (ℕ × List ℕ)
based before after d = before ≡ record { lexeme = l.Based d.1; at = d.0 } ∷ after

-- SYS
abbrev pub cast : Rule Cast
cast before after sign = (at : ℕ) × (before ≡ record { lexeme = l.Cast sign; at = at } ∷ after)

-- an operator before an operand
abbrev pub prefix : Rule UnaryOperator
prefix before after op = (x : Mark) × (at : ℕ) × (before ≡ record { lexeme = l.Mark x; at = at } ∷ after) × (unary_of x ≡ Some op)

-- an operator of this rank between two operands
abbrev pub between : ℕ → Rule BinaryOperator
between rank before after op =
    (x : Mark) × (at : ℕ) × (before ≡ record { lexeme = l.Mark x; at = at } ∷ after) × (binary_of x ≡ Some op) × (rank_of op ≡ rank)

-- [ BASED ], behind decimal digits and their place
abbrev pub IsSized : ℕ × List ℕ → Rule Number
IsSized d = (based >>= λ x. yields (record { at = d.0; spelling = s.Sized d.1 x.1 })) <|> yields (record { at = d.0; spelling = s.Decimal d.1 })

-- DEC [ BASED ] | BASED
abbrev pub IsNumber : Rule Number
IsNumber = (decimal >>= λ d. IsSized d) <|> (based >>= λ x. yields (record { at = x.0; spelling = s.Based x.1 }))

-- P and its first byte
abbrev pub placed : Rule Expr → Rule Placed
placed expr = here >>= λ at. expr >>= λ x. yields (record { at = at; expr = x })

-- "[" expr ":" expr "]"
abbrev pub IsRange : Rule Expr → Rule Range
IsRange expr = do
  bracket ← mark m.OpenBracket
  msb ← placed expr
  mark m.Colon
  lsb ← placed expr
  mark m.CloseBracket
  yields (record { bracket = bracket; msb = msb; lsb = lsb })

-- a name or a number: what holds no expression
abbrev pub IsLeaf : Rule Expr
IsLeaf = (ident >>= λ name. yields (e.Name name)) <|> (IsNumber >>= λ n. yields (e.Number n))

-- ID "[" expr "]"
abbrev pub IsSelect : Rule Expr → Rule Expr
IsSelect expr = do
  name ← ident
  bracket ← mark m.OpenBracket
  index ← expr
  mark m.CloseBracket
  yields (e.Select name bracket index)

-- ID range
abbrev pub IsPart : Rule Expr → Rule Expr
IsPart expr = do
  name ← ident
  range ← IsRange expr
  yields (e.Part name range.bracket range.msb.at range.msb.expr range.lsb.at range.lsb.expr)

-- "(" expr ")"
abbrev pub IsGroup : Rule Expr → Rule Expr
IsGroup expr = do
  mark m.OpenParen
  x ← expr
  mark m.CloseParen
  yields x

-- "{" expr { "," expr } "}"
abbrev pub IsConcat : Rule Expr → Rule Expr
IsConcat expr = do
  brace ← mark m.OpenBrace
  parts ← listed expr
  mark m.CloseBrace
  yields (e.Concat brace parts)

-- "{" expr "{" expr { "," expr } "}" "}"
abbrev pub IsReplicate : Rule Expr → Rule Expr
IsReplicate expr = do
  brace ← mark m.OpenBrace
  count ← placed expr
  inner ← mark m.OpenBrace
  parts ← listed expr
  mark m.CloseBrace
  mark m.CloseBrace
  yields (e.Replicate brace count.at count.expr inner parts)

-- SYS "(" expr ")"
abbrev pub IsCast : Rule Expr → Rule Expr
IsCast expr = do
  sign ← cast
  mark m.OpenParen
  x ← expr
  mark m.CloseParen
  yields (e.Cast sign x)

-- unop unary
abbrev pub IsPrefixed : Rule Expr → Rule Expr
IsPrefixed operand = do
  op ← prefix
  x ← operand
  yields (e.Unary op x)

-- unary, over the operands and the expressions of one level more
abbrev pub IsOperandOver : Rule Expr → Rule Expr → Rule Expr
IsOperandOver operand expr =
    IsLeaf <|> IsSelect expr <|> IsPart expr <|> IsGroup expr <|> IsConcat expr <|> IsReplicate expr <|> IsCast expr <|> IsPrefixed operand

-- one operand is itself, and more are a chain
abbrev pub chain : Expr → List (BinaryOperator × Expr) → Expr
chain first [] = first
chain first (x ∷ others) = e.Chain first (x ∷ others)

-- operands with operators up to this rank between them; those of the rank itself form the chain
abbrev pub IsBinary : Rule Expr → ℕ → Rule Expr
IsBinary operand zero = operand
IsBinary operand (suc rank) = do
  first ← IsBinary operand rank
  others ← many (between (suc rank) >>= λ op. IsBinary operand rank >>= λ x. yields (op, x))
  yields (chain first others)

-- condition "?" expr ":" expr
abbrev pub IsConditional : Rule Expr → Rule Expr → Rule Expr
IsConditional condition arm = do
  c ← condition
  mark m.Question
  one ← arm
  mark m.Colon
  other ← arm
  yields (e.Conditional c one other)

abbrev pub IsExprOver : Rule Expr → Rule Expr → Rule Expr
IsExprOver condition arm = condition <|> IsConditional condition arm

-- how many levels of nesting stand below the first one at most: there are 200 levels of expressions, of statements and of
-- braces in targets
abbrev pub inner_levels : ℕ
inner_levels = 199

-- unary, and expr, that hold at most so many levels of nesting
unfoldable pub nested : ℕ → Rule Expr × Rule Expr
nested zero = (IsLeaf, IsBinary IsLeaf 10)
nested (suc levels) = (
  IsOperandOver (nested levels).0 (nested levels).1,
  IsExprOver (IsBinary (IsOperandOver (nested levels).0 (nested levels).1) 10) (nested levels).1,
)

abbrev pub IsOperand : ℕ → Rule Expr
IsOperand levels = (nested levels).0

abbrev pub IsExpr : ℕ → Rule Expr
IsExpr levels = (nested levels).1
