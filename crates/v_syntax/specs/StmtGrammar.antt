-- The grammar of targets and statements. From IEEE Std 1364-2005, annexes A.6 and A.8.5.
use Rattle.std.specs.Prelude.{ℕ, zero, suc, Bool, true, false, []}
use Rattle.v_syntax.specs.declared.token.Mark.TheVariants as m
use Rattle.v_syntax.specs.declared.token.Keyword.TheVariants as k
use Rattle.v_syntax.specs.declared.expr.Expr.{Expr}
use Rattle.v_syntax.specs.declared.stmt.Target.{Target}
use Rattle.v_syntax.specs.declared.stmt.Target.TheVariants as t
use Rattle.v_syntax.specs.declared.stmt.AssignKind.{AssignKind}
use Rattle.v_syntax.specs.declared.stmt.AssignKind.TheVariants as a
use Rattle.v_syntax.specs.declared.stmt.CaseKind.{CaseKind}
use Rattle.v_syntax.specs.declared.stmt.CaseKind.TheVariants as c
use Rattle.v_syntax.specs.declared.stmt.Label.{Label}
use Rattle.v_syntax.specs.declared.stmt.Label.TheVariants as l
use Rattle.v_syntax.specs.declared.stmt.Arm.{Arm}
use Rattle.v_syntax.specs.declared.stmt.Stmt.{Stmt}
use Rattle.v_syntax.specs.declared.stmt.Stmt.TheVariants as s
use Rattle.v_syntax.specs.Rule.{Rule, ◌>>=◌, ◌>>◌, ◌<|>◌, yields, mark, word, ident, many, several, listed}
use Rattle.v_syntax.specs.Grammar.{inner_levels, IsExpr, IsRange}

-- an expression that stands in no other one
abbrev pub IsWhole : Rule Expr
IsWhole = IsExpr inner_levels

-- ID "[" expr "]"
abbrev pub IsSelected : Rule Target
IsSelected = do
  name ← ident
  bracket ← mark m.OpenBracket
  index ← IsWhole
  mark m.CloseBracket
  yields (t.Select name bracket index)

-- ID | ID "[" expr "]" | ID range
abbrev pub IsPlace : Rule Target
IsPlace =
    (ident >>= λ name. yields (t.Name name))
    <|> IsSelected
    <|> (ident >>= λ name. IsRange IsWhole >>= λ range. yields (t.Part name range))

-- "{" target { "," target } "}"
abbrev pub IsBraced : Rule Target → Rule Target
IsBraced target = do
  brace ← mark m.OpenBrace
  parts ← listed target
  mark m.CloseBrace
  yields (t.Concat brace parts)

-- target, that holds at most so many levels of braces
unfoldable pub IsTarget : ℕ → Rule Target
IsTarget zero = IsPlace
IsTarget (suc levels) = IsBraced (IsTarget levels) <|> IsPlace

-- "=" | "<="
abbrev pub IsAssignKind : Rule AssignKind
IsAssignKind = (mark m.Equal >> yields a.Blocking) <|> (mark m.LessEqual >> yields a.Nonblocking)

-- target ( "=" | "<=" ) expr ";"
abbrev pub IsAssign : Rule Stmt
IsAssign = do
  target ← IsTarget inner_levels
  kind ← IsAssignKind
  value ← IsWhole
  mark m.Semicolon
  yields (s.Assign target kind value)

-- ";"
abbrev pub IsNull : Rule Stmt
IsNull = mark m.Semicolon >> yields s.Null

-- "begin" { stmt } "end"
abbrev pub IsBlock : Rule Stmt → Rule Stmt
IsBlock stmt = do
  word k.Begin
  body ← many stmt
  word k.End
  yields (s.Block body)

-- "begin" "end"
abbrev pub IsEmptyBlock : Rule Stmt
IsEmptyBlock = do
  word k.Begin
  word k.End
  yields (s.Block [])

-- "(" expr ")"
abbrev pub IsCondition : Rule Expr
IsCondition = do
  mark m.OpenParen
  x ← IsWhole
  mark m.CloseParen
  yields x

-- "case" | "casez"
abbrev pub IsCaseKind : Rule CaseKind
IsCaseKind = (word k.Case >> yields c.Case) <|> (word k.Casez >> yields c.Casez)

-- "default" [ ":" ] | expr { "," expr } ":"
abbrev pub IsLabel : Rule Label
IsLabel =
    (word k.Default >>= λ at. ((mark m.Colon >> yields (l.Default at)) <|> yields (l.Default at)))
    <|> (listed IsWhole >>= λ items. mark m.Colon >> yields (l.Items items))

abbrev pub IsArm : Rule Stmt → Rule Arm
IsArm stmt = do
  label ← IsLabel
  body ← stmt
  yields (record { label = label; body = body })

-- ( "case" | "casez" ) "(" expr ")" arm { arm } "endcase"
abbrev pub IsCase : Rule Stmt → Rule Stmt
IsCase stmt = do
  kind ← IsCaseKind
  subject ← IsCondition
  arms ← several (IsArm stmt)
  word k.Endcase
  yields (s.Case kind subject arms)

-- "if" "(" expr ")" stmt
abbrev pub IsIf : Rule Stmt → Rule Stmt
IsIf stmt = do
  word k.If
  condition ← IsCondition
  one ← stmt
  yields (s.If condition one)

-- "if" "(" expr ")" stmt "else" stmt
abbrev pub IsIfElse : Rule Stmt → Rule Stmt → Rule Stmt
IsIfElse one_stmt other_stmt = do
  word k.If
  condition ← IsCondition
  one ← one_stmt
  word k.Else
  other ← other_stmt
  yields (s.IfElse condition one other)

-- statements that hold none
abbrev pub IsFlat : Rule Stmt
IsFlat = IsNull <|> IsEmptyBlock <|> IsAssign

-- statements that do not end in one of those that they hold
abbrev pub IsSimple : Rule Stmt → Rule Stmt
IsSimple stmt = IsNull <|> IsBlock stmt <|> IsCase stmt <|> IsAssign

-- nothing where the flag is set
abbrev pub unless : {A : Type 0} → Bool → Rule A → Rule A
unless true P before after a = ⊥
unless false P before after a = P before after a

-- stmt, that holds at most so many levels of statements; a closed one does not end in an if without else.
-- What stands before an else is closed, so that the else belongs to the nearest if.
unfoldable pub IsStmt : ℕ → Bool → Rule Stmt
IsStmt zero closed = IsFlat
IsStmt (suc levels) closed =
    IsSimple (IsStmt levels false)
    <|> IsIfElse (IsStmt levels true) (IsStmt levels closed)
    <|> unless closed (IsIf (IsStmt levels false))
