-- Reading the parts of a small module from the front of a list of tokens: the part and what is left, or None.
-- The clauses of private functions speak of it. Those of `read` do not.
use Rattle.std.specs.Prelude.{◌≡◌, ℕ, List, [], ◌∷◌, Bool, true, false, Option, Some, None, if◌then◌else◌}
use denote.Enum.Bare.{sameb}
use Rattle.v_syntax.specs.contracts.Mark.{the_type as marks}
use Rattle.v_syntax.specs.contracts.Keyword.{the_type as words}
use Rattle.v_syntax.specs.declared.token.Ident.{Ident}
use Rattle.v_syntax.specs.declared.token.Lexeme.{Lexeme}
use Rattle.v_syntax.specs.declared.token.Lexeme.TheVariants as l
use Rattle.v_syntax.specs.declared.token.Keyword.{Keyword}
use Rattle.v_syntax.specs.declared.token.Keyword.TheVariants as k
use Rattle.v_syntax.specs.declared.token.Mark.{Mark}
use Rattle.v_syntax.specs.declared.token.Mark.TheVariants as m
use Rattle.v_syntax.specs.declared.small.SmallPort.{SmallPort}
use Rattle.v_syntax.specs.declared.small.SmallPort.TheVariants.{Input, Register}
use Rattle.v_syntax.specs.declared.small.SmallOperator.{SmallOperator}
use Rattle.v_syntax.specs.declared.small.SmallOperator.TheVariants.{And, Or, Xor}
use Rattle.v_syntax.specs.declared.small.SmallOperand.{SmallOperand}
use Rattle.v_syntax.specs.declared.small.SmallExpr.{SmallExpr}
use Rattle.v_syntax.specs.declared.small.SmallExpr.TheVariants.{One, Two}

-- what a function answered, seen by view, is what reading gives
abbrev pub Shows : {X Y : Type 0} → (X → Y) → Option X → Option Y → Type 0
Shows view (Some x) read = read ≡ Some (view x)
Shows view None read = read ≡ None

-- one reading after another
infixl 10 ◌>>=◌
abbrev pub ◌>>=◌ : {A B : Type 0} → Option A → (A → Option B) → Option B
(Some x) >>= f = f x
None >>= f = None

-- a token as the grammar sees it
abbrev pub Seen : Type 0
Seen = Lexeme × ℕ

-- what is left behind this mark
abbrev pub mark_in : Mark → Lexeme → List Seen → Option (List Seen)
mark_in wanted (l.Mark found) rest = if sameb marks found wanted then Some rest else None
mark_in wanted (l.Identifier x) rest = None
mark_in wanted (l.Keyword x) rest = None
mark_in wanted (l.Reserved x) rest = None
mark_in wanted (l.Cast x) rest = None
mark_in wanted (l.Decimal x) rest = None
mark_in wanted (l.Based x) rest = None

abbrev pub mark_at : Mark → List Seen → Option (List Seen)
mark_at wanted [] = None
mark_at wanted (t ∷ rest) = mark_in wanted t.0 rest

-- what is left behind this reserved word
abbrev pub word_in : Keyword → Lexeme → List Seen → Option (List Seen)
word_in wanted (l.Keyword found) rest = if sameb words found wanted then Some rest else None
word_in wanted (l.Identifier x) rest = None
word_in wanted (l.Mark x) rest = None
word_in wanted (l.Reserved x) rest = None
word_in wanted (l.Cast x) rest = None
word_in wanted (l.Decimal x) rest = None
word_in wanted (l.Based x) rest = None

abbrev pub word_at : Keyword → List Seen → Option (List Seen)
word_at wanted [] = None
word_at wanted (t ∷ rest) = word_in wanted t.0 rest

-- a name and its place
abbrev pub name_in : Lexeme → ℕ → List Seen → Option (Ident × List Seen)
name_in (l.Identifier x) at rest = Some (record { name = x; at = at }, rest)
name_in (l.Mark x) at rest = None
name_in (l.Keyword x) at rest = None
name_in (l.Reserved x) at rest = None
name_in (l.Cast x) at rest = None
name_in (l.Decimal x) at rest = None
name_in (l.Based x) at rest = None

abbrev pub name_at : List Seen → Option (Ident × List Seen)
name_at [] = None
name_at (t ∷ rest) = name_in t.0 t.1 rest

abbrev pub inverted_at : List Seen → Option (SmallOperand × List Seen)
inverted_at ts = do
  i ← name_at ts
  Some (record { inverted = true; name = i.0 }, i.1)

abbrev pub plain_at : List Seen → Option (SmallOperand × List Seen)
plain_at ts = do
  i ← name_at ts
  Some (record { inverted = false; name = i.0 }, i.1)

abbrev pub operand_in : Option (List Seen) → List Seen → Option (SmallOperand × List Seen)
operand_in (Some rest) ts = inverted_at rest
operand_in None ts = plain_at ts

-- a name, inverted or not
unfoldable pub operand_at : List Seen → Option (SmallOperand × List Seen)
operand_at ts = operand_in (mark_at m.Tilde ts) ts

-- the operator, if its mark was there, else what was found else
abbrev pub first_of : Option (List Seen) → SmallOperator → Option (SmallOperator × List Seen) → Option (SmallOperator × List Seen)
first_of (Some rest) operator other = Some (operator, rest)
first_of None operator other = other

-- an operator
unfoldable pub operator_at : List Seen → Option (SmallOperator × List Seen)
operator_at ts = first_of (mark_at m.Ampersand ts) And (first_of (mark_at m.Bar ts) Or (first_of (mark_at m.Caret ts) Xor None))

abbrev pub value_in : SmallOperand → List Seen → Option (SmallOperator × List Seen) → Option (SmallExpr × List Seen)
value_in a rest None = Some (One a, rest)
value_in a rest (Some o) = do
  b ← operand_at o.1
  Some (Two a o.0 b.0, b.1)

-- one operand, or two with an operator between them
unfoldable pub value_at : List Seen → Option (SmallExpr × List Seen)
value_at ts = do
  a ← operand_at ts
  value_in a.0 a.1 (operator_at a.1)

abbrev pub input_at : List Seen → Option (SmallPort × List Seen)
input_at ts = do
  i ← name_at ts
  Some (Input i.0, i.1)

abbrev pub register_at : List Seen → Option (SmallPort × List Seen)
register_at ts = do
  a ← word_at k.Output ts
  b ← word_at k.Reg a
  i ← name_at b
  Some (Register i.0, i.1)

abbrev pub port_in : Option (List Seen) → List Seen → Option (SmallPort × List Seen)
port_in (Some rest) ts = input_at rest
port_in None ts = register_at ts

-- a port, behind its comma
unfoldable pub port_at : List Seen → Option (SmallPort × List Seen)
port_at ts = port_in (word_at k.Input ts) ts

-- the module's name and the clock's
unfoldable pub head_at : List Seen → Option (Ident × Ident × List Seen)
head_at ts = do
  a ← word_at k.Module ts
  i ← name_at a
  b ← mark_at m.OpenParen i.1
  c ← word_at k.Input b
  j ← name_at c
  Some (i.0, j.0, j.1)

-- from the end of the ports to the name in the event
unfoldable pub event_at : List Seen → Option (Ident × List Seen)
event_at ts = do
  a ← mark_at m.CloseParen ts
  b ← mark_at m.Semicolon a
  c ← word_at k.Always b
  d ← mark_at m.At c
  e ← mark_at m.OpenParen d
  f ← word_at k.Posedge e
  i ← name_at f
  g ← mark_at m.CloseParen i.1
  Some (i.0, g)

-- the assigned name and the value, up to the semicolon
unfoldable pub assign_at : List Seen → Option (Ident × SmallExpr × List Seen)
assign_at ts = do
  i ← name_at ts
  a ← mark_at m.LessEqual i.1
  v ← value_at a
  b ← mark_at m.Semicolon v.1
  Some (i.0, v.0, b)

-- a port with its comma
abbrev pub further_at : List Seen → Option (SmallPort × List Seen)
further_at ts = do
  rest ← mark_at m.Comma ts
  port_at rest

abbrev pub is_none_left : Option (List Seen) → Bool
is_none_left None = false
is_none_left (Some []) = true
is_none_left (Some (t ∷ rest)) = false

-- whether the last word stands there alone
unfoldable pub end_at : List Seen → Bool
end_at ts = is_none_left (word_at k.Endmodule ts)

-- all from the end of the ports on: the names in the event and the assignment, and the value
unfoldable pub body_at : List Seen → Option (Ident × Ident × SmallExpr)
body_at ts = do
  e ← event_at ts
  a ← assign_at e.1
  if end_at a.2 then Some (e.0, a.0, a.1) else None
