-- The small texts: modules of one-bit registers, one of which is assigned at each edge of the clock.
use Rattle.std.specs.Prelude.{◌≡◌, ℕ, List, [], ◌∷◌, ◌++◌, map, flat_map, if◌then◌else◌}
use Rattle.lz_base.specs.Names.{AreDistinct, IsAmong, AreAmong}
use Rattle.v_syntax.specs.declared.token.Ident.{Ident}
use Rattle.v_syntax.specs.declared.token.Token.{Token}
use Rattle.v_syntax.specs.declared.token.Lexeme.{Lexeme}
use Rattle.v_syntax.specs.declared.token.Lexeme.TheVariants as l
use Rattle.v_syntax.specs.declared.token.Keyword.{Keyword}
use Rattle.v_syntax.specs.declared.token.Keyword.TheVariants as k
use Rattle.v_syntax.specs.declared.token.Mark.{Mark}
use Rattle.v_syntax.specs.declared.token.Mark.TheVariants as m
use Rattle.v_syntax.specs.declared.small.SmallPort.{SmallPort}
use Rattle.v_syntax.specs.declared.small.SmallPort.TheVariants.{Input, Register}
use Rattle.v_syntax.specs.declared.small.SmallOperator.{SmallOperator}
use Rattle.v_syntax.specs.declared.small.SmallOperator.TheVariants.{And, Or, Xor}
use Rattle.v_syntax.specs.declared.small.SmallOperand.{SmallOperand}
use Rattle.v_syntax.specs.declared.small.SmallExpr.{SmallExpr}
use Rattle.v_syntax.specs.declared.small.SmallExpr.TheVariants.{One, Two}
use Rattle.v_syntax.specs.declared.small.SmallModule.{SmallModule}

-- A token as the grammar sees it: what it is, and of a name its place. The places of other tokens are free.
abbrev pub seen_at : Lexeme → ℕ → Lexeme × ℕ
seen_at (l.Identifier name) at = (l.Identifier name, at)
seen_at (l.Keyword word) at = (l.Keyword word, 0)
seen_at (l.Reserved word) at = (l.Reserved word, 0)
seen_at (l.Cast sign) at = (l.Cast sign, 0)
seen_at (l.Decimal bytes) at = (l.Decimal bytes, 0)
seen_at (l.Based bytes) at = (l.Based bytes, 0)
seen_at (l.Mark mark) at = (l.Mark mark, 0)

abbrev pub seen : Token → Lexeme × ℕ
seen t = seen_at t.lexeme t.at

abbrev pub word : Keyword → Lexeme × ℕ
word w = (l.Keyword w, 0)

abbrev pub mark : Mark → Lexeme × ℕ
mark x = (l.Mark x, 0)

abbrev pub name : Ident → Lexeme × ℕ
name i = (l.Identifier i.name, i.at)

-- , input ID    or    , output reg ID
abbrev pub port_spelling : SmallPort → List (Lexeme × ℕ)
port_spelling (Input i) = mark m.Comma ∷ word k.Input ∷ name i ∷ []
port_spelling (Register i) = mark m.Comma ∷ word k.Output ∷ word k.Reg ∷ name i ∷ []

-- ID    or    ~ ID
abbrev pub operand_spelling : SmallOperand → List (Lexeme × ℕ)
operand_spelling o = if o.inverted then mark m.Tilde ∷ name o.name ∷ [] else name o.name ∷ []

abbrev pub operator_mark : SmallOperator → Mark
operator_mark And = m.Ampersand
operator_mark Or = m.Bar
operator_mark Xor = m.Caret

abbrev pub value_spelling : SmallExpr → List (Lexeme × ℕ)
value_spelling (One a) = operand_spelling a
value_spelling (Two a operator b) = operand_spelling a ++ mark (operator_mark operator) ∷ operand_spelling b

-- module ID ( input ID { , port } ) ; always @ ( posedge ID ) ID <= value ; endmodule
abbrev pub module_spelling : SmallModule → List (Lexeme × ℕ)
module_spelling s =
    word k.Module ∷ name s.name ∷ mark m.OpenParen ∷ word k.Input ∷ name s.clock ∷ flat_map port_spelling s.ports
    ++ mark m.CloseParen ∷ mark m.Semicolon ∷ word k.Always ∷ mark m.At ∷ mark m.OpenParen ∷ word k.Posedge ∷ name s.event ∷ mark m.CloseParen
    ∷ name s.target ∷ mark m.LessEqual ∷ value_spelling s.value ++ mark m.Semicolon ∷ word k.Endmodule ∷ []

-- the names of the inputs behind the clock, in order
abbrev pub input_names : List SmallPort → List (List ℕ)
input_names [] = []
input_names (Input i ∷ ports) = i.name ∷ input_names ports
input_names (Register i ∷ ports) = input_names ports

-- the names of the registers, in order
abbrev pub register_names : List SmallPort → List (List ℕ)
register_names [] = []
register_names (Input i ∷ ports) = register_names ports
register_names (Register i ∷ ports) = i.name ∷ register_names ports

-- the names of all ports behind the clock, in order
abbrev pub port_names : List SmallPort → List (List ℕ)
port_names [] = []
port_names (Input i ∷ ports) = i.name ∷ port_names ports
port_names (Register i ∷ ports) = i.name ∷ port_names ports

-- the names that the value reads
abbrev pub read_names : SmallExpr → List (List ℕ)
read_names (One a) = a.name.name ∷ []
read_names (Two a operator b) = a.name.name ∷ b.name.name ∷ []

-- The names of a small module agree: the ports' names are distinct, the event names the clock, a register is assigned,
-- and the value reads ports, of which the clock is none.
pub record HasNames (s : SmallModule) : Type 0 where
  pub distinct : AreDistinct (s.clock.name ∷ port_names s.ports)
  pub event : s.event.name ≡ s.clock.name
  pub target : IsAmong s.target.name (register_names s.ports)
  pub reads : AreAmong (read_names s.value) (port_names s.ports)

-- the tokens are those of this small module
pub record IsSmall (tokens : List Token) (s : SmallModule) : Type 0 where
  pub spelled : map seen tokens ≡ module_spelling s
  pub names : HasNames s
