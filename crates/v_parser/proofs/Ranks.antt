-- The table of ranks says of each kind of token what the grammar says.
use Rattle.std.proofs.Common.{◌≡◌, ◌<◌, ◌≤◌, ℕ, Bool, true, false, ◌==◌, ◌||◌, get_or, Option, None, Some, refl, ap, ◌∙◌, arith}
use Rattle.v_syntax.specs.declared.token.Mark.{Mark}
use Rattle.v_syntax.specs.declared.token.Mark.TheVariants as m
use Rattle.v_syntax.specs.declared.token.Keyword.{Keyword}
use Rattle.v_syntax.specs.declared.token.Keyword.TheVariants as k
use Rattle.v_syntax.specs.declared.expr.BinaryOperator.{BinaryOperator}
use Rattle.v_syntax.specs.Grammar.{binary_of, rank_of}
use Rattle.v_parser.specs.Reading.{mark_code, word_code}
use Rattle.v_parser.specs.Exprs.{ranks, has_rank}

-- the rank of what a mark is between two operands, or 99
abbrev pub rank_or : Option BinaryOperator → ℕ
rank_or None = 99
rank_or (Some op) = rank_of op

pub rank_table : (x : Mark) → get_or ranks (mark_code x) 99 ≡ rank_or (binary_of x)
rank_table m.OpenParen = refl
rank_table m.CloseParen = refl
rank_table m.OpenBracket = refl
rank_table m.CloseBracket = refl
rank_table m.OpenBrace = refl
rank_table m.CloseBrace = refl
rank_table m.Semicolon = refl
rank_table m.Colon = refl
rank_table m.Comma = refl
rank_table m.Dot = refl
rank_table m.Hash = refl
rank_table m.At = refl
rank_table m.Question = refl
rank_table m.Equal = refl
rank_table m.Plus = refl
rank_table m.Minus = refl
rank_table m.Star = refl
rank_table m.Bang = refl
rank_table m.Tilde = refl
rank_table m.Ampersand = refl
rank_table m.Bar = refl
rank_table m.Caret = refl
rank_table m.Less = refl
rank_table m.Greater = refl
rank_table m.AndAnd = refl
rank_table m.OrOr = refl
rank_table m.EqualEqual = refl
rank_table m.BangEqual = refl
rank_table m.LessEqual = refl
rank_table m.GreaterEqual = refl
rank_table m.ShiftLeft = refl
rank_table m.ShiftRight = refl
rank_table m.ShiftLeftSigned = refl
rank_table m.ShiftRightSigned = refl
rank_table m.TildeAmpersand = refl
rank_table m.TildeBar = refl
rank_table m.TildeCaret = refl
rank_table m.CaretTilde = refl

pub word_table : (x : Keyword) → get_or ranks (word_code x) 99 ≡ 99
word_table k.Module = refl
word_table k.Endmodule = refl
word_table k.Input = refl
word_table k.Output = refl
word_table k.Wire = refl
word_table k.Reg = refl
word_table k.Signed = refl
word_table k.Parameter = refl
word_table k.Localparam = refl
word_table k.Assign = refl
word_table k.Always = refl
word_table k.Posedge = refl
word_table k.Begin = refl
word_table k.End = refl
word_table k.If = refl
word_table k.Else = refl
word_table k.Case = refl
word_table k.Casez = refl
word_table k.Endcase = refl
word_table k.Default = refl

unequal : (a b : ℕ) → a < b → (b == a) ≡ false
unequal a b lt = grind (arith)

pub rank_known : (x : Mark) (rank : ℕ) (op : BinaryOperator) → binary_of x ≡ Some op → has_rank rank (mark_code x) ≡ (rank_of op == rank)
rank_known x rank op is = ap (λ r. r == rank) (rank_table x ∙ ap rank_or is)

pub rank_unknown : (x : Mark) (rank : ℕ) → rank ≤ 10 → binary_of x ≡ None → has_rank rank (mark_code x) ≡ false
rank_unknown x rank low is = ap (λ r. r == rank) (rank_table x ∙ ap rank_or is) ∙ unequal rank 99 (omega arith)

pub word_unranked : (x : Keyword) (rank : ℕ) → rank ≤ 10 → has_rank rank (word_code x) ≡ false
word_unranked x rank low = ap (λ r. r == rank) (word_table x) ∙ unequal rank 99 (omega arith)

pub is_single : (b : Bool) → (b || false) ≡ b
is_single true = refl
is_single false = refl
