-- The tokens of a source text. After IEEE Std 1364-2005, clause 3.
use Rattle.std.specs.Prelude.{◌≡◌, ◌≢◌, ◌≤◌, ◌<◌, ◌+◌, ◌==◌, ◌&&◌, not, ⊤, ℕ, Bool, true, false, IsTrue, List, [], ◌∷◌, ◌++◌, length, codes}
use Rattle.std.specs.List.{list_all}
use Rattle.lz_base.specs.Names.{is_name, is_name_byte, IsNew, IsAmong}
use Rattle.lz_base.specs.Limits.{source_limit}
use Rattle.v_syntax.specs.Numbers.{is_white, is_plain, IsBased}
use Rattle.v_syntax.specs.declared.token.Token.{Token}
use Rattle.v_syntax.specs.declared.token.Lexeme.{Lexeme}
use Rattle.v_syntax.specs.declared.token.Lexeme.TheVariants as l
use Rattle.v_syntax.specs.declared.token.Keyword.{Keyword}
use Rattle.v_syntax.specs.declared.token.Keyword.TheVariants as k
use Rattle.v_syntax.specs.declared.token.Mark.{Mark}
use Rattle.v_syntax.specs.declared.token.Mark.TheVariants as m
use Rattle.v_syntax.specs.declared.token.Cast.{Cast}
use Rattle.v_syntax.specs.declared.token.Cast.TheVariants as c

-- the reserved words that the grammar uses (3.7.2)
unfoldable pub keyword_spelling : Keyword → List ℕ
keyword_spelling k.Module = codes "module"
keyword_spelling k.Endmodule = codes "endmodule"
keyword_spelling k.Input = codes "input"
keyword_spelling k.Output = codes "output"
keyword_spelling k.Wire = codes "wire"
keyword_spelling k.Reg = codes "reg"
keyword_spelling k.Signed = codes "signed"
keyword_spelling k.Parameter = codes "parameter"
keyword_spelling k.Localparam = codes "localparam"
keyword_spelling k.Assign = codes "assign"
keyword_spelling k.Always = codes "always"
keyword_spelling k.Posedge = codes "posedge"
keyword_spelling k.Begin = codes "begin"
keyword_spelling k.End = codes "end"
keyword_spelling k.If = codes "if"
keyword_spelling k.Else = codes "else"
keyword_spelling k.Case = codes "case"
keyword_spelling k.Casez = codes "casez"
keyword_spelling k.Endcase = codes "endcase"
keyword_spelling k.Default = codes "default"

-- the reserved words that stand in no rule of the grammar (3.7.2)
unfoldable pub unused_words : List (List ℕ)
unused_words =
    codes "inout" ∷ codes "integer" ∷ codes "real" ∷ codes "realtime" ∷ codes "time" ∷ codes "initial" ∷ codes "function" ∷ codes "endfunction"
    ∷ codes "task" ∷ codes "endtask" ∷ codes "generate" ∷ codes "endgenerate" ∷ codes "genvar" ∷ codes "for" ∷ codes "while" ∷ codes "repeat"
    ∷ codes "forever" ∷ codes "wait" ∷ codes "negedge" ∷ codes "casex" ∷ codes "tri" ∷ codes "wand" ∷ codes "wor" ∷ codes "supply0"
    ∷ codes "supply1" ∷ codes "and" ∷ codes "or" ∷ codes "not" ∷ codes "nand" ∷ codes "nor" ∷ codes "xor" ∷ codes "xnor"
    ∷ codes "buf" ∷ codes "specify" ∷ codes "endspecify" ∷ codes "primitive" ∷ codes "endprimitive" ∷ codes "defparam" ∷ codes "event" ∷ codes "fork"
    ∷ codes "join" ∷ codes "disable" ∷ codes "force" ∷ codes "release" ∷ codes "deassign" ∷ codes "edge" ∷ []

-- the marks of punctuation (3.1) and the operators (3.4, 5.1)
unfoldable pub mark_spelling : Mark → List ℕ
mark_spelling m.OpenParen = codes "("
mark_spelling m.CloseParen = codes ")"
mark_spelling m.OpenBracket = codes "["
mark_spelling m.CloseBracket = codes "]"
mark_spelling m.OpenBrace = codes "{"
mark_spelling m.CloseBrace = codes "}"
mark_spelling m.Semicolon = codes ";"
mark_spelling m.Colon = codes ":"
mark_spelling m.Comma = codes ","
mark_spelling m.Dot = codes "."
mark_spelling m.Hash = codes "#"
mark_spelling m.At = codes "@"
mark_spelling m.Question = codes "?"
mark_spelling m.Equal = codes "="
mark_spelling m.Plus = codes "+"
mark_spelling m.Minus = codes "-"
mark_spelling m.Star = codes "*"
mark_spelling m.Bang = codes "!"
mark_spelling m.Tilde = codes "~"
mark_spelling m.Ampersand = codes "&"
mark_spelling m.Bar = codes "|"
mark_spelling m.Caret = codes "^"
mark_spelling m.Less = codes "<"
mark_spelling m.Greater = codes ">"
mark_spelling m.AndAnd = codes "&&"
mark_spelling m.OrOr = codes "||"
mark_spelling m.EqualEqual = codes "=="
mark_spelling m.BangEqual = codes "!="
mark_spelling m.LessEqual = codes "<="
mark_spelling m.GreaterEqual = codes ">="
mark_spelling m.ShiftLeft = codes "<<"
mark_spelling m.ShiftRight = codes ">>"
mark_spelling m.ShiftLeftSigned = codes "<<<"
mark_spelling m.ShiftRightSigned = codes ">>>"
mark_spelling m.TildeAmpersand = codes "~&"
mark_spelling m.TildeBar = codes "~|"
mark_spelling m.TildeCaret = codes "~^"
mark_spelling m.CaretTilde = codes "^~"

-- the system functions that change a sign (3.7.3)
unfoldable pub cast_spelling : Cast → List ℕ
cast_spelling c.Signed = codes "$signed"
cast_spelling c.Unsigned = codes "$unsigned"

-- the bytes of a token
abbrev pub spelling : Lexeme → List ℕ
spelling (l.Identifier name) = name
spelling (l.Keyword word) = keyword_spelling word
spelling (l.Reserved word) = word
spelling (l.Cast sign) = cast_spelling sign
spelling (l.Decimal bytes) = bytes
spelling (l.Based bytes) = bytes
spelling (l.Mark mark) = mark_spelling mark

-- ---- tokens and what stands between them

-- the bytes have the form of the kind (3.7; of numbers 3.5)
abbrev pub HasForm : Lexeme → Type 0
HasForm (l.Identifier name) = IsTrue (is_name name) × ((word : Keyword) → name ≢ keyword_spelling word) × IsNew name unused_words
HasForm (l.Keyword word) = ⊤
HasForm (l.Reserved word) = IsAmong word unused_words
HasForm (l.Cast sign) = ⊤
HasForm (l.Decimal bytes) = IsTrue (is_plain bytes)
HasForm (l.Based bytes) = IsBased bytes
HasForm (l.Mark mark) = ⊤

-- the next byte, where there is one, does not pass
abbrev pub stops : (ℕ → Bool) → List ℕ → Bool
stops test [] = true
stops test (byte ∷ bytes) = not (test byte)

-- no longer prefix of this token's bytes and the rest is a token
abbrev pub IsLongest : Lexeme → List ℕ → Type 0
IsLongest lexeme rest =
    (other : Lexeme) (more : List ℕ) → HasForm other → spelling lexeme ++ rest ≡ spelling other ++ more
    → length (spelling other) ≤ length (spelling lexeme)

-- the name of a system function is a whole word (3.7.3)
abbrev pub IsWholeWord : Lexeme → List ℕ → Type 0
IsWholeWord (l.Identifier name) rest = ⊤
IsWholeWord (l.Keyword word) rest = ⊤
IsWholeWord (l.Reserved word) rest = ⊤
IsWholeWord (l.Cast sign) rest = IsTrue (stops is_name_byte rest)
IsWholeWord (l.Decimal bytes) rest = ⊤
IsWholeWord (l.Based bytes) rest = ⊤
IsWholeWord (l.Mark mark) rest = ⊤

-- A piece of a text: a white space byte, a comment of one line or of a block (3.3), a skipped directive with the rest of its line
-- (19.2, 19.8), or a token.
pub data Piece : Type 0 where
  White : ℕ → Piece
  LineComment : List ℕ → Piece
  BlockComment : List ℕ → Piece
  Skipped : List ℕ → List ℕ → Piece
  Item : Lexeme → Piece

abbrev pub piece_text : Piece → List ℕ
piece_text (White byte) = byte ∷ []
piece_text (LineComment body) = 47 ∷ 47 ∷ body
piece_text (BlockComment body) = 47 ∷ 42 ∷ body ++ 42 ∷ 47 ∷ []
piece_text (Skipped word body) = 96 ∷ word ++ body
piece_text (Item lexeme) = spelling lexeme

abbrev pub text_of : List Piece → List ℕ
text_of [] = []
text_of (piece ∷ pieces) = piece_text piece ++ text_of pieces

-- a byte of a line: any but LF
abbrev pub is_in_line : ℕ → Bool
is_in_line byte = not (byte == 10)

abbrev pub begins_slash : List ℕ → Bool
begins_slash [] = false
begins_slash (byte ∷ bytes) = byte == 47

-- nowhere in the body stands the end of a block comment
abbrev pub is_open : List ℕ → Bool
is_open [] = true
is_open (byte ∷ bytes) = not (byte == 42 && begins_slash bytes) && is_open bytes

-- the directives whose lines are skipped (19.2, 19.8)
unfoldable pub skipped_words : List (List ℕ)
skipped_words = codes "timescale" ∷ codes "default_nettype" ∷ []

-- this is a piece where the rest follows it
abbrev pub IsPiece : Piece → List ℕ → Type 0
IsPiece (White byte) rest = IsTrue (is_white byte)
IsPiece (LineComment body) rest = IsTrue (list_all is_in_line body) × IsTrue (stops is_in_line rest)
IsPiece (BlockComment body) rest = IsTrue (is_open body)
IsPiece (Skipped word body) rest =
    IsAmong word skipped_words × IsTrue (stops is_name_byte body) × IsTrue (list_all is_in_line body) × IsTrue (stops is_in_line rest)
IsPiece (Item lexeme) rest = HasForm lexeme × IsLongest lexeme rest × IsWholeWord lexeme rest

-- each is a piece where the pieces behind it and then the rest follow
abbrev pub IsSplit : List Piece → List ℕ → Type 0
IsSplit [] rest = ⊤
IsSplit (piece ∷ pieces) rest = IsPiece piece (text_of pieces ++ rest) × IsSplit pieces rest

-- a piece's token, where it is one, at a place
abbrev pub token_of : ℕ → Piece → List Token
token_of at (White byte) = []
token_of at (LineComment body) = []
token_of at (BlockComment body) = []
token_of at (Skipped word body) = []
token_of at (Item lexeme) = record { lexeme = lexeme; at = at } ∷ []

-- the tokens among the pieces of a text that begins at a place
abbrev pub tokens_from : ℕ → List Piece → List Token
tokens_from at [] = []
tokens_from at (piece ∷ pieces) = token_of at piece ++ tokens_from (at + length (piece_text piece)) pieces

-- these are the tokens of the bytes
pub record Lexes (bytes : List ℕ) (tokens : List Token) : Type 0 where
  pub pieces : List Piece
  pub text : bytes ≡ text_of pieces
  pub split : IsSplit pieces []
  pub listed : tokens ≡ tokens_from 0 pieces

-- the bytes begin with this piece, and the rest follows it
pub record Begins (bytes rest : List ℕ) (piece : Piece) : Type 0 where
  pub text : bytes ≡ piece_text piece ++ rest
  pub one : IsPiece piece rest

-- Up to a place, which is not the end, the bytes are pieces, and there no piece begins.
pub record BreaksAt (bytes : List ℕ) (at : ℕ) : Type 0 where
  pub pieces : List Piece
  pub rest : List ℕ
  pub text : bytes ≡ text_of pieces ++ rest
  pub split : IsSplit pieces rest
  pub place : at ≡ length (text_of pieces)
  pub goes_on : rest ≢ []
  pub breaks : (piece : Piece) (more : List ℕ) → Begins rest more piece → ⊥

-- each token's bytes have the form of its kind
abbrev pub HaveForms : List Token → Type 0
HaveForms [] = ⊤
HaveForms (token ∷ tokens) = HasForm token.lexeme × HaveForms tokens

-- tokens have their forms, and their places strictly ascend from one place on and lie below another
abbrev pub AreTokens : ℕ → ℕ → List Token → Type 0
AreTokens from end [] = ⊤
AreTokens from end (token ∷ tokens) = HasForm token.lexeme × (from ≤ token.at) × (token.at < end) × AreTokens (token.at + 1) end tokens

-- the tokens of a file, and its end
pub record TokensValue : Type 0 where
  pub tokens : List Token
  pub end : ℕ

-- they are the tokens and the end of a source
pub record IsTokens (t : TokensValue) : Type 0 where
  pub tokens : AreTokens 0 t.end t.tokens
  pub end : t.end ≤ source_limit
