-- The first byte of a piece tells its kind.
use Rattle.std.proofs.Common.{◌≡◌, ◌≢◌, inl, inr, ℕ, true, false, ◌||◌, ◌==◌, List, [], ◌∷◌, ◌++◌, refl, sym, ap, subst, arith}
use Rattle.std.specs.List.{list_all}
use Rattle.std.proofs.lemmas.Bool.{and_parts, or_cases, eqb-true}
use Rattle.lz_base.specs.Names.{is_name, is_name_start, is_name_byte}
use Rattle.v_syntax.specs.declared.token.Lexeme.{Lexeme}
use Rattle.v_syntax.specs.declared.token.Lexeme.TheVariants as l
use Rattle.v_syntax.specs.declared.token.Keyword.{Keyword}
use Rattle.v_syntax.specs.declared.token.Keyword.TheVariants as k
use Rattle.v_syntax.specs.declared.token.Mark.{Mark}
use Rattle.v_syntax.specs.declared.token.Mark.TheVariants as m
use Rattle.v_syntax.specs.declared.token.Cast.{Cast}
use Rattle.v_syntax.specs.declared.token.Cast.TheVariants as c
use Rattle.v_syntax.specs.Tokens.{keyword_spelling, unused_words, mark_spelling, cast_spelling, spelling, HasForm, Piece, piece_text, IsPiece}
use Rattle.v_syntax.specs.Numbers.{is_white, is_digit, is_decimal_byte, is_plain}
use Rattle.lz_base.specs.Names.{IsAmong}
use Rattle.v_syntax.specs.Tokens.Piece.{White, LineComment, BlockComment, Skipped, Item}
use Rattle.v_lexer.specs.declared.classes.Kind.{Kind}
use Rattle.v_lexer.specs.declared.classes.Kind.TheVariants as kind
use Rattle.v_lexer.specs.Scan.{kind_of}
use Rattle.v_lexer.proofs.Runs.{one_passes}

abbrev pub lexeme_kind : Lexeme → Kind
lexeme_kind (l.Identifier name) = kind.Word
lexeme_kind (l.Keyword word) = kind.Word
lexeme_kind (l.Reserved word) = kind.Word
lexeme_kind (l.Cast sign) = kind.Cast
lexeme_kind (l.Decimal bytes) = kind.Decimal
lexeme_kind (l.Based bytes) = kind.Based
lexeme_kind (l.Mark mark) = kind.Other

abbrev pub piece_kind : Piece → Kind
piece_kind (White byte) = kind.White
piece_kind (LineComment body) = kind.Slash
piece_kind (BlockComment body) = kind.Slash
piece_kind (Skipped word body) = kind.Backquote
piece_kind (Item lexeme) = lexeme_kind lexeme

mark_kind : (mark : Mark) (more : List ℕ) → kind_of (mark_spelling mark ++ more) ≡ kind.Other
unfolding mark_spelling
mark_kind m.ShiftLeftSigned more = refl
mark_kind m.ShiftRightSigned more = refl
mark_kind m.AndAnd more = refl
mark_kind m.OrOr more = refl
mark_kind m.EqualEqual more = refl
mark_kind m.BangEqual more = refl
mark_kind m.LessEqual more = refl
mark_kind m.GreaterEqual more = refl
mark_kind m.ShiftLeft more = refl
mark_kind m.ShiftRight more = refl
mark_kind m.TildeAmpersand more = refl
mark_kind m.TildeBar more = refl
mark_kind m.TildeCaret more = refl
mark_kind m.CaretTilde more = refl
mark_kind m.OpenParen more = refl
mark_kind m.CloseParen more = refl
mark_kind m.Semicolon more = refl
mark_kind m.Comma more = refl
mark_kind m.OpenBracket more = refl
mark_kind m.CloseBracket more = refl
mark_kind m.OpenBrace more = refl
mark_kind m.CloseBrace more = refl
mark_kind m.Colon more = refl
mark_kind m.Dot more = refl
mark_kind m.Hash more = refl
mark_kind m.At more = refl
mark_kind m.Question more = refl
mark_kind m.Equal more = refl
mark_kind m.Plus more = refl
mark_kind m.Minus more = refl
mark_kind m.Star more = refl
mark_kind m.Bang more = refl
mark_kind m.Tilde more = refl
mark_kind m.Ampersand more = refl
mark_kind m.Bar more = refl
mark_kind m.Caret more = refl
mark_kind m.Less more = refl
mark_kind m.Greater more = refl

keyword_name : (word : Keyword) → is_name (keyword_spelling word) ≡ true
unfolding keyword_spelling
keyword_name k.Module = refl
keyword_name k.Endmodule = refl
keyword_name k.Input = refl
keyword_name k.Output = refl
keyword_name k.Wire = refl
keyword_name k.Reg = refl
keyword_name k.Signed = refl
keyword_name k.Parameter = refl
keyword_name k.Localparam = refl
keyword_name k.Assign = refl
keyword_name k.Always = refl
keyword_name k.Posedge = refl
keyword_name k.Begin = refl
keyword_name k.End = refl
keyword_name k.If = refl
keyword_name k.Else = refl
keyword_name k.Case = refl
keyword_name k.Casez = refl
keyword_name k.Endcase = refl
keyword_name k.Default = refl

unused_names : list_all is_name unused_words ≡ true
unfolding unused_words
unused_names = refl

pub unused_name : (word : List ℕ) → IsAmong word unused_words → is_name word ≡ true
unused_name word is = one_passes is_name unused_words word is unused_names

start_kind : (byte : ℕ) (bytes : List ℕ) → is_name_start byte ≡ true → kind_of (byte ∷ bytes) ≡ kind.Word
start_kind byte bytes is = rw is refl

name_kind : (name more : List ℕ) → is_name name ≡ true → kind_of (name ++ more) ≡ kind.Word
name_kind [] more is = absurd (cc)
name_kind (byte ∷ bytes) more is = start_kind byte (bytes ++ more) (and_parts (is_name_start byte) (list_all is_name_byte bytes) is).0

-- what holds of each white space byte
pub by_white : (P : ℕ → Type 0) → P 32 → P 9 → P 10 → P 12 → P 13 → (byte : ℕ) → is_white byte ≡ true → P byte
by_white P a b d e f byte is =
    let at : (n : ℕ) → P n → (byte == n) ≡ true → P byte = λ n p e. subst P (sym (eqb-true byte n e)) p in
    elim (or_cases (byte == 32 || byte == 9 || byte == 10 || byte == 12) (byte == 13) is) [
      | inr t ↦ at 13 f t
      | inl more ↦ elim (or_cases (byte == 32 || byte == 9 || byte == 10) (byte == 12) more) [
        | inr t ↦ at 12 e t
        | inl more ↦ elim (or_cases (byte == 32 || byte == 9) (byte == 10) more) [
          | inr t ↦ at 10 d t
          | inl more ↦ elim (or_cases (byte == 32) (byte == 9) more) [ inr t ↦ at 9 b t | inl t ↦ at 32 a t ]
        ]
      ]
    ]

white_kind : (byte : ℕ) (bytes : List ℕ) → is_white byte ≡ true → kind_of (byte ∷ bytes) ≡ kind.White
white_kind byte bytes is = by_white (λ b. kind_of (b ∷ bytes) ≡ kind.White) refl refl refl refl refl byte is

digit_not_name : (byte : ℕ) → is_digit byte ≡ true → is_name_start byte ≡ false
digit_not_name byte is = grind arith

digit_kind : (byte : ℕ) (bytes : List ℕ) → is_digit byte ≡ true → kind_of (byte ∷ bytes) ≡ kind.Decimal
digit_kind byte bytes is = let no_name : is_name_start byte ≡ false = digit_not_name byte is in rw no_name (rw is refl)

plain_kind : (digits more : List ℕ) → is_plain digits ≡ true → kind_of (digits ++ more) ≡ kind.Decimal
plain_kind [] more is = absurd (cc)
plain_kind (byte ∷ bytes) more is = digit_kind byte (bytes ++ more) (and_parts (is_digit byte) (list_all is_decimal_byte bytes) is).0

cast_kind : (sign : Cast) (more : List ℕ) → kind_of (cast_spelling sign ++ more) ≡ kind.Cast
unfolding cast_spelling
cast_kind c.Signed more = refl
cast_kind c.Unsigned more = refl

pub lexeme_begins : (lexeme : Lexeme) (more : List ℕ) → HasForm lexeme → kind_of (spelling lexeme ++ more) ≡ lexeme_kind lexeme
lexeme_begins (l.Identifier name) more form = name_kind name more form.0
lexeme_begins (l.Keyword word) more form = name_kind (keyword_spelling word) more (keyword_name word)
lexeme_begins (l.Reserved word) more form = name_kind word more (unused_name word form)
lexeme_begins (l.Cast sign) more form = cast_kind sign more
lexeme_begins (l.Decimal bytes) more form = plain_kind bytes more form
lexeme_begins (l.Based bytes) more form = ap (λ l. kind_of (l ++ more)) form.spelled
lexeme_begins (l.Mark mark) more form = mark_kind mark more

pub piece_begins : (piece : Piece) (rest : List ℕ) → IsPiece piece rest → kind_of (piece_text piece ++ rest) ≡ piece_kind piece
piece_begins (White byte) rest is = white_kind byte rest is
piece_begins (LineComment body) rest is = refl
piece_begins (BlockComment body) rest is = refl
piece_begins (Skipped word body) rest is = refl
piece_begins (Item lexeme) rest is = lexeme_begins lexeme rest is.0

-- a token that begins as a name is a name
pub word_is_name : (lexeme : Lexeme) → HasForm lexeme → lexeme_kind lexeme ≡ kind.Word → is_name (spelling lexeme) ≡ true
word_is_name (l.Identifier name) form is = form.0
word_is_name (l.Keyword word) form is = keyword_name word
word_is_name (l.Reserved word) form is = unused_name word form
word_is_name _ form is = absurd (cc)

-- the kind of a token's first byte tells what it is
pub is_mark : (lexeme : Lexeme) → lexeme_kind lexeme ≡ kind.Other → (mark : Mark) × (lexeme ≡ l.Mark mark)
is_mark (l.Mark mark) is = (mark, refl)
is_mark _ is = absurd (cc)

pub is_cast : (lexeme : Lexeme) → lexeme_kind lexeme ≡ kind.Cast → (sign : Cast) × (lexeme ≡ l.Cast sign)
is_cast (l.Cast sign) is = (sign, refl)
is_cast _ is = absurd (cc)

pub is_decimal : (lexeme : Lexeme) → lexeme_kind lexeme ≡ kind.Decimal → (digits : List ℕ) × (lexeme ≡ l.Decimal digits)
is_decimal (l.Decimal digits) is = (digits, refl)
is_decimal _ is = absurd (cc)

pub is_based : (lexeme : Lexeme) → lexeme_kind lexeme ≡ kind.Based → (bytes : List ℕ) × (lexeme ≡ l.Based bytes)
is_based (l.Based bytes) is = (bytes, refl)
is_based _ is = absurd (cc)

-- each piece has a byte
pub piece_has_bytes : (piece : Piece) → piece_kind piece ≢ kind.End
piece_has_bytes (Item (l.Identifier name)) = λ e. cc
piece_has_bytes (Item (l.Keyword word)) = λ e. cc
piece_has_bytes (Item (l.Reserved word)) = λ e. cc
piece_has_bytes (Item (l.Cast sign)) = λ e. cc
piece_has_bytes (Item (l.Decimal bytes)) = λ e. cc
piece_has_bytes (Item (l.Based bytes)) = λ e. cc
piece_has_bytes (Item (l.Mark mark)) = λ e. cc
piece_has_bytes _ = λ e. cc
