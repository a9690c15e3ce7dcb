-- What the steps of the scan find, as functions on lists. No public clause names one of these.
use Rattle.std.specs.Prelude.{◌≡◌, ⊤, ℕ, nat_eq, Bool, false, ◌||◌, ◌&&◌, ◌==◌, if◌then◌else◌, List, [], ◌∷◌, ◌++◌, map, length, Option, Some, None}
use Rattle.std.specs.List.{starts_with}
use Rattle.std.specs.Str.{bytes_eq}
use Rattle.lz_base.specs.Names.{is_name_start, is_name_byte}
use Rattle.v_syntax.specs.declared.token.Keyword.{Keyword}
use Rattle.v_syntax.specs.declared.token.Lexeme.{Lexeme}
use Rattle.v_syntax.specs.declared.token.Mark.{Mark}
use Rattle.v_syntax.specs.declared.token.Token.{Token}
use Rattle.v_syntax.specs.Tokens.{is_in_line, begins_slash, skipped_words, Piece, text_of, IsSplit, tokens_from, Begins}
use Rattle.v_syntax.specs.Numbers.{is_white, is_digit, is_decimal_byte, is_base, is_digit_of, is_later_digit}
use Rattle.v_syntax.specs.Tokens.Piece.{White, LineComment, BlockComment, Skipped, Item}
use Rattle.v_lexer.specs.declared.words.TheConstants.{KEYWORDS}
use Rattle.v_lexer.specs.declared.marks.TheConstants.{MARKS}
use Rattle.v_lexer.specs.declared.classes.Class.{Class}
use Rattle.v_lexer.specs.declared.classes.Class.TheVariants as class
use Rattle.v_lexer.specs.declared.classes.Kind.{Kind}
use Rattle.v_lexer.specs.declared.classes.Kind.TheVariants as kind

-- ---- first bytes

-- the kind of the piece that a byte begins
abbrev pub kind_of_byte : ℕ → Kind
kind_of_byte byte =
    if is_name_start byte then kind.Word else (if is_digit byte then kind.Decimal else (if is_white byte then kind.White else (if byte == 39 then kind.Based
    else (if byte == 36 then kind.Cast else (if byte == 47 then kind.Slash else (if byte == 96 then kind.Backquote else kind.Other))))))

abbrev pub kind_of : List ℕ → Kind
kind_of [] = kind.End
kind_of (byte ∷ bytes) = kind_of_byte byte

-- ---- runs of bytes

abbrev pub passes : Class → ℕ → Bool
passes class.Name byte = is_name_byte byte
passes class.White byte = is_white byte
passes class.Line byte = is_in_line byte
passes class.Decimal byte = is_decimal_byte byte
passes (class.Digits base first) byte = is_later_digit base first byte

-- the front of bytes that pass the test, and what follows it
abbrev pub front_of : (ℕ → Bool) → List ℕ → List ℕ
front_of test [] = []
front_of test (byte ∷ bytes) = if test byte then byte ∷ front_of test bytes else []

abbrev pub rest_of : (ℕ → Bool) → List ℕ → List ℕ
rest_of test [] = []
rest_of test (byte ∷ bytes) = if test byte then rest_of test bytes else byte ∷ bytes

-- ---- reserved words and marks

abbrev pub keyword_in : List (List ℕ × Keyword) → List ℕ → Option Keyword
keyword_in [] word = None
keyword_in (entry ∷ table) word = if bytes_eq entry.0 word then Some entry.1 else keyword_in table word

unfoldable pub keywords : List (List ℕ × Keyword)
keywords = map (λ k. (k.0.now, k.1)) KEYWORDS

abbrev pub is_in : List (List ℕ) → List ℕ → Bool
is_in [] word = false
is_in (other ∷ words) word = bytes_eq other word || is_in words word

-- the first mark of the table with which the bytes begin, and its length
abbrev pub mark_in : List (List ℕ × Mark) → List ℕ → Option (Mark × ℕ)
mark_in [] bytes = None
mark_in (entry ∷ table) bytes = if starts_with nat_eq bytes entry.0 then Some (entry.1, length entry.0) else mark_in table bytes

unfoldable pub marks : List (List ℕ × Mark)
marks = map (λ m. (m.0.now, m.1)) MARKS

-- ---- based numbers

abbrev pub is_sign_letter : ℕ → Bool
is_sign_letter byte = byte == 115 || byte == 83

abbrev pub after_sign : List ℕ → List ℕ
after_sign [] = []
after_sign (byte ∷ bytes) = if is_sign_letter byte then bytes else byte ∷ bytes

-- the base's letter, and what follows it
abbrev pub base_letter : List ℕ → Option (ℕ × List ℕ)
base_letter [] = None
base_letter (byte ∷ bytes) = if is_base byte then Some (byte, bytes) else None

abbrev pub base_of : List ℕ → Option (ℕ × List ℕ)
base_of [] = None
base_of (byte ∷ bytes) = if byte == 39 then base_letter (after_sign bytes) else None

abbrev pub after_digits : ℕ → List ℕ → Option (List ℕ)
after_digits base [] = None
after_digits base (first ∷ bytes) = if is_digit_of base first then Some (rest_of (is_later_digit base first) bytes) else None

abbrev pub after_base : Option (ℕ × List ℕ) → Option (List ℕ)
after_base None = None
after_base (Some found) = after_digits found.0 (rest_of is_white found.1)

-- what follows the based number at the front
abbrev pub after_based : List ℕ → Option (List ℕ)
after_based bytes = after_base (base_of bytes)

-- ---- what stands between tokens

abbrev pub tail_of : List ℕ → List ℕ
tail_of [] = []
tail_of (byte ∷ bytes) = bytes

-- what follows the next end of a block comment
abbrev pub after_close : List ℕ → Option (List ℕ)
after_close [] = None
after_close (byte ∷ bytes) = if byte == 42 && begins_slash bytes then Some (tail_of bytes) else after_close bytes

-- what follows a comment, behind its first slash
abbrev pub after_comment : List ℕ → Option (List ℕ)
after_comment [] = None
after_comment (byte ∷ bytes) = if byte == 47 then Some (rest_of is_in_line bytes) else (if byte == 42 then after_close bytes else None)

-- what follows a skipped line, behind its backquote
abbrev pub after_directive : List ℕ → Option (List ℕ)
after_directive bytes = if is_in skipped_words (front_of is_name_byte bytes) then Some (rest_of is_in_line (rest_of is_name_byte bytes)) else None

abbrev pub after_gap : List ℕ → Option (List ℕ)
after_gap [] = None
after_gap (byte ∷ bytes) =
    if is_white byte then Some bytes else (if byte == 47 then after_comment bytes else (if byte == 96 then after_directive bytes else None))

-- a piece that is no token
abbrev pub IsGap : Piece → Type 0
IsGap (White byte) = ⊤
IsGap (LineComment body) = ⊤
IsGap (BlockComment body) = ⊤
IsGap (Skipped word body) = ⊤
IsGap (Item lexeme) = ⊥

-- the bytes begin with a piece that is no token, and the rest follows it
pub record Skips (bytes rest : List ℕ) : Type 0 where
  pub gap : Piece
  pub is_gap : IsGap gap
  pub begins : Begins bytes rest gap

-- no token begins here
abbrev pub BeginsNoToken : List ℕ → Type 0
BeginsNoToken bytes = (lexeme : Lexeme) (more : List ℕ) → Begins bytes more (Item lexeme) → ⊥

-- The bytes are pieces up to what is left, and these are the tokens among them.
pub record Scanned (bytes left : List ℕ) (tokens : List Token) : Type 0 where
  pub pieces : List Piece
  pub text : bytes ≡ text_of pieces ++ left
  pub split : IsSplit pieces left
  pub listed : tokens ≡ tokens_from 0 pieces
