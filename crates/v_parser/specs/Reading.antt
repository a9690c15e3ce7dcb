-- How the descent reads, as functions on lists: it decides on the next token.
use Rattle.std.specs.Prelude.{ℕ, zero, suc, ◌==◌, ◌||◌, nat_lt, Bool, false, if◌then◌else◌, List, [], ◌∷◌, ◌++◌, length, Result, Ok, Err}
use Rattle.v_syntax.specs.declared.token.Ident.{Ident}
use Rattle.v_syntax.specs.declared.token.Token.{Token}
use Rattle.v_syntax.specs.declared.token.Lexeme.{Lexeme}
use Rattle.v_syntax.specs.declared.token.Lexeme.TheVariants as l
use Rattle.v_syntax.specs.declared.token.Keyword.{Keyword}
use Rattle.v_syntax.specs.declared.token.Keyword.TheVariants as k
use Rattle.v_syntax.specs.declared.token.Mark.{Mark}
use Rattle.v_syntax.specs.declared.token.Mark.TheVariants as m

-- What was read and the tokens behind it, or the tokens from the one with which no text can go on.
abbrev pub Reader : Type 0 → Type 0
Reader A = List Token → Result (A × List Token) (List Token)

abbrev pub then_read : {A B : Type 0} → Result (A × List Token) (List Token) → (A → Reader B) → Result (B × List Token) (List Token)
then_read (Ok x) g = g x.0 x.1
then_read (Err s) g = Err s

infixl 10 ◌>>=◌
infixl 10 ◌>>◌
abbrev pub ◌>>=◌ : {A B : Type 0} → Reader A → (A → Reader B) → Reader B
(f >>= g) tokens = then_read (f tokens) g

abbrev pub ◌>>◌ : {A B : Type 0} → Reader A → Reader B → Reader B
(f >> g) tokens = then_read (f tokens) (λ _. g)

abbrev pub gives : {A : Type 0} → A → Reader A
gives x tokens = Ok (x, tokens)

abbrev pub mark_code : Mark → ℕ
mark_code m.OpenParen = 0
mark_code m.CloseParen = 1
mark_code m.OpenBracket = 2
mark_code m.CloseBracket = 3
mark_code m.OpenBrace = 4
mark_code m.CloseBrace = 5
mark_code m.Semicolon = 6
mark_code m.Colon = 7
mark_code m.Comma = 8
mark_code m.Dot = 9
mark_code m.Hash = 10
mark_code m.At = 11
mark_code m.Question = 12
mark_code m.Equal = 13
mark_code m.Plus = 14
mark_code m.Minus = 15
mark_code m.Star = 16
mark_code m.Bang = 17
mark_code m.Tilde = 18
mark_code m.Ampersand = 19
mark_code m.Bar = 20
mark_code m.Caret = 21
mark_code m.Less = 22
mark_code m.Greater = 23
mark_code m.AndAnd = 24
mark_code m.OrOr = 25
mark_code m.EqualEqual = 26
mark_code m.BangEqual = 27
mark_code m.LessEqual = 28
mark_code m.GreaterEqual = 29
mark_code m.ShiftLeft = 30
mark_code m.ShiftRight = 31
mark_code m.ShiftLeftSigned = 32
mark_code m.ShiftRightSigned = 33
mark_code m.TildeAmpersand = 34
mark_code m.TildeBar = 35
mark_code m.TildeCaret = 36
mark_code m.CaretTilde = 37

abbrev pub word_code : Keyword → ℕ
word_code k.Module = 40
word_code k.Endmodule = 41
word_code k.Input = 42
word_code k.Output = 43
word_code k.Wire = 44
word_code k.Reg = 45
word_code k.Signed = 46
word_code k.Parameter = 47
word_code k.Localparam = 48
word_code k.Assign = 49
word_code k.Always = 50
word_code k.Posedge = 51
word_code k.Begin = 52
word_code k.End = 53
word_code k.If = 54
word_code k.Else = 55
word_code k.Case = 56
word_code k.Casez = 57
word_code k.Endcase = 58
word_code k.Default = 59

-- the kind of a token: one number for each mark and word, and one for each other kind
abbrev pub kind : Lexeme → ℕ
kind (l.Mark x) = mark_code x
kind (l.Keyword x) = word_code x
kind (l.Identifier name) = 60
kind (l.Decimal bytes) = 61
kind (l.Based bytes) = 62
kind (l.Cast sign) = 63
kind (l.Reserved name) = 64

abbrev pub among : ℕ → List ℕ → Bool
among x [] = false
among x (y ∷ ys) = (x == y) || among x ys

-- the next token is of a kind that passes the test
abbrev pub next : (ℕ → Bool) → List Token → Bool
next test [] = false
next test (t ∷ tokens) = test (kind t.lexeme)

-- the next token is of one of these kinds
abbrev pub next_in : List ℕ → List Token → Bool
next_in kinds = next (λ x. among x kinds)

-- a token of a kind, which gives its place
unfoldable pub kind_at : ℕ → Reader ℕ
kind_at x [] = Err []
kind_at x (t ∷ tokens) = if kind t.lexeme == x then Ok (t.at, tokens) else Err (t ∷ tokens)

abbrev pub mark_at : Mark → Reader ℕ
mark_at x = kind_at (mark_code x)

abbrev pub word_at : Keyword → Reader ℕ
word_at x = kind_at (word_code x)

-- a value, before a mark or a word
abbrev pub before_at : {A : Type 0} → Mark → A → Reader A
before_at x a = mark_at x >> gives a

abbrev pub before_word_at : {A : Type 0} → Keyword → A → Reader A
before_word_at x a = word_at x >> gives a

-- what is read behind a mark
abbrev pub behind_at : {A : Type 0} → Mark → Reader A → Reader A
behind_at x f = mark_at x >> f

unfoldable pub here_at : Reader ℕ
here_at [] = Err []
here_at (t ∷ tokens) = Ok (t.at, t ∷ tokens)

abbrev pub named : Lexeme → ℕ → List Token → List Token → Result (Ident × List Token) (List Token)
named (l.Identifier name) at after all = Ok (record { name = name; at = at }, after)
named (l.Mark x) at after all = Err all
named (l.Keyword x) at after all = Err all
named (l.Decimal bytes) at after all = Err all
named (l.Based bytes) at after all = Err all
named (l.Cast sign) at after all = Err all
named (l.Reserved name) at after all = Err all

unfoldable pub ident_at : Reader Ident
ident_at [] = Err []
ident_at (t ∷ tokens) = named t.lexeme t.at tokens (t ∷ tokens)

-- one reader where the next token is of these kinds, else another
abbrev pub choose : {A : Type 0} → List ℕ → Reader A → Reader A → Reader A
choose kinds f g tokens = if next_in kinds tokens then f tokens else g tokens

-- goes on where tokens were taken
abbrev pub shrinking : {A B : Type 0} → List Token → (A → Reader B) → A → Reader B
shrinking before g a after = if nat_lt (length after) (length before) then g a after else Err after

-- readings one after the other, while the next token's kind passes the test
unfoldable pub repeat : {A : Type 0} → (ℕ → Bool) → Reader A → ℕ → List A → Reader (List A)
repeat test f zero sofar tokens = Ok (sofar, tokens)
repeat test f (suc fuel) sofar tokens =
    if next test tokens then then_read (f tokens) (shrinking tokens (λ a. repeat test f fuel (sofar ++ a ∷ []))) else Ok (sofar, tokens)

unfoldable pub repeated : {A : Type 0} → (ℕ → Bool) → Reader A → List A → Reader (List A)
repeated test f sofar tokens = repeat test f (length tokens) sofar tokens

abbrev pub is_comma : ℕ → Bool
is_comma x = among x (8 ∷ [])

-- { "," f }, behind what was read before
abbrev pub more_at : {A : Type 0} → Reader A → List A → Reader (List A)
more_at f = repeated is_comma (behind_at m.Comma f)

-- f { "," f }
abbrev pub listed_at : {A : Type 0} → Reader A → Reader (List A)
listed_at f = f >>= λ first. more_at f (first ∷ [])
