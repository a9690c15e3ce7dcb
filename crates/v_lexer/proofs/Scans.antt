-- The pieces of a scan, one after the other.
use Rattle.std.proofs.Common.{◌≡◌, ◌≢◌, ◌≤◌, ◌<◌, ◌+◌, ◌-◌, ℕ, List, [], ◌∷◌, ◌++◌, refl, sym, ap, subst, ◌∙◌, arith, length, append_assoc, append-nil, length-append}
use Rattle.v_syntax.specs.declared.token.Lexeme.{Lexeme}
use Rattle.v_syntax.specs.declared.token.Token.{Token}
use Rattle.v_syntax.specs.Tokens.{spelling, HasForm, Piece, piece_text, text_of, IsPiece, IsSplit, token_of, tokens_from, Begins, Lexes, BreaksAt, AreTokens}
use Rattle.v_syntax.specs.Tokens.Piece.{White, LineComment, BlockComment, Skipped, Item}
use Rattle.v_lexer.specs.Scan.{kind_of, IsGap, Skips, Scanned, BeginsNoToken}
use Rattle.v_lexer.proofs.FirstBytes.{lexeme_begins, piece_has_bytes}

text_more : (pieces : List Piece) (piece : Piece) → text_of (pieces ++ piece ∷ []) ≡ text_of pieces ++ piece_text piece
text_more [] piece = append-nil (piece_text piece)
text_more (first ∷ pieces) piece = ap (λ l. piece_text first ++ l) (text_more pieces piece) ∙ sym (append_assoc (piece_text first) (text_of pieces) (piece_text piece))

split_more : (pieces : List Piece) (piece : Piece) (rest : List ℕ) → IsSplit pieces (piece_text piece ++ rest) → IsPiece piece rest → IsSplit (pieces ++ piece ∷ []) rest
split_more [] piece rest split is = (is, tt)
split_more (first ∷ pieces) piece rest split is =
    let behind : text_of pieces ++ (piece_text piece ++ rest) ≡ text_of (pieces ++ piece ∷ []) ++ rest
    = sym (append_assoc (text_of pieces) (piece_text piece) rest) ∙ ap (λ l. l ++ rest) (sym (text_more pieces piece)) in
    (subst (λ (l : List ℕ). IsPiece first l) behind split.0, split_more pieces piece rest split.1 is)

tokens_more : (at : ℕ) (pieces : List Piece) (piece : Piece) → tokens_from at (pieces ++ piece ∷ []) ≡ tokens_from at pieces ++ token_of (at + length (text_of pieces)) piece
tokens_more at [] piece = let e : at + 0 ≡ at = omega arith in append-nil (token_of at piece) ∙ ap (λ n. token_of n piece) (sym e)
tokens_more at (first ∷ pieces) piece =
    let step = at + length (piece_text first) in
    let n : step + length (text_of pieces) ≡ at + length (piece_text first ++ text_of pieces) = omega (arith, length-append (piece_text first) (text_of pieces)) in
    ap (λ l. token_of at first ++ l) (tokens_more step pieces piece ∙ ap (λ n. tokens_from step pieces ++ token_of n piece) n)
    ∙ sym (append_assoc (token_of at first) (tokens_from step pieces) (token_of (at + length (piece_text first ++ text_of pieces)) piece))

module _ {bytes left : List ℕ} {tokens : List Token} (before : Scanned bytes left tokens) where
  place : length (text_of before.pieces) ≡ length bytes - length left
  place = omega (arith, ap length before.text, length-append (text_of before.pieces) left)

  next_text : (rest : List ℕ) (piece : Piece) → Begins left rest piece → bytes ≡ text_of (before.pieces ++ piece ∷ []) ++ rest
  next_text rest piece begins =
      before.text ∙ ap (λ l. text_of before.pieces ++ l) begins.text ∙ sym (append_assoc (text_of before.pieces) (piece_text piece) rest)
      ∙ ap (λ l. l ++ rest) (sym (text_more before.pieces piece))

  next_split : (rest : List ℕ) (piece : Piece) → Begins left rest piece → IsSplit (before.pieces ++ piece ∷ []) rest
  next_split rest piece begins = split_more before.pieces piece rest (subst (λ (l : List ℕ). IsSplit before.pieces l) begins.text before.split) begins.one

no_token_of : (at : ℕ) (gap : Piece) → IsGap gap → token_of at gap ≡ []
no_token_of at (Item lexeme) is = absurd is
no_token_of at _ is = refl

-- a gap more
pub scanned_gap : (bytes left rest : List ℕ) (tokens : List Token) → Scanned bytes left tokens → Skips left rest → Scanned bytes rest tokens
scanned_gap bytes left rest tokens before skips =
    let none = no_token_of (0 + length (text_of before.pieces)) skips.gap skips.is_gap in
    record {
      pieces = before.pieces ++ skips.gap ∷ [];
      text = next_text before rest skips.gap skips.begins;
      split = next_split before rest skips.gap skips.begins;
      listed = before.listed ∙ sym (append-nil (tokens_from 0 before.pieces)) ∙ ap (λ l. tokens_from 0 before.pieces ++ l) (sym none)
          ∙ sym (tokens_more 0 before.pieces skips.gap);
    }

-- a token more
pub scanned_item : (bytes left rest : List ℕ) (tokens : List Token) (lexeme : Lexeme) (at : ℕ) → Scanned bytes left tokens → Begins left rest (Item lexeme) → at ≡ length bytes - length left
    → Scanned bytes rest (tokens ++ record { lexeme = lexeme; at = at } ∷ [])
scanned_item bytes left rest tokens lexeme at before begins is =
    let here : 0 + length (text_of before.pieces) ≡ at = omega (arith, place before) in
    record {
      pieces = before.pieces ++ Item lexeme ∷ [];
      text = next_text before rest (Item lexeme) begins;
      split = next_split before rest (Item lexeme) begins;
      listed = ap (λ l. l ++ record { lexeme = lexeme; at = at } ∷ []) before.listed
          ∙ ap (λ n. tokens_from 0 before.pieces ++ token_of n (Item lexeme)) (sym here) ∙ sym (tokens_more 0 before.pieces (Item lexeme));
    }

pub scanned_none : (bytes : List ℕ) → Scanned bytes bytes []
scanned_none bytes = record { pieces = []; text = refl; split = tt; listed = refl }

pub scanned_all : (bytes left : List ℕ) (tokens : List Token) → Scanned bytes left tokens → left ≡ [] → Lexes bytes tokens
scanned_all bytes left tokens before is = record {
  pieces = before.pieces;
  text = before.text ∙ ap (λ l. text_of before.pieces ++ l) is ∙ append-nil (text_of before.pieces);
  split = subst (λ (l : List ℕ). IsSplit before.pieces l) is before.split;
  listed = before.listed;
}

has_bytes : (bytes : List ℕ) → bytes ≢ [] → 0 < length bytes
has_bytes [] some = absurd (some refl)
has_bytes (byte ∷ bytes) some = omega arith

spelled : (lexeme : Lexeme) → HasForm lexeme → 0 < length (spelling lexeme)
spelled lexeme form = has_bytes (spelling lexeme) (λ none. piece_has_bytes (Item lexeme) (sym (lexeme_begins lexeme [] form) ∙ ap (λ l. kind_of (l ++ [])) none))

raised : (from least end : ℕ) (tokens : List Token) → from ≤ least → AreTokens least end tokens → AreTokens from end tokens
raised from least end [] low are = tt
raised from least end (token ∷ tokens) low are = (are.0, omega arith, are.2, are.3)

-- the tokens behind a piece
behind : (piece : Piece) (pieces : List Piece) (at end : ℕ) → at + length (piece_text piece ++ text_of pieces) ≤ end
    → (at + length (piece_text piece) + length (text_of pieces) ≤ end → AreTokens (at + length (piece_text piece)) end (tokens_from (at + length (piece_text piece)) pieces))
    → AreTokens at end (tokens_from (at + length (piece_text piece)) pieces)
behind piece pieces at end within are =
    raised at (at + length (piece_text piece)) end (tokens_from (at + length (piece_text piece)) pieces) (omega arith)
    (are (omega (arith, length-append (piece_text piece) (text_of pieces))))

-- the tokens of a split have their forms and places
are_tokens : (pieces : List Piece) (at end : ℕ) → IsSplit pieces [] → at + length (text_of pieces) ≤ end → AreTokens at end (tokens_from at pieces)
are_tokens [] at end split within = tt
are_tokens (Item lexeme ∷ pieces) at end split within =
    let some = spelled lexeme split.0.0 in
    let both = length-append (spelling lexeme) (text_of pieces) in (
      split.0.0,
      omega arith,
      omega arith,
      raised (at + 1) (at + length (spelling lexeme)) end (tokens_from (at + length (spelling lexeme)) pieces) (omega arith)
          (are_tokens pieces (at + length (spelling lexeme)) end split.1 (omega arith)),
    )
are_tokens (White byte ∷ pieces) at end split within = behind (White byte) pieces at end within (are_tokens pieces (at + 1) end split.1)
are_tokens (LineComment body ∷ pieces) at end split within = behind (LineComment body) pieces at end within (are_tokens pieces (at + length (piece_text (LineComment body))) end split.1)
are_tokens (BlockComment body ∷ pieces) at end split within = behind (BlockComment body) pieces at end within (are_tokens pieces (at + length (piece_text (BlockComment body))) end split.1)
are_tokens (Skipped word body ∷ pieces) at end split within = behind (Skipped word body) pieces at end within (are_tokens pieces (at + length (piece_text (Skipped word body))) end split.1)

pub lexes_tokens : (bytes : List ℕ) (tokens : List Token) → Lexes bytes tokens → AreTokens 0 (length bytes) tokens
lexes_tokens bytes tokens lexes =
    subst (λ (ts : List Token). AreTokens 0 (length bytes) ts) (sym lexes.listed) (are_tokens lexes.pieces 0 (length bytes) lexes.split (omega (arith, ap length lexes.text)))

-- the scan stops
pub scanned_breaks : (bytes left : List ℕ) (tokens : List Token) (at : ℕ) → Scanned bytes left tokens → left ≢ [] → at ≡ length bytes - length left
    → ((gap : Piece) (more : List ℕ) → IsGap gap → Begins left more gap → ⊥) → BeginsNoToken left → BreaksAt bytes at
scanned_breaks bytes left tokens at before some is no_gap no_token = record {
  pieces = before.pieces;
  rest = left;
  text = before.text;
  split = before.split;
  place = omega (arith, place before);
  goes_on = some;
  breaks = none;
} where
  none : (piece : Piece) (more : List ℕ) → Begins left more piece → ⊥
  none (Item lexeme) more begins = no_token lexeme more begins
  none (White byte) more begins = no_gap (White byte) more tt begins
  none (LineComment body) more begins = no_gap (LineComment body) more tt begins
  none (BlockComment body) more begins = no_gap (BlockComment body) more tt begins
  none (Skipped word body) more begins = no_gap (Skipped word body) more tt begins

-- a piece leaves less
pub begins_shorter : (bytes rest : List ℕ) (piece : Piece) → Begins bytes rest piece → length rest < length bytes
begins_shorter bytes rest (White byte) begins = omega (arith, ap length begins.text)
begins_shorter bytes rest (LineComment body) begins = omega (arith, ap length begins.text, length-append body rest)
begins_shorter bytes rest (BlockComment body) begins = omega (arith, ap length begins.text, length-append (body ++ 42 ∷ 47 ∷ []) rest)
begins_shorter bytes rest (Skipped word body) begins = omega (arith, ap length begins.text, length-append (word ++ body) rest)
begins_shorter bytes rest (Item lexeme) begins = omega (arith, ap length begins.text, length-append (spelling lexeme) rest, spelled lexeme begins.one.0)

pub skips_shorter : (bytes rest : List ℕ) → Skips bytes rest → length rest < length bytes
skips_shorter bytes rest skips = begins_shorter bytes rest skips.gap skips.begins
