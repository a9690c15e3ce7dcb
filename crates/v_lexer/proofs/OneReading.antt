-- The pieces of a text are determined.
use Rattle.std.proofs.Common.{◌≡◌, ◌≢◌, ℕ, true, false, Some, List, [], ◌∷◌, ◌++◌, refl, sym, ap, subst, ◌∙◌, inl, inr, arith, length, append_assoc, append-nil}
use Rattle.std.proofs.lemmas.List.{append_cancel_left, append_cancel_right}
use Rattle.v_syntax.specs.declared.token.Lexeme.{Lexeme}
use Rattle.v_syntax.specs.declared.token.Lexeme.TheVariants as l
use Rattle.v_syntax.specs.declared.token.Keyword.{Keyword}
use Rattle.v_syntax.specs.declared.token.Mark.{Mark}
use Rattle.v_syntax.specs.declared.token.Cast.{Cast}
use Rattle.v_syntax.specs.declared.token.Cast.TheVariants as c
use Rattle.v_syntax.specs.declared.token.Token.{Token}
use Rattle.v_syntax.specs.Tokens.{keyword_spelling, mark_spelling, cast_spelling, unused_words, spelling, HasForm, Piece, piece_text, text_of, IsPiece, IsSplit, tokens_from, Begins, Lexes, BreaksAt}
use Rattle.lz_base.specs.Names.{IsAmong}
use Rattle.v_syntax.specs.Tokens.Piece.{White, LineComment, BlockComment, Skipped, Item}
use Rattle.lz_base.specs.Names.{is_name_byte, IsNew}
use Rattle.v_lexer.specs.Scan.{kind_of, keyword_in, keywords, mark_in, marks, front_of, after_gap, IsGap}
use Rattle.v_lexer.proofs.FirstBytes.{lexeme_kind, piece_kind, piece_begins, piece_has_bytes}
use Rattle.v_lexer.proofs.Runs.{second, unlike}
use Rattle.v_lexer.proofs.Steps.{begins_no_token, begins_token}
use Rattle.v_lexer.proofs.Between.{gap_passed, skipped_word}
use Rattle.v_lexer.proofs.WordForms.{keyword_found, unused_no_keyword}
use Rattle.v_lexer.proofs.MarkForms.{mark_found}

new_is_none : (words : List (List ℕ)) (word : List ℕ) → IsNew word words → IsAmong word words → ⊥
new_is_none [] word new is = is
new_is_none (other ∷ words) word new (inl same) = new.0 same
new_is_none (other ∷ words) word new (inr is) = new_is_none words word new.1 is

keyword_same : (a b : Keyword) → keyword_spelling a ≡ keyword_spelling b → a ≡ b
keyword_same a b is =
    let one = keyword_found a in
    let two = keyword_found b in
    let e : keyword_in keywords (keyword_spelling a) ≡ keyword_in keywords (keyword_spelling b) = ap (keyword_in keywords) is in
    cc

mark_same : (a b : Mark) → mark_spelling a ≡ mark_spelling b → a ≡ b
mark_same a b is =
    let one = mark_found a in
    let two = mark_found b in
    let e : mark_in marks (mark_spelling a) ≡ mark_in marks (mark_spelling b) = ap (mark_in marks) is in
    let pair : (a, length (mark_spelling a)) ≡ (b, length (mark_spelling b)) = cc in
    ap (λ (p : Mark × ℕ). p.0) pair

same_front : (a b r s : List ℕ) → a ++ r ≡ b ++ s → length a ≡ length b → a ≡ b
same_front [] [] r s is long = refl
same_front [] (y ∷ b) r s is long = absurd (omega arith)
same_front (x ∷ a) [] r s is long = absurd (omega arith)
same_front (x ∷ a) (y ∷ b) r s is long =
    let head : x ≡ y = cc in
    let tail : a ≡ b = same_front a b r s (cc) (omega arith) in
    cc

cast_same : (a b : Cast) → cast_spelling a ≡ cast_spelling b → a ≡ b
unfolding cast_spelling
cast_same c.Signed c.Signed is = refl
cast_same c.Signed c.Unsigned is = absurd (cc)
cast_same c.Unsigned c.Signed is = absurd (cc)
cast_same c.Unsigned c.Unsigned is = refl

-- two tokens of the same bytes are equal
same_lexeme : (a b : Lexeme) → HasForm a → HasForm b → spelling a ≡ spelling b → lexeme_kind a ≡ lexeme_kind b → a ≡ b
same_lexeme (l.Identifier a) (l.Identifier b) f g is kinds = ap l.Identifier is
same_lexeme (l.Identifier a) (l.Keyword b) f g is kinds = absurd (f.1 b is)
same_lexeme (l.Identifier a) (l.Reserved b) f g is kinds = absurd (new_is_none unused_words a f.2 (subst (λ (w : List ℕ). IsAmong w unused_words) (sym is) g))
same_lexeme (l.Identifier a) _ f g is kinds = absurd (cc)
same_lexeme (l.Keyword a) (l.Identifier b) f g is kinds = absurd (g.1 a (sym is))
same_lexeme (l.Keyword a) (l.Keyword b) f g is kinds = ap l.Keyword (keyword_same a b is)
same_lexeme (l.Keyword a) (l.Reserved b) f g is kinds = absurd (unused_no_keyword b g a (sym is))
same_lexeme (l.Keyword a) _ f g is kinds = absurd (cc)
same_lexeme (l.Reserved a) (l.Identifier b) f g is kinds = absurd (new_is_none unused_words b g.2 (subst (λ (w : List ℕ). IsAmong w unused_words) is f))
same_lexeme (l.Reserved a) (l.Keyword b) f g is kinds = absurd (unused_no_keyword a f b is)
same_lexeme (l.Reserved a) (l.Reserved b) f g is kinds = ap l.Reserved is
same_lexeme (l.Reserved a) _ f g is kinds = absurd (cc)
same_lexeme (l.Cast a) (l.Cast b) f g is kinds = ap l.Cast (cast_same a b is)
same_lexeme (l.Cast a) _ f g is kinds = absurd (cc)
same_lexeme (l.Decimal a) (l.Decimal b) f g is kinds = ap l.Decimal is
same_lexeme (l.Decimal a) _ f g is kinds = absurd (cc)
same_lexeme (l.Based a) (l.Based b) f g is kinds = ap l.Based is
same_lexeme (l.Based a) _ f g is kinds = absurd (cc)
same_lexeme (l.Mark a) (l.Mark b) f g is kinds = ap l.Mark (mark_same a b is)
same_lexeme (l.Mark a) _ f g is kinds = absurd (cc)

-- two gaps of the same bytes are equal
same_gap : (p q : Piece) (r s : List ℕ) → IsGap p → IsGap q → piece_text p ≡ piece_text q → IsPiece p r → IsPiece q s → piece_kind p ≡ piece_kind q → p ≡ q
same_gap (White a) (White b) r s u v is f g kinds = let head : a ≡ b = cc in ap White head
same_gap (LineComment a) (LineComment b) r s u v is f g kinds = let body : a ≡ b = cc in ap LineComment body
same_gap (BlockComment a) (BlockComment b) r s u v is f g kinds =
    let closed : a ++ 42 ∷ 47 ∷ [] ≡ b ++ 42 ∷ 47 ∷ [] = cc in
    ap BlockComment (append_cancel_right a b (42 ∷ 47 ∷ []) closed)
same_gap (LineComment a) (BlockComment b) r s u v is f g kinds = absurd (unlike 47 42 refl (ap second is))
same_gap (BlockComment a) (LineComment b) r s u v is f g kinds = absurd (unlike 42 47 refl (ap second is))
same_gap (Skipped a x) (Skipped b y) r s u v is f g kinds =
    let text : a ++ x ≡ b ++ y = cc in
    let word : a ≡ b = sym (skipped_word a x r f) ∙ ap (front_of is_name_byte) (sym (append_assoc a x r) ∙ ap (λ l. l ++ r) text ∙ append_assoc b y r) ∙ skipped_word b y r (g.0, g.1, g.2, f.3) in
    let body : x ≡ y = append_cancel_left b x y (ap (λ l. l ++ x) (sym word) ∙ text) in
    cc
same_gap (Item a) q r s u v is f g kinds = absurd u
same_gap p (Item b) r s u v is f g kinds = absurd v
same_gap p q r s u v is f g kinds = absurd (cc)

gap_begins_none : (gap : Piece) → IsGap gap → begins_no_token (piece_kind gap) ≡ true
gap_begins_none (Item lexeme) is = absurd is
gap_begins_none _ is = refl

gap_apart : (gap : Piece) (lexeme : Lexeme) → IsGap gap → piece_kind gap ≢ lexeme_kind lexeme
gap_apart gap lexeme is = λ same.
    let some : begins_no_token (piece_kind gap) ≡ false = ap begins_no_token same ∙ begins_token lexeme in
    let none = gap_begins_none gap is in
    cc

some_same : (x y : List ℕ) → Some x ≡ Some y → x ≡ y
some_same x y is = cc

same_gaps : (p q : Piece) (r s : List ℕ) → IsGap p → IsGap q → piece_text p ++ r ≡ piece_text q ++ s → IsPiece p r → IsPiece q s → piece_kind p ≡ piece_kind q → p ≡ q
same_gaps p q r s u v is f g kinds =
    let rest : r ≡ s = some_same r s (sym (gap_passed p r u f) ∙ ap after_gap is ∙ gap_passed q s v g) in
    let text : piece_text p ≡ piece_text q = append_cancel_right (piece_text p) (piece_text q) r (is ∙ ap (λ l. piece_text q ++ l) (sym rest)) in
    same_gap p q r s u v text f g kinds

same_item : (a b : Lexeme) (r s : List ℕ) → spelling a ++ r ≡ spelling b ++ s → IsPiece (Item a) r → IsPiece (Item b) s → lexeme_kind a ≡ lexeme_kind b → a ≡ b
same_item a b r s is f g kinds =
    let up = f.1 b s g.0 is in
    let down = g.1 a r f.0 (sym is) in
    same_lexeme a b f.0 g.0 (same_front (spelling a) (spelling b) r s is (omega arith)) kinds

-- two pieces that begin one text are equal
same_piece : (p q : Piece) (r s : List ℕ) → piece_text p ++ r ≡ piece_text q ++ s → IsPiece p r → IsPiece q s → piece_kind p ≡ piece_kind q → p ≡ q
same_piece (Item a) (Item b) r s is f g kinds = ap Item (same_item a b r s is f g kinds)
same_piece (Item a) q r s is f g kinds = absurd (gap_apart q a tt (sym kinds))
same_piece p (Item b) r s is f g kinds = absurd (gap_apart p b tt kinds)
same_piece p q r s is f g kinds = same_gaps p q r s tt tt is f g kinds

-- no piece begins here
abbrev Stuck : List ℕ → Type 0
Stuck bytes = (piece : Piece) (more : List ℕ) → Begins bytes more piece → ⊥

stuck_end : Stuck []
stuck_end piece more begins = piece_has_bytes piece (sym (piece_begins piece more begins.one) ∙ ap kind_of (sym begins.text))

-- two splits of one text that both go as far as they can are equal
same_split : (ps qs : List Piece) (r s : List ℕ) → text_of ps ++ r ≡ text_of qs ++ s → IsSplit ps r → IsSplit qs s → Stuck r → Stuck s → (ps ≡ qs) × (r ≡ s)
same_split [] [] r s is f g no_r no_s = (refl, is)
same_split [] (q ∷ qs) r s is f g no_r no_s = absurd (no_r q (text_of qs ++ s) (record { text = is ∙ append_assoc (piece_text q) (text_of qs) s; one = g.0 }))
same_split (p ∷ ps) [] r s is f g no_r no_s = absurd (no_s p (text_of ps ++ r) (record { text = sym is ∙ append_assoc (piece_text p) (text_of ps) r; one = f.0 }))
same_split (p ∷ ps) (q ∷ qs) r s is f g no_r no_s =
    let whole : piece_text p ++ (text_of ps ++ r) ≡ piece_text q ++ (text_of qs ++ s)
    = sym (append_assoc (piece_text p) (text_of ps) r) ∙ is ∙ append_assoc (piece_text q) (text_of qs) s in
    let kinds : piece_kind p ≡ piece_kind q = sym (piece_begins p (text_of ps ++ r) f.0) ∙ ap kind_of whole ∙ piece_begins q (text_of qs ++ s) g.0 in
    let first : p ≡ q = same_piece p q (text_of ps ++ r) (text_of qs ++ s) whole f.0 g.0 kinds in
    let rest : text_of ps ++ r ≡ text_of qs ++ s = append_cancel_left (piece_text p) _ _ (whole ∙ ap (λ (x : Piece). piece_text x ++ (text_of qs ++ s)) (sym first)) in
    let more = same_split ps qs r s rest f.1 g.1 no_r no_s in
    (cc, more.1)

pub one_list : (bytes : List ℕ) (a b : List Token) → Lexes bytes a → Lexes bytes b → a ≡ b
one_list bytes a b f g =
    let same = same_split f.pieces g.pieces [] [] (ap (λ l. l ++ []) (sym f.text ∙ g.text)) f.split g.split stuck_end stuck_end in
    f.listed ∙ ap (tokens_from 0) same.0 ∙ sym g.listed

pub one_place : (bytes : List ℕ) (a b : ℕ) → BreaksAt bytes a → BreaksAt bytes b → a ≡ b
one_place bytes a b f g =
    let same = same_split f.pieces g.pieces f.rest g.rest (sym f.text ∙ g.text) f.split g.split f.breaks g.breaks in
    f.place ∙ ap (λ ps. length (text_of ps)) same.0 ∙ sym g.place

pub not_both : (bytes : List ℕ) (tokens : List Token) (at : ℕ) → Lexes bytes tokens → BreaksAt bytes at → ⊥
not_both bytes tokens at f g =
    let whole : text_of f.pieces ++ [] ≡ text_of g.pieces ++ g.rest = append-nil (text_of f.pieces) ∙ sym f.text ∙ g.text in
    let same = same_split f.pieces g.pieces [] g.rest whole f.split g.split stuck_end g.breaks in
    g.goes_on (sym same.1)
