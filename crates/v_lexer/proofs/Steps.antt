-- What stands at the front is a token, or no token begins there.
use Rattle.std.proofs.Common.{◌≡◌, ◌≢◌, ◌≤◌, ℕ, Bool, true, false, List, [], ◌∷◌, ◌++◌, refl, sym, ap, subst, ◌∙◌, ◌⊎◌, inl, inr, arith, length, drop, length-append, Some, None}
use Rattle.std.specs.List.{list_all}
use Rattle.std.proofs.lemmas.Bool.{and_parts}
use Rattle.lz_base.specs.Names.{is_name, is_name_start, is_name_byte}
use Rattle.v_syntax.specs.declared.token.Cast.{Cast}
use Rattle.v_syntax.specs.declared.token.Cast.TheVariants as c
use Rattle.v_syntax.specs.declared.token.Lexeme.{Lexeme}
use Rattle.v_syntax.specs.declared.token.Lexeme.TheVariants as l
use Rattle.v_syntax.specs.declared.token.Mark.{Mark}
use Rattle.v_syntax.specs.Tokens.{mark_spelling, cast_spelling, spelling, HasForm, IsWholeWord, Begins}
use Rattle.v_syntax.specs.Numbers.{is_digit, is_decimal_byte, is_plain}
use Rattle.v_syntax.specs.Tokens.Piece.{Item}
use Rattle.v_lexer.specs.declared.classes.Kind.{Kind}
use Rattle.v_lexer.specs.declared.classes.Kind.TheVariants as kind
use Rattle.v_lexer.specs.declared.classes.Class.TheVariants as class
use Rattle.v_lexer.specs.Scan.{kind_of, kind_of_byte, passes, front_of, rest_of, mark_in, marks, BeginsNoToken}
use Rattle.v_lexer.proofs.Runs.{front_rest, front_passes, front_is_longest, front_exact, rest_stops, second, unlike}
use Rattle.v_lexer.proofs.MarkForms.{mark_fits, mark_longest, no_mark}
use Rattle.v_lexer.proofs.FirstBytes.{lexeme_kind, lexeme_begins, word_is_name, is_mark, is_cast, is_decimal}

word_start : (byte : ℕ) → kind_of_byte byte ≡ kind.Word → is_name_start byte ≡ true
word_start byte is = grind arith

digit_start : (byte : ℕ) → kind_of_byte byte ≡ kind.Decimal → is_digit byte ≡ true
digit_start byte is = grind arith

-- a token that begins here has the kind of the first byte
pub same_kind : (bytes : List ℕ) (k : Kind) (lexeme : Lexeme) (more : List ℕ) → kind_of bytes ≡ k → HasForm lexeme → bytes ≡ spelling lexeme ++ more → lexeme_kind lexeme ≡ k
same_kind bytes k lexeme more is form text = sym (lexeme_begins lexeme more form) ∙ ap kind_of (sym text) ∙ is

name_front : (bytes : List ℕ) → kind_of bytes ≡ kind.Word → is_name (front_of is_name_byte bytes) ≡ true
name_front [] is = absurd (cc)
name_front (byte ∷ bytes) is =
    let start : is_name_start byte ≡ true = word_start byte is in
    let passes : is_name_byte byte ≡ true = rw start refl in
    let all : list_all is_name_byte (front_of is_name_byte bytes) ≡ true = front_passes is_name_byte bytes in
    rw passes (rw start all)

-- the bytes of a name that a name begins are a name
pub front_is_name : (bytes word : List ℕ) → kind_of bytes ≡ kind.Word → word ≡ front_of (passes class.Name) bytes → is_name word ≡ true
front_is_name bytes word starts is = ap is_name is ∙ name_front bytes starts

name_bytes : (name : List ℕ) → is_name name ≡ true → list_all is_name_byte name ≡ true
name_bytes [] is = absurd (cc)
name_bytes (byte ∷ bytes) is =
    let parts = and_parts (is_name_start byte) (list_all is_name_byte bytes) is in
    let passes : is_name_byte byte ≡ true = rw parts.0 refl in
    rw passes parts.1

word_is_whole : (word : Lexeme) (rest : List ℕ) → lexeme_kind word ≡ kind.Word → IsWholeWord word rest
word_is_whole (l.Cast sign) rest is = absurd (cc)
word_is_whole _ rest is = tt

whole_word : (bytes : List ℕ) (word : Lexeme) → kind_of bytes ≡ kind.Word → HasForm word → spelling word ≡ front_of is_name_byte bytes
    → Begins bytes (rest_of is_name_byte bytes) (Item word)
whole_word bytes word starts form spelled =
    let whole : bytes ≡ spelling word ++ rest_of is_name_byte bytes = front_rest is_name_byte bytes ∙ ap (λ l. l ++ rest_of is_name_byte bytes) (sym spelled) in
    record {
      text = whole;
      one = (
        form,
        λ other more has same.
            let here : bytes ≡ spelling other ++ more = whole ∙ same in
            let k = same_kind bytes kind.Word other more starts has here in
            let n = front_is_longest is_name_byte (spelling other) more bytes here (name_bytes (spelling other) (word_is_name other has k)) in
            omega (arith, n, ap length spelled),
        word_is_whole word (rest_of is_name_byte bytes) (same_kind bytes kind.Word word (rest_of is_name_byte bytes) starts form whole),
      );
    }

-- a word with all its bytes is the longest token
pub word_begins : (bytes text rest : List ℕ) (word : Lexeme) → kind_of bytes ≡ kind.Word → HasForm word → spelling word ≡ text → text ≡ front_of (passes class.Name) bytes
    → rest ≡ rest_of (passes class.Name) bytes → Begins bytes rest (Item word)
word_begins bytes text rest word starts form spelled front is =
    subst (λ (r : List ℕ). Begins bytes r (Item word)) (sym is) (whole_word bytes word starts form (spelled ∙ front))

plain_bytes : (digits : List ℕ) → is_plain digits ≡ true → list_all is_decimal_byte digits ≡ true
plain_bytes [] is = absurd (cc)
plain_bytes (byte ∷ bytes) is =
    let parts = and_parts (is_digit byte) (list_all is_decimal_byte bytes) is in
    let passes : is_decimal_byte byte ≡ true = rw parts.0 refl in
    rw passes parts.1

plain_front : (bytes : List ℕ) → kind_of bytes ≡ kind.Decimal → is_plain (front_of is_decimal_byte bytes) ≡ true
plain_front [] is = absurd (cc)
plain_front (byte ∷ bytes) is =
    let start : is_digit byte ≡ true = digit_start byte is in
    let passes : is_decimal_byte byte ≡ true = rw start refl in
    let all : list_all is_decimal_byte (front_of is_decimal_byte bytes) ≡ true = front_passes is_decimal_byte bytes in
    rw passes (rw start all)

-- the decimal digits and underscores that a digit begins are a number
pub front_is_plain : (bytes digits : List ℕ) → kind_of bytes ≡ kind.Decimal → digits ≡ front_of (passes class.Decimal) bytes → is_plain digits ≡ true
front_is_plain bytes digits starts is = ap is_plain is ∙ plain_front bytes starts

whole_plain : (bytes digits : List ℕ) → kind_of bytes ≡ kind.Decimal → digits ≡ front_of is_decimal_byte bytes → Begins bytes (rest_of is_decimal_byte bytes) (Item (l.Decimal digits))
whole_plain bytes digits starts is =
    let whole : bytes ≡ digits ++ rest_of is_decimal_byte bytes = front_rest is_decimal_byte bytes ∙ ap (λ l. l ++ rest_of is_decimal_byte bytes) (sym is) in
    record {
      text = whole;
      one = (
        front_is_plain bytes digits starts is,
        λ other more has same.
            let here : bytes ≡ spelling other ++ more = whole ∙ same in
            let as_number = is_decimal other (same_kind bytes kind.Decimal other more starts has here) in
            let form : is_plain as_number.0 ≡ true = subst HasForm as_number.1 has in
            let text : bytes ≡ as_number.0 ++ more = here ∙ ap (λ (x : Lexeme). spelling x ++ more) as_number.1 in
            let n = front_is_longest is_decimal_byte as_number.0 more bytes text (plain_bytes as_number.0 form) in
            omega (arith, n, ap length is, ap (λ (x : Lexeme). length (spelling x)) as_number.1),
        tt,
      );
    }

-- a number with all its digits is the longest token
pub plain_begins : (bytes text digits rest : List ℕ) → kind_of bytes ≡ kind.Decimal → digits ≡ text → text ≡ front_of (passes class.Decimal) bytes
    → rest ≡ rest_of (passes class.Decimal) bytes → Begins bytes rest (Item (l.Decimal digits))
plain_begins bytes text digits rest starts same front is =
    subst (λ (r : List ℕ). Begins bytes r (Item (l.Decimal digits))) (sym is) (whole_plain bytes digits starts (same ∙ front))

cast_alike : (a b : Cast) (r s : List ℕ) → cast_spelling a ++ r ≡ cast_spelling b ++ s → a ≡ b
unfolding cast_spelling
cast_alike c.Signed c.Signed r s is = refl
cast_alike c.Signed c.Unsigned r s is = absurd (unlike 115 117 refl (ap second is))
cast_alike c.Unsigned c.Signed r s is = absurd (unlike 117 115 refl (ap second is))
cast_alike c.Unsigned c.Unsigned r s is = refl

cast_bytes : (sign : Cast) → list_all is_name_byte (cast_spelling sign) ≡ true
unfolding cast_spelling
cast_bytes c.Signed = refl
cast_bytes c.Unsigned = refl

whole_cast : (bytes : List ℕ) (sign : Cast) → kind_of bytes ≡ kind.Cast → front_of is_name_byte bytes ≡ cast_spelling sign
    → Begins bytes (rest_of is_name_byte bytes) (Item (l.Cast sign))
whole_cast bytes sign starts is =
    let whole : bytes ≡ cast_spelling sign ++ rest_of is_name_byte bytes = front_rest is_name_byte bytes ∙ ap (λ l. l ++ rest_of is_name_byte bytes) is in
    record {
      text = whole;
      one = (
        tt,
        λ other more has same.
            let here : bytes ≡ spelling other ++ more = whole ∙ same in
            let as_cast = is_cast other (same_kind bytes kind.Cast other more starts has here) in
            let text : cast_spelling sign ++ rest_of is_name_byte bytes ≡ cast_spelling as_cast.0 ++ more = same ∙ ap (λ (x : Lexeme). spelling x ++ more) as_cast.1 in
            let alike = cast_alike sign as_cast.0 (rest_of is_name_byte bytes) more text in
            omega (arith, ap (λ s. length (cast_spelling s)) alike, ap (λ (x : Lexeme). length (spelling x)) as_cast.1),
        rest_stops is_name_byte bytes,
      );
    }

-- a system function's whole name is the longest token
pub cast_begins : (bytes text rest : List ℕ) (sign : Cast) → kind_of bytes ≡ kind.Cast → text ≡ cast_spelling sign → text ≡ front_of (passes class.Name) bytes
    → rest ≡ rest_of (passes class.Name) bytes → Begins bytes rest (Item (l.Cast sign))
cast_begins bytes text rest sign starts spelled front is =
    subst (λ (r : List ℕ). Begins bytes r (Item (l.Cast sign))) (sym is) (whole_cast bytes sign starts (sym front ∙ spelled))

pub no_cast : (bytes text : List ℕ) → kind_of bytes ≡ kind.Cast → ((sign : Cast) → text ≢ cast_spelling sign) → text ≡ front_of (passes class.Name) bytes → BeginsNoToken bytes
no_cast bytes text starts none front = λ lexeme more begins.
    let as_cast = is_cast lexeme (same_kind bytes kind.Cast lexeme more starts begins.one.0 begins.text) in
    let this : Begins bytes more (Item (l.Cast as_cast.0)) = subst (λ (x : Lexeme). Begins bytes more (Item x)) as_cast.1 begins in
    none as_cast.0 (front ∙ ap (front_of is_name_byte) this.text ∙ front_exact is_name_byte (cast_spelling as_cast.0) more (cast_bytes as_cast.0) this.one.2)

pub mark_within : (bytes : List ℕ) (mark : Mark) (len : ℕ) → mark_in marks bytes ≡ Some (mark, len) → len ≤ length bytes
mark_within bytes mark len is =
    let fits = mark_fits bytes mark len is in
    omega (arith, fits.0, ap length fits.1, length-append (mark_spelling mark) (drop len bytes))

-- the mark that is found is the longest token
pub mark_begins : (bytes : List ℕ) (mark : Mark) (len : ℕ) → mark_in marks bytes ≡ Some (mark, len) → Begins bytes (drop len bytes) (Item (l.Mark mark))
mark_begins bytes mark len is =
    let fits = mark_fits bytes mark len is in
    record {
      text = fits.1;
      one = (
        tt,
        λ other more has same.
            let k : lexeme_kind other ≡ kind.Other = sym (lexeme_begins other more has) ∙ ap kind_of (sym same) ∙ lexeme_begins (l.Mark mark) (drop len bytes) tt in
            let as_mark = is_mark other k in
            let here : bytes ≡ mark_spelling as_mark.0 ++ more = fits.1 ∙ same ∙ ap (λ (x : Lexeme). spelling x ++ more) as_mark.1 in
            omega (arith, mark_longest bytes mark as_mark.0 len more is here, fits.0, ap (λ (x : Lexeme). length (spelling x)) as_mark.1),
        tt,
      );
    }

pub no_mark_token : (bytes : List ℕ) → kind_of bytes ≡ kind.Other → mark_in marks bytes ≡ None → BeginsNoToken bytes
no_mark_token bytes starts none = λ lexeme more begins.
    let as_mark = is_mark lexeme (same_kind bytes kind.Other lexeme more starts begins.one.0 begins.text) in
    no_mark bytes as_mark.0 more none (begins.text ∙ ap (λ (x : Lexeme). spelling x ++ more) as_mark.1)

-- a kind with which no token begins
abbrev pub begins_no_token : Kind → Bool
begins_no_token kind.Word = false
begins_no_token kind.Decimal = false
begins_no_token kind.White = true
begins_no_token kind.Based = false
begins_no_token kind.Cast = false
begins_no_token kind.Slash = true
begins_no_token kind.Backquote = true
begins_no_token kind.Other = false
begins_no_token kind.End = true

pub begins_token : (lexeme : Lexeme) → begins_no_token (lexeme_kind lexeme) ≡ false
begins_token (l.Identifier name) = refl
begins_token (l.Keyword word) = refl
begins_token (l.Reserved word) = refl
begins_token (l.Cast sign) = refl
begins_token (l.Decimal digits) = refl
begins_token (l.Based bytes) = refl
begins_token (l.Mark mark) = refl

pub no_token : (bytes : List ℕ) (k : Kind) → kind_of bytes ≡ k → begins_no_token k ≡ true → BeginsNoToken bytes
no_token bytes k starts none = λ lexeme more begins.
    let same = same_kind bytes k lexeme more starts begins.one.0 begins.text in
    let some : begins_no_token k ≡ false = ap begins_no_token (sym same) ∙ begins_token lexeme in
    cc

pub some_without_token : (k : Kind) → (k ≡ kind.White) ⊎ ((k ≡ kind.Slash) ⊎ ((k ≡ kind.Backquote) ⊎ (k ≡ kind.End))) → begins_no_token k ≡ true
some_without_token k (inl is) = ap begins_no_token is
some_without_token k (inr (inl is)) = ap begins_no_token is
some_without_token k (inr (inr (inl is))) = ap begins_no_token is
some_without_token k (inr (inr (inr is))) = ap begins_no_token is
