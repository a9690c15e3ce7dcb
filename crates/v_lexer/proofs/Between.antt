-- The reader of white space, comments and skipped lines against their forms.
use Rattle.std.proofs.Common.{◌≡◌, ℕ, Bool, true, false, not, ◌&&◌, ◌==◌, List, [], ◌∷◌, ◌++◌, refl, sym, ap, subst, ◌∙◌, append_assoc, Some, None, if◌then◌else◌}
use Rattle.std.specs.List.{list_all}
use Rattle.std.proofs.lemmas.Bool.{and_parts, eqb-true}
use Rattle.lz_base.specs.Names.{is_name_byte}
use Rattle.v_syntax.specs.Tokens.{is_in_line, begins_slash, is_open, skipped_words, stops, Piece, piece_text, IsPiece, Begins}
use Rattle.v_syntax.specs.Numbers.{is_white}
use Rattle.v_syntax.specs.Tokens.Piece.{White, LineComment, BlockComment, Skipped, Item}
use Rattle.v_lexer.specs.Scan.{front_of, rest_of, is_in, tail_of, after_close, after_comment, after_directive, after_gap, IsGap, Skips}
use Rattle.v_lexer.proofs.Runs.{front_rest, front_passes, front_exact, rest_exact, rest_stops, one_passes, not_true}
use Rattle.v_lexer.proofs.WordForms.{listed, is_listed}

not_false : (b : Bool) → not b ≡ false → b ≡ true
not_false true is = refl
not_false false is = sym is

front_stops : (test line : ℕ → Bool) (bytes : List ℕ) → stops test bytes ≡ true → stops test (front_of line bytes) ≡ true
front_stops test line [] is = refl
front_stops test line (byte ∷ bytes) is = elim (line byte) as (λ b. stops test (if b then byte ∷ front_of line bytes else []) ≡ true) [ true ↦ is | false ↦ refl ]

-- ---- what is read is a piece

record Closes (bytes rest : List ℕ) : Type 0 where
  body : List ℕ
  text : bytes ≡ body ++ 42 ∷ 47 ∷ rest
  is : is_open body ≡ true

slash_tail : (bytes : List ℕ) → begins_slash bytes ≡ true → bytes ≡ 47 ∷ tail_of bytes
slash_tail [] is = absurd (cc)
slash_tail (byte ∷ bytes) is = ap (λ b. b ∷ bytes) (eqb-true byte 47 is)

slash_kept : (body rest : List ℕ) → begins_slash (body ++ 42 ∷ rest) ≡ begins_slash body
slash_kept [] rest = refl
slash_kept (byte ∷ body) rest = refl

close_read : (bytes rest : List ℕ) → after_close bytes ≡ Some rest → Closes bytes rest
close_read [] rest is = absurd (cc)
close_read (byte ∷ bytes) rest is =
    elim (byte == 42 && begins_slash bytes) as (λ b. (byte == 42 && begins_slash bytes) ≡ b → (if b then Some (tail_of bytes) else after_close bytes) ≡ Some rest → Closes (byte ∷ bytes) rest) [
      | true ↦ λ t e.
          let both = and_parts (byte == 42) (begins_slash bytes) t in
          let star : byte ≡ 42 = eqb-true byte 42 both.0 in
          let tail : tail_of bytes ≡ rest = cc in
          record { body = []; text = ap (λ b. b ∷ bytes) star ∙ ap (λ l. 42 ∷ l) (slash_tail bytes both.1 ∙ ap (λ l. 47 ∷ l) tail); is = refl }
      | false ↦ λ t e.
          let more = close_read bytes rest e in
          let slash : begins_slash bytes ≡ begins_slash more.body = ap begins_slash more.text ∙ slash_kept more.body (47 ∷ rest) in
          let no : (byte == 42 && begins_slash more.body) ≡ false = ap (λ b. byte == 42 && b) (sym slash) ∙ t in
          record { body = byte ∷ more.body; text = ap (λ l. byte ∷ l) more.text; is = rw no more.is }
    ] refl is

comment_skips : (bytes rest : List ℕ) → after_comment bytes ≡ Some rest → Skips (47 ∷ bytes) rest
comment_skips [] rest is = absurd (cc)
comment_skips (byte ∷ bytes) rest is =
    elim (byte == 47) as (λ b. (byte == 47) ≡ b → (if b then Some (rest_of is_in_line bytes) else (if byte == 42 then after_close bytes else None)) ≡ Some rest → Skips (47 ∷ byte ∷ bytes) rest) [
      | true ↦ λ t e.
          let slash : byte ≡ 47 = eqb-true byte 47 t in
          let left : rest_of is_in_line bytes ≡ rest = cc in
          record {
            gap = LineComment (front_of is_in_line bytes);
            is_gap = tt;
            begins = record {
              text = ap (λ b. 47 ∷ b ∷ bytes) slash ∙ ap (λ l. 47 ∷ 47 ∷ l) (front_rest is_in_line bytes ∙ ap (λ l. front_of is_in_line bytes ++ l) left);
              one = (front_passes is_in_line bytes, ap (stops is_in_line) (sym left) ∙ rest_stops is_in_line bytes);
            };
          }
      | false ↦ λ t e.
          elim (byte == 42) as (λ b. (byte == 42) ≡ b → (if b then after_close bytes else None) ≡ Some rest → Skips (47 ∷ byte ∷ bytes) rest) [
            | true ↦ λ u f.
                let star : byte ≡ 42 = eqb-true byte 42 u in
                let closed = close_read bytes rest f in
                record {
                  gap = BlockComment closed.body;
                  is_gap = tt;
                  begins = record {
                    text = ap (λ b. 47 ∷ b ∷ bytes) star ∙ ap (λ l. 47 ∷ 42 ∷ l) (closed.text ∙ sym (append_assoc closed.body (42 ∷ 47 ∷ []) rest));
                    one = closed.is;
                  };
                }
            | false ↦ λ u f. absurd (cc)
          ] refl e
    ] refl is

directive_skips : (bytes rest : List ℕ) → after_directive bytes ≡ Some rest → Skips (96 ∷ bytes) rest
directive_skips bytes rest is =
    elim (is_in skipped_words (front_of is_name_byte bytes)) as (λ b. is_in skipped_words (front_of is_name_byte bytes) ≡ b
    → (if b then Some (rest_of is_in_line (rest_of is_name_byte bytes)) else None) ≡ Some rest → Skips (96 ∷ bytes) rest) [
      | true ↦ λ t e.
          let behind = rest_of is_name_byte bytes in
          let word = front_of is_name_byte bytes in
          let body = front_of is_in_line behind in
          let left : rest_of is_in_line behind ≡ rest = cc in
          record {
            gap = Skipped word body;
            is_gap = tt;
            begins = record {
              text = ap (λ l. 96 ∷ l) (front_rest is_name_byte bytes ∙ ap (λ l. word ++ l) (front_rest is_in_line behind ∙ ap (λ l. body ++ l) left) ∙ sym (append_assoc word body rest));
              one = (
                listed skipped_words word t,
                front_stops is_name_byte is_in_line behind (rest_stops is_name_byte bytes),
                front_passes is_in_line behind,
                ap (stops is_in_line) (sym left) ∙ rest_stops is_in_line behind,
              );
            };
          }
      | false ↦ λ t e. absurd (cc)
    ] refl is

-- what is read is skipped
pub gap_skips : (bytes rest : List ℕ) → after_gap bytes ≡ Some rest → Skips bytes rest
gap_skips [] rest is = absurd (cc)
gap_skips (byte ∷ bytes) rest is =
    elim (is_white byte) as (λ b. is_white byte ≡ b → (if b then Some bytes else (if byte == 47 then after_comment bytes else (if byte == 96 then after_directive bytes else None))) ≡ Some rest
    → Skips (byte ∷ bytes) rest) [
      | true ↦ λ t e.
          let left : bytes ≡ rest = cc in
          record { gap = White byte; is_gap = tt; begins = record { text = ap (λ l. byte ∷ l) left; one = t } }
      | false ↦ λ t e.
          elim (byte == 47) as (λ b. (byte == 47) ≡ b → (if b then after_comment bytes else (if byte == 96 then after_directive bytes else None)) ≡ Some rest → Skips (byte ∷ bytes) rest) [
            | true ↦ λ u f. subst (λ (n : ℕ). Skips (n ∷ bytes) rest) (sym (eqb-true byte 47 u)) (comment_skips bytes rest f)
            | false ↦ λ u f.
                elim (byte == 96) as (λ b. (byte == 96) ≡ b → (if b then after_directive bytes else None) ≡ Some rest → Skips (byte ∷ bytes) rest) [
                  | true ↦ λ v g. subst (λ (n : ℕ). Skips (n ∷ bytes) rest) (sym (eqb-true byte 96 v)) (directive_skips bytes rest g)
                  | false ↦ λ v g. absurd (cc)
                ] refl f
          ] refl e
    ] refl is

-- ---- what is a piece is read

close_passed : (body more : List ℕ) → is_open body ≡ true → after_close (body ++ 42 ∷ 47 ∷ more) ≡ Some more
close_passed [] more is = refl
close_passed (byte ∷ body) more is =
    let both = and_parts (not (byte == 42 && begins_slash body)) (is_open body) is in
    let here : (byte == 42 && begins_slash (body ++ 42 ∷ 47 ∷ more)) ≡ false = ap (λ b. byte == 42 && b) (slash_kept body (47 ∷ more)) ∙ not_true (byte == 42 && begins_slash body) both.0 in
    rw here (close_passed body more both.1)

skipped_names : list_all (list_all is_name_byte) skipped_words ≡ true
unfolding skipped_words
skipped_names = refl

-- the end of a line is no byte of a name
line_end : (rest : List ℕ) → stops is_in_line rest ≡ true → stops is_name_byte rest ≡ true
line_end [] is = refl
line_end (byte ∷ rest) is =
    let feed : (byte == 10) ≡ true = not_false (byte == 10) (not_true (is_in_line byte) is) in
    ap (λ b. not (is_name_byte b)) (eqb-true byte 10 feed)

name_ends : (body rest : List ℕ) → stops is_name_byte body ≡ true → stops is_in_line rest ≡ true → stops is_name_byte (body ++ rest) ≡ true
name_ends [] rest body end = line_end rest end
name_ends (byte ∷ body) rest stop end = stop

pub skipped_word : (word body rest : List ℕ) → IsPiece (Skipped word body) rest → front_of is_name_byte (word ++ (body ++ rest)) ≡ word
skipped_word word body rest is =
    front_exact is_name_byte word (body ++ rest) (one_passes (list_all is_name_byte) skipped_words word is.0 skipped_names) (name_ends body rest is.1 is.3)

directive_passed : (word body rest : List ℕ) → IsPiece (Skipped word body) rest → after_directive (word ++ (body ++ rest)) ≡ Some rest
directive_passed word body rest is =
    let names = one_passes (list_all is_name_byte) skipped_words word is.0 skipped_names in
    let stop = name_ends body rest is.1 is.3 in
    let front = skipped_word word body rest is in
    let behind : rest_of is_name_byte (word ++ (body ++ rest)) ≡ body ++ rest = rest_exact is_name_byte word (body ++ rest) names stop in
    let is_word : is_in skipped_words (front_of is_name_byte (word ++ (body ++ rest))) ≡ true = ap (is_in skipped_words) front ∙ is_listed skipped_words word is.0 in
    let left : rest_of is_in_line (rest_of is_name_byte (word ++ (body ++ rest))) ≡ rest = ap (rest_of is_in_line) behind ∙ rest_exact is_in_line body rest is.2 is.3 in
    rw is_word (ap Some left)

pub gap_passed : (gap : Piece) (more : List ℕ) → IsGap gap → IsPiece gap more → after_gap (piece_text gap ++ more) ≡ Some more
gap_passed (White byte) more gap is = rw is refl
gap_passed (LineComment body) more gap is = ap Some (rest_exact is_in_line body more is.0 is.1)
gap_passed (BlockComment body) more gap is = ap after_close (append_assoc body (42 ∷ 47 ∷ []) more) ∙ close_passed body more is
gap_passed (Skipped word body) more gap is = ap after_directive (append_assoc word body more) ∙ directive_passed word body more is
gap_passed (Item lexeme) more gap is = absurd gap

pub no_gap : (bytes : List ℕ) → after_gap bytes ≡ None → (gap : Piece) (more : List ℕ) → IsGap gap → Begins bytes more gap → ⊥
no_gap bytes none gap more is begins =
    let some : after_gap bytes ≡ Some more = ap after_gap begins.text ∙ gap_passed gap more is begins.one in
    cc
