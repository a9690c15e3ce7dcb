-- What is read of the words of a line.
use Rattle.std.proofs.Common.{◌≡◌, ℕ, zero, suc, ◌≤◌, ◌<◌, List, [], ◌∷◌, ◌++◌, length, get_or, flat_map, refl, arith, ap, sym, subst, ◌∙◌, append_assoc, append-nil}
use Rattle.std.proofs.lemmas.List.Concat.{flat_map-cons}
use Rattle.std.proofs.lemmas.Nat.{pow_pos}
use Rattle.lz_base.specs.WordValue.{WordValue}
use Rattle.lz_lines.specs.Fields.{IsHex, field, hex}
use Rattle.lz_lines.specs.Forms.{Takes, Breaks, Anything, Then, Done}
use Rattle.lz_lines.proofs.Forms.{After, after_start, after_same, after_then, after_breaks, after_takes, then_broken, done_takes}
use Rattle.t_trace.specs.Lines.{AreWords}
use Rattle.t_trace.specs.Texts.{word_field}
use Rattle.t_trace.specs.Widths.{AreWidths, FitWidths}

-- each width is one of a word
pub width_low : (widths : List ℕ) (i : ℕ) → AreWidths widths → i < length widths → 1 ≤ get_or widths i 0
width_low [] i h within = absurd (omega arith)
width_low (w ∷ ws) zero h within = h.0
width_low (w ∷ ws) (suc i) h within = width_low ws i h.2 (omega arith)

pub width_high : (widths : List ℕ) (i : ℕ) → AreWidths widths → i < length widths → get_or widths i 0 ≤ 128
width_high [] i h within = absurd (omega arith)
width_high (w ∷ ws) zero h within = h.1
width_high (w ∷ ws) (suc i) h within = width_high ws i h.2 (omega arith)

-- some words have these widths
pub some_words : (widths : List ℕ) → (words : List WordValue) × FitWidths widths words
some_words [] = ([], tt)
some_words (w ∷ ws) = let more = some_words ws in (record { width = w; value = 0 } ∷ more.0, (refl, pow_pos w, more.1))

-- These words were read, and the ones of these widths still come.
pub record AreRest (widths : List ℕ) (read all : List WordValue) (text : List ℕ) : Type 0 where
  pub more : List WordValue
  pub fit : FitWidths widths more
  pub whole : all ≡ read ++ more
  pub spelled : text ≡ flat_map word_field more

pub rest_start : (widths bytes : List ℕ) → After (AreWords widths) Anything bytes (AreRest widths []) bytes
rest_start widths bytes = after_same (AreRest widths []) (after_start (AreWords widths) Anything bytes)
    (λ all text r. (subst (FitWidths widths) (sym r.whole) r.fit, r.spelled ∙ ap (flat_map word_field) (sym r.whole)))
    (λ all text is. record { more = all; fit = is.0; whole = refl; spelled = is.1 })

-- the word that comes next, and then the others
abbrev pub NextWord : ℕ → List ℕ → List WordValue → List WordValue → List ℕ → Type 0
NextWord w widths read = Then (IsHex w) (λ n. AreRest widths (read ++ record { width = w; value = n } ∷ []))

rest_comes : (whole : List ℕ) (w : ℕ) (widths : List ℕ) (read : List WordValue) {bytes left : List ℕ} → After (AreWords whole) Anything bytes (AreRest (w ∷ widths) read) left
    → After (AreWords whole) Anything bytes (NextWord w widths read) left
rest_comes whole w widths read h = after_same (NextWord w widths read) h to from
  where
    to : (all : List WordValue) (text : List ℕ) → NextWord w widths read all text → AreRest (w ∷ widths) read all text
    to all text (n, front, back, is, r, e) = record {
      more = record { width = w; value = n } ∷ r.more;
      fit = (refl, is.0, r.fit);
      whole = r.whole ∙ append_assoc read (record { width = w; value = n } ∷ []) r.more;
      spelled = e ∙ ap (λ l. l ++ back) is.1 ∙ ap (λ l. field (hex w n) ++ l) r.spelled ∙ sym (flat_map-cons word_field (record { width = w; value = n }) r.more);
    }

    from : (all : List WordValue) (text : List ℕ) → AreRest (w ∷ widths) read all text → NextWord w widths read all text
    from all text r = at r.more r.fit r.whole r.spelled
      where
        word_is : (v : WordValue) → v.width ≡ w → v ≡ record { width = w; value = v.value }
        word_is v e = λ i. record { width = e i; value = v.value }

        at : (more : List WordValue) → FitWidths (w ∷ widths) more → all ≡ read ++ more → text ≡ flat_map word_field more → NextWord w widths read all text
        at [] fit whole spelled = absurd fit
        at (v ∷ vs) fit whole spelled = (
          v.value,
          field (hex w v.value),
          flat_map word_field vs,
          (fit.1, refl),
          record {
            more = vs;
            fit = fit.2;
            whole = whole ∙ ap (λ (x : WordValue). read ++ x ∷ vs) (word_is v fit.0) ∙ sym (append_assoc read (record { width = w; value = v.value } ∷ []) vs);
            spelled = refl;
          },
          spelled ∙ flat_map-cons word_field v vs ∙ ap (λ k. field (hex k v.value) ++ flat_map word_field vs) fit.0,
        )

-- one word more was read
pub rest_read : (whole : List ℕ) (w n : ℕ) (widths : List ℕ) (read : List WordValue) {bytes left rest : List ℕ} → After (AreWords whole) Anything bytes (AreRest (w ∷ widths) read) left → Takes (IsHex w) Anything left n rest
    → After (AreWords whole) Anything bytes (AreRest widths (read ++ record { width = w; value = n } ∷ [])) rest
rest_read whole w n widths read h t = after_then (IsHex w) Anything (λ n. AreRest widths (read ++ record { width = w; value = n } ∷ [])) (rest_comes whole w widths read h) (λ a v text behind is b. tt) t

-- a word that has to come is none
pub rest_broken : (whole : List ℕ) (w : ℕ) (widths : List ℕ) (read : List WordValue) {bytes left : List ℕ} {k : ℕ} → After (AreWords whole) Anything bytes (AreRest (w ∷ widths) read) left → Breaks (IsHex w) Anything left k
    → Breaks (AreWords whole) Anything bytes k
rest_broken whole w widths read h b = after_breaks (rest_comes whole w widths read h)
    (then_broken (IsHex w) Anything (λ n. AreRest widths (read ++ record { width = w; value = n } ∷ [])) Anything
    (λ n text is. let some = some_words widths in ((read ++ record { width = w; value = n } ∷ []) ++ some.0, flat_map word_field some.0, record { more = some.0; fit = some.1; whole = refl; spelled = refl }))
    (λ a v text behind is b. tt) b)

-- all words were read
pub rest_end : (whole : List ℕ) (read : List WordValue) {bytes left : List ℕ} → After (AreWords whole) Anything bytes (AreRest [] read) left → Takes (AreWords whole) Anything bytes read left
rest_end whole read {left = left} h = after_takes (after_same (Done read) h
    (λ all text is. record { more = []; fit = tt; whole = is.0 ∙ sym (append-nil read); spelled = is.1 })
    (λ all text r. at r.more r.fit r.whole r.spelled))
    (done_takes Anything read left)
  where
    at : {all : List WordValue} {text : List ℕ} (more : List WordValue) → FitWidths [] more → all ≡ read ++ more → text ≡ flat_map word_field more → Done read all text
    at [] fit whole spelled = (whole ∙ append-nil read, spelled)
    at (v ∷ vs) fit whole spelled = absurd fit
