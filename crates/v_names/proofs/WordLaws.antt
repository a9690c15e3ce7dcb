-- What is kept of each name, with one more name and at a number.
use Rattle.std.proofs.Common.{◌≡◌, ℕ, zero, suc, List, [], ◌∷◌, ◌++◌, Some}
use Rattle.std.specs.Prelude.{slice_get}
use Rattle.v_meaning.specs.declared.names.Entry.{Entry}
use Rattle.v_names.specs.Words.{IsWord, AreWords}

pub words_push : (es : List Entry) (e : Entry) → AreWords es → IsWord e → AreWords (es ++ e ∷ [])
words_push [] e h w = (w, tt)
words_push (x ∷ xs) e h w = (h.0, words_push xs e h.1 w)

pub word_at : (es : List Entry) (i : ℕ) (e : Entry) → AreWords es → Some e ≡ slice_get es i → IsWord e
word_at [] i e h is = absurd (cc is)
word_at (x ∷ xs) zero e h is = let same : e ≡ x = cc is in rw same h.0
word_at (x ∷ xs) (suc i) e h is = word_at xs i e h.1 is
