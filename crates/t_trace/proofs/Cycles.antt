-- The lines of a stimulus or a trace, and the whole text.
use Rattle.std.proofs.Common.{◌≡◌, inl, inr, ℕ, ◌<◌, List, [], ◌∷◌, ◌++◌, length, flat_map, true, Option, None, Some, Result, Err, refl, arith, ap, sym, ◌∙◌, subst, append_assoc, append-nil}
use Rattle.std.specs.Prelude.{codes}
use Rattle.std.proofs.lemmas.List.{length-append}
use Rattle.std.proofs.lemmas.List.Concat.{flat_map-cons}
use Rattle.lz_base.specs.WordValue.{WordValue}
use Rattle.lz_lines.specs.declared.unread.Unread.{Unread}
use Rattle.lz_lines.specs.Fields.{IsWord}
use Rattle.lz_lines.specs.Forms.{Takes, Breaks, Fails, Obtains, Anything, Nothing, Then, Ended, Lines, AreLines}
use Rattle.lz_lines.specs.Keywords.{OneOf, all_apart}
use Rattle.lz_lines.proofs.Forms.{After, after_start, after_same, after_then, after_breaks, after_takes, after_line, line_broken, then_broken, then_obtains, obtains_failed, done_takes, GoesOn}
use Rattle.lz_lines.proofs.Places.{end_breaks}
use Rattle.t_trace.specs.Lines.{AreWords, IsCycle, IsCycles, IsLine, Tail, and_cycle, Always, head_word}
use Rattle.t_trace.specs.Texts.{cycle_line, end_line, word_field}
use Rattle.t_trace.specs.Widths.{FitWidths, CyclesFit}
use Rattle.t_trace.specs.declared.head.Head.{Head}
use Rattle.t_trace.specs.declared.head.Head.TheVariants as head
use Rattle.t_trace.proofs.Words.{some_words}

-- a line is a word and what stands behind it
abbrev pub Headed : List ℕ → Head → Option (List WordValue) → List ℕ → Type 0
Headed widths h = Then (OneOf head_word head.End (h ∷ [])) (Tail widths)

words_tail : (widths : List ℕ) (h : Head) (words : List WordValue) → all_apart head_word head.End (h ∷ []) ≡ true → FitWidths widths words → Tail widths h (Some words) (flat_map word_field words ++ 10 ∷ [])
words_tail widths head.In words apart fit = (words, flat_map word_field words, 10 ∷ [], (fit, refl), (refl, refl), refl)
words_tail widths head.Out words apart fit = (words, flat_map word_field words, 10 ∷ [], (fit, refl), (refl, refl), refl)
words_tail widths head.End words apart fit = cc

words_line : (widths key : List ℕ) (line : Option (List WordValue)) (text back : List ℕ) → Then (AreWords widths) (λ words. Ended (Some words)) line back → text ≡ key ++ back → IsLine widths key line text
words_line widths key line text back (words, front, last, is, ended, e) f = subst (λ (o : Option (List WordValue)). IsLine widths key o text) (sym ended.0)
    (is.0, f ∙ ap (λ l. key ++ l) (e ∙ ap (λ l. l ++ last) is.1 ∙ ap (λ l. flat_map word_field words ++ l) ended.1) ∙ sym (append_assoc key (flat_map word_field words) (10 ∷ [])))

tail_words : (widths : List ℕ) (h : Head) (line : Option (List WordValue)) (text back : List ℕ) → all_apart head_word head.End (h ∷ []) ≡ true → Tail widths h line back → text ≡ head_word h ++ back → IsLine widths (head_word h) line text
tail_words widths head.End line text back apart t e = cc
tail_words widths head.In line text back apart t e = words_line widths (codes "in") line text back t e
tail_words widths head.Out line text back apart t e = words_line widths (codes "out") line text back t e

line_to : (widths : List ℕ) (h : Head) (line : Option (List WordValue)) (text : List ℕ) → all_apart head_word head.End (h ∷ []) ≡ true → Headed widths h line text → IsLine widths (head_word h) line text
line_to widths h line text apart (k, front, back, inl is, tail, e) = tail_words widths h line text back apart (subst (λ (x : Head). Tail widths x line back) is.0 tail) (e ∙ ap (λ l. l ++ back) is.1)
line_to widths h line text apart (k, front, back, inr is, tail, e) =
    let ended : Ended None line back = subst (λ (x : Head). Tail widths x line back) is.0 tail in
    subst (λ (o : Option (List WordValue)). IsLine widths (head_word h) o text) (sym ended.0) (tt, e ∙ ap (λ l. l ++ back) is.1 ∙ ap (λ l. codes "end" ++ l) ended.1)

line_from : (widths : List ℕ) (h : Head) (line : Option (List WordValue)) (text : List ℕ) → all_apart head_word head.End (h ∷ []) ≡ true → IsLine widths (head_word h) line text → Headed widths h line text
line_from widths h None text apart is = (head.End, codes "end", 10 ∷ [], inr (refl, refl), (refl, refl), is.1)
line_from widths h (Some words) text apart is =
    (h, head_word h, flat_map word_field words ++ 10 ∷ [], inl (refl, refl), words_tail widths h words apart is.0, is.1 ∙ append_assoc (head_word h) (flat_map word_field words) (10 ∷ []))

line_after : (widths : List ℕ) (h : Head) (bytes : List ℕ) → all_apart head_word head.End (h ∷ []) ≡ true → After (IsLine widths (head_word h)) Anything bytes (Headed widths h) bytes
line_after widths h bytes apart = after_same (Headed widths h) (after_start (IsLine widths (head_word h)) Anything bytes) (λ line text is. line_to widths h line text apart is) (λ line text is. line_from widths h line text apart is)

-- the word that begins a line was read
pub head_read : (widths : List ℕ) (h k : Head) {bytes rest : List ℕ} → all_apart head_word head.End (h ∷ []) ≡ true → Takes (OneOf head_word head.End (h ∷ [])) Anything bytes k rest
    → After (IsLine widths (head_word h)) Anything bytes (Tail widths k) rest
head_read widths h k {bytes = bytes} apart t = after_then (OneOf head_word head.End (h ∷ [])) Anything (Tail widths) (line_after widths h bytes apart) (λ a v text behind is b. tt) t

-- no word that begins a line stands there
pub head_broken : (widths : List ℕ) (h : Head) {bytes : List ℕ} {left : ℕ} → all_apart head_word head.End (h ∷ []) ≡ true → Breaks (OneOf head_word head.End (h ∷ [])) Anything bytes left
    → Breaks (IsLine widths (head_word h)) Anything bytes left
head_broken widths h {bytes = bytes} apart b =
    after_breaks (line_after widths h bytes apart) (then_broken (OneOf head_word head.End (h ∷ [])) Anything (Tail widths) Anything some (λ a v text behind is b. tt) b)
  where
    words : (line : Option (List WordValue)) × (text : List ℕ) × Then (AreWords widths) (λ words. Ended (Some words)) line text
    words = let w = some_words widths in (Some w.0, flat_map word_field w.0 ++ 10 ∷ [], (w.0, flat_map word_field w.0, 10 ∷ [], (w.1, refl), (refl, refl), refl))

    some : (k : Head) (text : List ℕ) → OneOf head_word head.End (h ∷ []) k text → (line : Option (List WordValue)) × (more : List ℕ) × Tail widths k line more
    some head.In text is = words
    some head.Out text is = words
    some head.End text is = (None, 10 ∷ [], (refl, refl))

-- behind the words of a cycle the line ends
abbrev pub EndedWords : List ℕ → Option (List WordValue) → List ℕ → Type 0
EndedWords widths = Then (AreWords widths) (λ words. Ended (Some words))

pub tail_obtains : {X : Type 0} (widths : List ℕ) (h : Head) (bytes : List ℕ) (value : X → Option (List WordValue)) (after : X → List ℕ) (result : Result X Unread) → (h ≡ head.End → ⊥)
    → Obtains (EndedWords widths) Anything value after bytes result → Obtains (Tail widths h) Anything value after bytes result
tail_obtains widths head.In bytes value after result other o = o
tail_obtains widths head.Out bytes value after result other o = o
tail_obtains widths head.End bytes value after result other o = absurd (other refl)

pub words_failed : {X : Type 0} (widths bytes : List ℕ) (value : X → Option (List WordValue)) (after : X → List ℕ) (result : Result X Unread) (e : Unread) → result ≡ Err e → Fails (AreWords widths) Anything bytes e
    → Obtains (EndedWords widths) Anything value after bytes result
words_failed widths bytes value after result e is failed = obtains_failed (EndedWords widths) Anything value after bytes (AreWords widths) Anything bytes result e is
    (λ left b. then_broken (AreWords widths) Anything (λ words. Ended (Some words)) Anything (λ words text is. (Some words, 10 ∷ [], (refl, refl))) (λ a v text behind is b. tt) b) failed

pub words_obtain : {X : Type 0} (widths : List ℕ) (words : List WordValue) (bytes rest : List ℕ) (value : X → Option (List WordValue)) (after : X → List ℕ) (result : Result X Unread)
    → Takes (AreWords widths) Anything bytes words rest → Obtains (Ended (Some words)) Anything value after rest result → Obtains (EndedWords widths) Anything value after bytes result
words_obtain widths words bytes rest value after result t o = then_obtains (AreWords widths) Anything (λ words. Ended (Some words)) Anything value after result (λ a v text behind is b. tt) t o

-- the lines behind the first
abbrev pub CycleLines : List ℕ → List ℕ → List (List WordValue) → List (List WordValue) → List ℕ → Type 0
CycleLines widths key = Lines (IsCycle widths key) and_cycle Always end_line

lines_of : (widths key : List ℕ) (before cycles : List (List WordValue)) → CyclesFit widths cycles → CycleLines widths key before (before ++ cycles) (flat_map (cycle_line key) cycles ++ end_line)
lines_of widths key before [] fit = ([], (tt, append-nil before, refl))
lines_of widths key before (c ∷ cs) fit =
    let more = lines_of widths key (before ++ c ∷ []) cs fit.1 in
    let all : (before ++ c ∷ []) ++ cs ≡ before ++ c ∷ cs = append_assoc before (c ∷ []) cs in (
      c ∷ more.0,
      (
        cycle_line key c,
        flat_map (cycle_line key) cs ++ end_line,
        (fit.0, refl),
        subst (λ (v : List (List WordValue)). AreLines (IsCycle widths key) and_cycle Always end_line (before ++ c ∷ []) more.0 v (flat_map (cycle_line key) cs ++ end_line)) all more.1,
        ap (λ l. l ++ end_line) (flat_map-cons (cycle_line key) c cs) ∙ append_assoc (cycle_line key c) (flat_map (cycle_line key) cs) end_line,
      ),
    )

record Were (widths key : List ℕ) (before lines value : List (List WordValue)) (text : List ℕ) : Type 0 where
  all : value ≡ before ++ lines
  fit : CyclesFit widths lines
  spelled : text ≡ flat_map (cycle_line key) lines ++ end_line

lines_were : (widths key : List ℕ) (before lines value : List (List WordValue)) (text : List ℕ) → AreLines (IsCycle widths key) and_cycle Always end_line before lines value text → Were widths key before lines value text
lines_were widths key before [] value text is = record { all = is.1 ∙ sym (append-nil before); fit = tt; spelled = is.2 }
lines_were widths key before (c ∷ cs) value text is =
    let more = lines_were widths key (before ++ c ∷ []) cs value is.1 is.3 in
    record {
      all = more.all ∙ append_assoc before (c ∷ []) cs;
      fit = (is.2.0, more.fit);
      spelled = is.4 ∙ ap (λ l. l ++ is.1) is.2.1 ∙ ap (λ l. cycle_line key c ++ l) more.spelled ∙ sym (append_assoc (cycle_line key c) (flat_map (cycle_line key) cs) end_line)
          ∙ ap (λ l. l ++ end_line) (sym (flat_map-cons (cycle_line key) c cs));
    }

text_after : (first key widths bytes : List ℕ) → After (IsCycles first key widths) Nothing bytes (Then (IsWord first) (λ u. CycleLines widths key [])) bytes
text_after first key widths bytes = after_same (Then (IsWord first) (λ u. CycleLines widths key [])) (after_start (IsCycles first key widths) Nothing bytes) to from
  where
    to : (cycles : List (List WordValue)) (text : List ℕ) → Then (IsWord first) (λ u. CycleLines widths key []) cycles text → IsCycles first key widths cycles text
    to cycles text (u, front, back, is, lines, e) =
        let w = lines_were widths key [] lines.0 cycles back lines.1 in
        record {
          fit = subst (CyclesFit widths) (sym w.all) w.fit;
          spelled = e ∙ ap (λ l. l ++ back) is ∙ ap (λ l. first ++ l) (w.spelled ∙ ap (λ (c : List (List WordValue)). flat_map (cycle_line key) c ++ end_line) (sym w.all))
              ∙ sym (append_assoc first (flat_map (cycle_line key) cycles) end_line);
        }

    from : (cycles : List (List WordValue)) (text : List ℕ) → IsCycles first key widths cycles text → Then (IsWord first) (λ u. CycleLines widths key []) cycles text
    from cycles text is = (tt, first, flat_map (cycle_line key) cycles ++ end_line, refl, lines_of widths key [] cycles is.fit, is.spelled ∙ append_assoc first (flat_map (cycle_line key) cycles) end_line)

pub first_read : (first key widths : List ℕ) {bytes rest : List ℕ} → Takes (IsWord first) Anything bytes tt rest → After (IsCycles first key widths) Nothing bytes (CycleLines widths key []) rest
first_read first key widths {bytes = bytes} t = after_then (IsWord first) Anything (λ u. CycleLines widths key []) (text_after first key widths bytes) (λ a v text behind is b. tt) t

pub first_broken : (first key widths : List ℕ) {bytes : List ℕ} {left : ℕ} → Breaks (IsWord first) Anything bytes left → Breaks (IsCycles first key widths) Nothing bytes left
first_broken first key widths {bytes = bytes} b =
    after_breaks (text_after first key widths bytes)
    (then_broken (IsWord first) Anything (λ u. CycleLines widths key []) Nothing (λ u text is. ([], end_line, lines_of widths key [] [] tt)) (λ a v text behind is b. tt) b)

-- a cycle's line was read
pub cycle_read : (first key widths : List ℕ) (cycles : List (List WordValue)) (line : Option (List WordValue)) (words : List WordValue) {bytes left rest : List ℕ} → line ≡ Some words
    → After (IsCycles first key widths) Nothing bytes (CycleLines widths key cycles) left → Takes (IsLine widths key) Anything left line rest
    → After (IsCycles first key widths) Nothing bytes (CycleLines widths key (cycles ++ words ∷ [])) rest
cycle_read first key widths cycles line words {bytes = bytes} {rest = rest} is h t =
    subst (λ (o : Option (List WordValue)). After (IsCycles first key widths) Nothing bytes (GoesOn (IsCycle widths key) and_cycle Always end_line cycles o) rest) is
    (after_line (IsCycle widths key) and_cycle Always end_line cycles line h t)

-- no line was read
pub cycle_broken : (first key widths : List ℕ) (cycles : List (List WordValue)) {bytes left : List ℕ} {k : ℕ} → After (IsCycles first key widths) Nothing bytes (CycleLines widths key cycles) left
    → Breaks (IsLine widths key) Anything left k → Breaks (IsCycles first key widths) Nothing bytes k
cycle_broken first key widths cycles h b =
    line_broken (IsCycle widths key) and_cycle Always end_line cycles (λ words text is. let more = lines_of widths key (cycles ++ words ∷ []) [] tt in ((cycles ++ words ∷ []) ++ [], end_line, more)) h b

last_after : (first key widths : List ℕ) (cycles : List (List WordValue)) (line : Option (List WordValue)) {bytes left rest : List ℕ} → line ≡ None
    → After (IsCycles first key widths) Nothing bytes (CycleLines widths key cycles) left → Takes (IsLine widths key) Anything left line rest
    → After (IsCycles first key widths) Nothing bytes (GoesOn (IsCycle widths key) and_cycle Always end_line cycles None) rest
last_after first key widths cycles line {bytes = bytes} {rest = rest} is h t =
    subst (λ (o : Option (List WordValue)). After (IsCycles first key widths) Nothing bytes (GoesOn (IsCycle widths key) and_cycle Always end_line cycles o) rest) is
    (after_line (IsCycle widths key) and_cycle Always end_line cycles line h t)

-- the last line was read, and nothing stands behind it
pub last_read : (first key widths : List ℕ) (cycles : List (List WordValue)) (line : Option (List WordValue)) {bytes left rest : List ℕ} → line ≡ None → rest ≡ []
    → After (IsCycles first key widths) Nothing bytes (CycleLines widths key cycles) left → Takes (IsLine widths key) Anything left line rest → Takes (IsCycles first key widths) Nothing bytes cycles []
last_read first key widths cycles line {bytes = bytes} {rest = rest} is none h t =
    subst (λ (l : List ℕ). Takes (IsCycles first key widths) Nothing bytes cycles l) none (after_takes (last_after first key widths cycles line is h t) (done_takes Nothing cycles rest))

-- something stands behind the last line
pub last_broken : (first key widths : List ℕ) (cycles : List (List WordValue)) (line : Option (List WordValue)) {bytes left rest : List ℕ} → line ≡ None → (rest ≡ [] → ⊥)
    → After (IsCycles first key widths) Nothing bytes (CycleLines widths key cycles) left → Takes (IsLine widths key) Anything left line rest → Breaks (IsCycles first key widths) Nothing bytes (length rest)
last_broken first key widths cycles line {rest = rest} is some h t = after_breaks (last_after first key widths cycles line is h t) (end_breaks cycles rest some)

-- a line has at least the byte of its end
pub line_shorter : (widths key : List ℕ) (line : Option (List WordValue)) {bytes rest : List ℕ} → Takes (IsLine widths key) Anything bytes line rest → length rest < length bytes
line_shorter widths key line {rest = rest} t = let some = at line t.front t.is in omega (arith, some, ap (λ (l : List ℕ). length l) t.split, length-append t.front rest)
  where
    at : (line : Option (List WordValue)) (text : List ℕ) → IsLine widths key line text → 0 < length text
    at None text is = omega (arith, ap (λ (l : List ℕ). length l) is.1)
    at (Some words) text is = omega (arith, ap (λ (l : List ℕ). length l) is.1, length-append (key ++ flat_map word_field words) (10 ∷ []))
