-- What is read of a line that has a word and fields, and of the last line of a text.
use Rattle.std.proofs.Common.{◌≡◌, ℕ, List, [], ◌∷◌, ◌++◌, length, refl, ap, sym, subst, ◌∙◌, append_assoc}
use Rattle.lz_lines.specs.Fields.{IsWord}
use Rattle.lz_lines.specs.Forms.{Takes, Breaks, Anything, Nothing, Then, Ended, Done}
use Rattle.lz_lines.proofs.Forms.{After, after_start, after_same, after_then, after_breaks, after_takes, then_broken, done_takes}
use Rattle.lz_lines.proofs.Places.{end_breaks}
use Rattle.lz_lines.proofs.Standing.{some_ended}
use Rattle.t_choices.specs.Repeated.{Spelled, Last, last_line}

-- a line that begins with this word
abbrev pub line_of : {V : Type 0} → List ℕ → (V → List ℕ) → V → List ℕ
line_of key fields v = key ++ fields v ++ 10 ∷ []

-- what stands behind the word
abbrev pub Tail : {V : Type 0} → (V → List ℕ) → (V → Type 0) → V → List ℕ → Type 0
Tail fields Has = Then (Spelled fields Has) Ended

line_parts : {V : Type 0} (key : List ℕ) (fields : V → List ℕ) (Has : V → Type 0) (bytes : List ℕ) → After (Spelled (line_of key fields) Has) Anything bytes (Then (IsWord key) (λ u. Tail fields Has)) bytes
line_parts {V = V} key fields Has bytes = after_same (Then (IsWord key) (λ u. Tail fields Has)) (after_start (Spelled (line_of key fields) Has) Anything bytes) to from
  where
    to : (v : V) (text : List ℕ) → Then (IsWord key) (λ u. Tail fields Has) v text → Spelled (line_of key fields) Has v text
    to v text (u, front, back, is, tail, e) =
        let same : v ≡ tail.0 = tail.4.0 in (
          subst Has (sym same) tail.3.0,
          e ∙ ap (λ l. l ++ back) is ∙ ap (λ l. key ++ l) (tail.5 ∙ ap (λ l. l ++ tail.2) (tail.3.1 ∙ ap fields (sym same)) ∙ ap (λ l. fields v ++ l) tail.4.1) ∙ sym (append_assoc key (fields v) (10 ∷ [])),
        )

    from : (v : V) (text : List ℕ) → Spelled (line_of key fields) Has v text → Then (IsWord key) (λ u. Tail fields Has) v text
    from v text is = (tt, key, fields v ++ 10 ∷ [], refl, (v, fields v, 10 ∷ [], (is.0, refl), (refl, refl), refl), is.1 ∙ append_assoc key (fields v) (10 ∷ []))

-- the word was read
pub key_read : {V : Type 0} (key : List ℕ) (fields : V → List ℕ) (Has : V → Type 0) {bytes rest : List ℕ} → Takes (IsWord key) Anything bytes tt rest → After (Spelled (line_of key fields) Has) Anything bytes (Tail fields Has) rest
key_read key fields Has {bytes = bytes} t = after_then (IsWord key) Anything (λ u. Tail fields Has) (line_parts key fields Has bytes) (λ a v text behind is b. tt) t

-- it is none
pub key_broken : {V : Type 0} (key : List ℕ) (fields : V → List ℕ) (Has : V → Type 0) (some : (v : V) × Has v) {bytes : List ℕ} {k : ℕ} → Breaks (IsWord key) Anything bytes k → Breaks (Spelled (line_of key fields) Has) Anything bytes k
key_broken key fields Has some {bytes = bytes} b =
    after_breaks (line_parts key fields Has bytes)
    (then_broken (IsWord key) Anything (λ u. Tail fields Has) Anything (λ u text is. (some.0, fields some.0 ++ 10 ∷ [], (some.0, fields some.0, 10 ∷ [], (some.1, refl), (refl, refl), refl))) (λ a v text behind is b. tt) b)

-- the fields were read, behind which the end of the line may stand
pub fields_read : {V : Type 0} (key : List ℕ) (fields : V → List ℕ) (Has : V → Type 0) (Ends : V → List ℕ → Type 0) (v : V) {bytes rest left : List ℕ} → ((v : V) (behind : List ℕ) → Ends v (10 ∷ behind))
    → After (Spelled (line_of key fields) Has) Anything bytes (Tail fields Has) rest → Takes (Spelled fields Has) Ends rest v left → After (Spelled (line_of key fields) Has) Anything bytes (Ended v) left
fields_read key fields Has Ends v ends h t = after_then (Spelled fields Has) Ends Ended h (λ a v text behind is b. subst (λ l. Ends a (l ++ behind)) (sym is.1) (ends a behind)) t

-- they are none
pub fields_broken : {V : Type 0} (key : List ℕ) (fields : V → List ℕ) (Has : V → Type 0) (Ends : V → List ℕ → Type 0) {bytes rest : List ℕ} {k : ℕ} → ((v : V) (behind : List ℕ) → Ends v (10 ∷ behind))
    → After (Spelled (line_of key fields) Has) Anything bytes (Tail fields Has) rest → Breaks (Spelled fields Has) Ends rest k → Breaks (Spelled (line_of key fields) Has) Anything bytes k
fields_broken key fields Has Ends ends h b =
    after_breaks h (then_broken (Spelled fields Has) Ends Ended Anything (λ v text is. some_ended v) (λ a v text behind is b. subst (λ l. Ends a (l ++ behind)) (sym is.1) (ends a behind)) b)

last_parts : {V : Type 0} (v : V) (bytes : List ℕ) → After (Last v) Nothing bytes (Then (IsWord last_line) (λ u. Done v)) bytes
last_parts v bytes = after_same (Then (IsWord last_line) (λ u. Done v)) (after_start (Last v) Nothing bytes)
    (λ u text (w, front, back, is, done, e). (done.0, e ∙ ap (λ l. l ++ back) is ∙ ap (λ l. last_line ++ l) done.1))
    (λ u text is. (tt, last_line, [], refl, (is.0, refl), is.1))

last_read : {V : Type 0} (v : V) {bytes rest : List ℕ} → Takes (IsWord last_line) Anything bytes tt rest → After (Last v) Nothing bytes (Done v) rest
last_read v {bytes = bytes} t = after_then (IsWord last_line) Anything (λ u. Done v) (last_parts v bytes) (λ a v text behind is b. tt) t

-- the last line is another
pub last_broken : {V : Type 0} (v : V) {bytes : List ℕ} {k : ℕ} → Breaks (IsWord last_line) Anything bytes k → Breaks (Last v) Nothing bytes k
last_broken v {bytes = bytes} b = after_breaks (last_parts v bytes) (then_broken (IsWord last_line) Anything (λ u. Done v) Nothing (λ u text is. (v, [], (refl, refl))) (λ a v text behind is b. tt) b)

-- something stands behind it
pub end_broken : {V : Type 0} (v : V) {bytes rest : List ℕ} → Takes (IsWord last_line) Anything bytes tt rest → (rest ≡ [] → ⊥) → Breaks (Last v) Nothing bytes (length rest)
end_broken v {rest = rest} t some = after_breaks (last_read v t) (end_breaks v rest some)

-- nothing does
pub end_read : {V : Type 0} (v : V) {bytes rest : List ℕ} → Takes (IsWord last_line) Anything bytes tt rest → rest ≡ [] → Takes (Last v) Nothing bytes v []
end_read v {bytes = bytes} {rest = rest} t none = subst (λ (l : List ℕ). Takes (Last v) Nothing bytes v l) none (after_takes (last_read v t) (done_takes Nothing v rest))
