-- What is read of an exact number of forms.
use Rattle.std.proofs.Common.{◌≡◌, ℕ, zero, suc, ◌+◌, ◌-◌, ◌<◌, List, [], ◌∷◌, ◌++◌, length, flat_map, refl, arith, ap, sym, subst, ◌∙◌, append_assoc, append-nil}
use Rattle.std.proofs.lemmas.List.{length-append}
use Rattle.std.proofs.lemmas.List.Concat.{flat_map-cons}
use Rattle.lz_lines.specs.Fields.{Each}
use Rattle.lz_lines.specs.Forms.{Takes, Breaks, Anything, Then, Done}
use Rattle.lz_lines.proofs.Forms.{After, after_start, after_same, after_then, after_breaks, after_takes, then_broken, done_takes}
use Rattle.t_choices.specs.Repeated.{Spelled, Exactly}

-- Some values were read, and behind them these still come.
pub record StillCome {V : Type 0} (spelling : V → List ℕ) (Has : V → Type 0) (count : ℕ) (read all : List V) (text : List ℕ) : Type 0 where
  pub more : List V
  pub whole : all ≡ read ++ more
  pub fit : Each Has more
  pub many : length all ≡ count
  pub spelled : text ≡ flat_map spelling more

-- nothing was read yet
pub come_start : {V : Type 0} (spelling : V → List ℕ) (Has : V → Type 0) (count : ℕ) (bytes : List ℕ) → After (Exactly spelling Has count) Anything bytes (StillCome spelling Has count []) bytes
come_start spelling Has count bytes = after_same (StillCome spelling Has count []) (after_start (Exactly spelling Has count) Anything bytes)
    (λ all text c. (subst (Each Has) (sym c.whole) c.fit, c.many, c.spelled ∙ ap (flat_map spelling) (sym c.whole)))
    (λ all text is. record { more = all; whole = refl; fit = is.0; many = is.1; spelled = is.2 })

lengths : {V : Type 0} (read more all : List V) → all ≡ read ++ more → length all ≡ length read + length more
lengths read more all e = ap (λ (l : List _). length l) e ∙ length-append read more

-- one comes next, and then the others
abbrev pub NextComes : {V : Type 0} → (V → List ℕ) → (V → Type 0) → ℕ → List V → List V → List ℕ → Type 0
NextComes spelling Has count read = Then (Spelled spelling Has) (λ v. StillCome spelling Has count (read ++ v ∷ []))

come_next : {V : Type 0} (spelling : V → List ℕ) (Has : V → Type 0) (count : ℕ) (read : List V) {bytes left : List ℕ} → length read < count → After (Exactly spelling Has count) Anything bytes (StillCome spelling Has count read) left
    → After (Exactly spelling Has count) Anything bytes (NextComes spelling Has count read) left
come_next {V = V} spelling Has count read room h = after_same (NextComes spelling Has count read) h to from
  where
    to : (all : List V) (text : List ℕ) → NextComes spelling Has count read all text → StillCome spelling Has count read all text
    to all text (v, front, back, is, c, e) = record {
      more = v ∷ c.more;
      whole = c.whole ∙ append_assoc read (v ∷ []) c.more;
      fit = (is.0, c.fit);
      many = c.many;
      spelled = e ∙ ap (λ l. l ++ back) is.1 ∙ ap (λ l. spelling v ++ l) c.spelled ∙ sym (flat_map-cons spelling v c.more);
    }

    from : (all : List V) (text : List ℕ) → StillCome spelling Has count read all text → NextComes spelling Has count read all text
    from all text c = at c.more c.whole c.fit c.many c.spelled
      where
        at : (more : List V) → all ≡ read ++ more → Each Has more → length all ≡ count → text ≡ flat_map spelling more → NextComes spelling Has count read all text
        at [] whole fit many spelled = absurd (omega (arith, room, many, lengths read [] all whole))
        at (v ∷ vs) whole fit many spelled = (
          v,
          spelling v,
          flat_map spelling vs,
          (fit.0, refl),
          record { more = vs; whole = whole ∙ sym (append_assoc read (v ∷ []) vs); fit = fit.1; many = many; spelled = refl },
          spelled ∙ flat_map-cons spelling v vs,
        )

-- one more was read
pub come_read : {V : Type 0} (spelling : V → List ℕ) (Has : V → Type 0) (count : ℕ) (read : List V) (v : V) {bytes left rest : List ℕ} → length read < count → After (Exactly spelling Has count) Anything bytes (StillCome spelling Has count read) left
    → Takes (Spelled spelling Has) Anything left v rest → After (Exactly spelling Has count) Anything bytes (StillCome spelling Has count (read ++ v ∷ [])) rest
come_read spelling Has count read v room h t = after_then (Spelled spelling Has) Anything (λ v. StillCome spelling Has count (read ++ v ∷ [])) (come_next spelling Has count read room h) (λ a v text behind is b. tt) t

-- one value, so many times
pub times : {V : Type 0} → V → ℕ → List V
times v zero = []
times v (suc n) = v ∷ times v n

pub times_length : {V : Type 0} (v : V) (n : ℕ) → length (times v n) ≡ n
unfolding times
times_length v zero = refl
times_length v (suc n) = ap suc (times_length v n)

times_each : {V : Type 0} (Has : V → Type 0) (v : V) (n : ℕ) → Has v → Each Has (times v n)
unfolding times
times_each Has v zero has = tt
times_each Has v (suc n) has = (has, times_each Has v n has)

-- so many can stand there
pub times_there : {V : Type 0} (spelling : V → List ℕ) (Has : V → Type 0) (count : ℕ) (v : V) → Has v → Exactly spelling Has count (times v count) (flat_map spelling (times v count))
times_there spelling Has count v has = (times_each Has v count has, times_length v count, refl)

-- one that has to come is none
pub come_broken : {V : Type 0} (spelling : V → List ℕ) (Has : V → Type 0) (count : ℕ) (read : List V) {bytes left : List ℕ} {k : ℕ} → length read < count → After (Exactly spelling Has count) Anything bytes (StillCome spelling Has count read) left
    → Breaks (Spelled spelling Has) Anything left k → Breaks (Exactly spelling Has count) Anything bytes k
come_broken {V = V} spelling Has count read room h b =
    after_breaks (come_next spelling Has count read room h) (then_broken (Spelled spelling Has) Anything (λ v. StillCome spelling Has count (read ++ v ∷ [])) Anything some (λ a v text behind is b. tt) b)
  where
    some : (v : V) (text : List ℕ) → Spelled spelling Has v text → (all : List V) × (more : List ℕ) × StillCome spelling Has count (read ++ v ∷ []) all more
    some v text is =
        let rest = times v (count - (length read + 1)) in
        let many : length ((read ++ v ∷ []) ++ rest) ≡ length read + 1 + (count - (length read + 1)) =
        length-append (read ++ v ∷ []) rest ∙ ap (λ k. k + length rest) (length-append read (v ∷ [])) ∙ ap (λ k. length read + 1 + k) (times_length v (count - (length read + 1))) in (
          (read ++ v ∷ []) ++ rest,
          flat_map spelling rest,
          record { more = rest; whole = refl; fit = times_each Has v (count - (length read + 1)) is.0; many = omega (arith, many, room); spelled = refl },
        )

-- all were read
pub come_end : {V : Type 0} (spelling : V → List ℕ) (Has : V → Type 0) (count : ℕ) (read : List V) {bytes left : List ℕ} → length read ≡ count → After (Exactly spelling Has count) Anything bytes (StillCome spelling Has count read) left
    → Takes (Exactly spelling Has count) Anything bytes read left
come_end {V = V} spelling Has count read {left = left} full h = after_takes (after_same (Done read) h to from) (done_takes Anything read left)
  where
    to : (all : List V) (text : List ℕ) → Done read all text → StillCome spelling Has count read all text
    to all text is = record { more = []; whole = is.0 ∙ sym (append-nil read); fit = tt; many = ap (λ (l : List V). length l) is.0 ∙ full; spelled = is.1 }

    from : (all : List V) (text : List ℕ) → StillCome spelling Has count read all text → Done read all text
    from all text c = at c.more c.whole c.many c.spelled
      where
        at : (more : List V) → all ≡ read ++ more → length all ≡ count → text ≡ flat_map spelling more → Done read all text
        at [] whole many spelled = (whole ∙ append-nil read, spelled)
        at (v ∷ vs) whole many spelled = absurd (omega (arith, full, many, lengths read (v ∷ vs) all whole))
