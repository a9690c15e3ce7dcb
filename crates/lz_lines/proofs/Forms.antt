-- The laws of forms: how the answers of readers make up the answer of a reader that calls them.
use Rattle.std.proofs.Common.{◌≡◌, inl, inr, ℕ, ◌≤◌, List, [], ◌∷◌, ◌++◌, length, Option, None, Some, Result, Ok, Err, refl, arith, ap, sym, subst, ◌∙◌, append_assoc, append-nil}
use Rattle.std.specs.Prelude.{⊤}
use Rattle.std.proofs.lemmas.List.{length-append}
use Rattle.lz_lines.specs.declared.reading.Broken.{Broken}
use Rattle.lz_lines.specs.declared.unread.Unread.{Unread}
use Rattle.lz_lines.specs.declared.unread.Unread.TheVariants as unread
use Rattle.lz_lines.specs.Fields.{IsWord}
use Rattle.lz_lines.specs.Unread.{IsWithin}
use Rattle.lz_lines.specs.Forms.{Ended, GoAlike, Takes, Breaks, Reads, Fails, Obtains, Anything, Then, Done, Either, Lines, LineOrLast}

-- Bytes were read up to here, and behind them the texts of the one form go on as those of the other do.
pub record After {V : Type 0} (Is : V → List ℕ → Type 0) (Behind : V → List ℕ → Type 0) (bytes : List ℕ) (Next : V → List ℕ → Type 0) (rest : List ℕ) : Type 0 where
  pub front : List ℕ
  pub split : bytes ≡ front ++ rest
  pub to : (v : V) (text : List ℕ) → Next v text → Is v (front ++ text)
  pub from : (v : V) (text behind other : List ℕ) → Is v text → Behind v behind → GoAlike rest other → front ++ other ≡ text ++ behind → (more : List ℕ) × Next v more × (other ≡ more ++ behind)

pub go_alike : (bytes : List ℕ) → GoAlike bytes bytes
go_alike [] = refl
go_alike (b ∷ bs) = (bs, refl)

alike_behind : (front rest other : List ℕ) → GoAlike rest other → GoAlike (front ++ rest) (front ++ other)
alike_behind [] rest other h = h
alike_behind (b ∷ bs) rest other h = (bs ++ other, refl)

alike_in : (front rest other bytes : List ℕ) → bytes ≡ front ++ rest → GoAlike rest other → GoAlike bytes (front ++ other)
alike_in front rest other bytes e h = subst (λ b. GoAlike b (front ++ other)) (sym e) (alike_behind front rest other h)

-- nothing was read yet
pub after_start : {V : Type 0} (Is : V → List ℕ → Type 0) (Behind : V → List ℕ → Type 0) (bytes : List ℕ) → After Is Behind bytes Is bytes
after_start Is Behind bytes = record { front = []; split = refl; to = λ v text is. is; from = λ v text behind other is b alike e. (text, is, e) }

-- the same form, said otherwise
pub after_same : {V : Type 0} {Is : V → List ℕ → Type 0} {Behind : V → List ℕ → Type 0} {bytes : List ℕ} {Next : V → List ℕ → Type 0} {rest : List ℕ} (Same : V → List ℕ → Type 0) → After Is Behind bytes Next rest
    → ((v : V) (text : List ℕ) → Same v text → Next v text) → ((v : V) (text : List ℕ) → Next v text → Same v text) → After Is Behind bytes Same rest
after_same Same h to from = record {
  front = h.front;
  split = h.split;
  to = λ v text is. h.to v text (to v text is);
  from = λ v text behind other is b alike e. let f = h.from v text behind other is b alike e in (f.0, from v f.0 f.1, f.2);
}

-- the same form, said otherwise where bytes go on as these do
pub after_where : {V : Type 0} {Is : V → List ℕ → Type 0} {Behind : V → List ℕ → Type 0} {bytes : List ℕ} {Next : V → List ℕ → Type 0} {rest : List ℕ} (Same : V → List ℕ → Type 0) → After Is Behind bytes Next rest
    → ((v : V) (text : List ℕ) → Same v text → Next v text) → ((v : V) (text behind other : List ℕ) → Next v text → Behind v behind → GoAlike rest other → other ≡ text ++ behind → Same v text)
    → After Is Behind bytes Same rest
after_where Same h to from = record {
  front = h.front;
  split = h.split;
  to = λ v text is. h.to v text (to v text is);
  from = λ v text behind other is b alike e. let f = h.from v text behind other is b alike e in (f.0, from v f.0 behind other f.1 b alike f.2, f.2);
}

-- one part of the form was read
pub after_then : {A V : Type 0} {Is : V → List ℕ → Type 0} {Behind : V → List ℕ → Type 0} {bytes : List ℕ} (First : A → List ℕ → Type 0) (Ends : A → List ℕ → Type 0) (Second : A → V → List ℕ → Type 0) {rest : List ℕ} {a : A} {left : List ℕ}
    → After Is Behind bytes (Then First Second) rest → ((a : A) (v : V) (text behind : List ℕ) → Second a v text → Behind v behind → Ends a (text ++ behind))
    → Takes First Ends rest a left → After Is Behind bytes (Second a) left
after_then {V = V} {Is = Is} {Behind = Behind} First Ends Second {rest = rest} {a = a} {left = left} h follows t = record {
  front = h.front ++ t.front;
  split = h.split ∙ ap (λ l. h.front ++ l) t.split ∙ sym (append_assoc h.front t.front left);
  to = λ v text is. subst (Is v) (sym (append_assoc h.front t.front text)) (h.to v (t.front ++ text) (a, t.front, text, t.is, is, refl));
  from = λ v text behind other is b alike e.
      let f = h.from v text behind (t.front ++ other) is b (alike_in t.front left other rest t.split alike) (sym (append_assoc h.front t.front other) ∙ e) in
      let p = f.1 in
      let o = t.only p.0 p.1 (p.2 ++ behind) other p.3 (follows p.0 v p.2 behind p.4 b) alike (f.2 ∙ ap (λ l. l ++ behind) p.5 ∙ append_assoc p.1 p.2 behind) in
      (p.2, subst (λ x. Second x v p.2) o.0 p.4, o.1);
}

-- one byte of the form was read
pub after_byte : {V : Type 0} (Is Next Behind : V → List ℕ → Type 0) (b : ℕ) (bytes rest : List ℕ) → bytes ≡ b ∷ rest → ((v : V) → Is v [] → ⊥)
    → ((v : V) (text : List ℕ) → Next v text → Is v (b ∷ text)) → ((v : V) (text : List ℕ) → Is v (b ∷ text) → Next v text) → After Is Behind bytes Next rest
after_byte {V = V} Is Next Behind b bytes rest split some to from = record { front = b ∷ []; split = split; to = to; from = λ v text behind other is d alike e. at v text behind other is e }
  where
    at : (v : V) (text behind other : List ℕ) → Is v text → b ∷ other ≡ text ++ behind → (more : List ℕ) × Next v more × (other ≡ more ++ behind)
    at v [] behind other is e = absurd (some v is)
    at v (c ∷ text) behind other is e =
        let same : c ≡ b = cc in
        (text, from v text (subst (λ x. Is v (x ∷ text)) same is), cc)

-- no text of the form begins with the first byte
abbrev pub NoneBegins : {V : Type 0} → (V → List ℕ → Type 0) → List ℕ → Type 0
NoneBegins Is [] = ⊤
NoneBegins Is (b ∷ bs) = (v : _) (more : List ℕ) → Is v (b ∷ more) → ⊥

pub breaks_now : {V : Type 0} (Is Behind : V → List ℕ → Type 0) (bytes : List ℕ) (v : V) (text : List ℕ) → Is v text → ((v : V) → Is v [] → ⊥) → NoneBegins Is bytes → Breaks Is Behind bytes (length bytes)
breaks_now {V = V} Is Behind bytes v text is some none = record { front = []; back = bytes; split = refl; size = refl; begun = v; more = text; begins = is; stuck = λ u text behind other is d alike e. at bytes u text behind other none is alike e }
  where
    at : (bytes : List ℕ) (u : V) (text behind other : List ℕ) → NoneBegins Is bytes → Is u text → GoAlike bytes other → other ≡ text ++ behind → ⊥
    at bytes u [] behind other none is alike e = some u is
    at [] u (c ∷ text) behind other none is alike e = cc
    at (b ∷ bs) u (c ∷ text) behind other none is alike e =
        let same : c ≡ b = cc (e, alike.1) in
        none u text (subst (λ x. Is u (x ∷ text)) same is)

-- what breaks the form that comes breaks the whole one
pub after_breaks : {V : Type 0} {Is : V → List ℕ → Type 0} {Behind : V → List ℕ → Type 0} {bytes : List ℕ} {Next : V → List ℕ → Type 0} {rest : List ℕ} {left : ℕ}
    → After Is Behind bytes Next rest → Breaks Next Behind rest left → Breaks Is Behind bytes left
after_breaks {Is = Is} {rest = rest} h b = record {
  front = h.front ++ b.front;
  back = b.back;
  split = h.split ∙ ap (λ l. h.front ++ l) b.split ∙ sym (append_assoc h.front b.front b.back);
  size = b.size;
  begun = b.begun;
  more = b.more;
  begins = subst (Is b.begun) (sym (append_assoc h.front b.front b.more)) (h.to b.begun (b.front ++ b.more) b.begins);
  stuck = λ u text behind other is d alike e.
      let f = h.from u text behind (b.front ++ other) is d (alike_in b.front b.back other rest b.split alike) (sym (append_assoc h.front b.front other) ∙ e) in
      b.stuck u f.0 behind other f.1 d alike f.2;
}

-- what takes the form that comes takes the whole one
pub after_takes : {V : Type 0} {Is : V → List ℕ → Type 0} {Behind : V → List ℕ → Type 0} {bytes : List ℕ} {Next : V → List ℕ → Type 0} {rest : List ℕ} {v : V} {left : List ℕ}
    → After Is Behind bytes Next rest → Takes Next Behind rest v left → Takes Is Behind bytes v left
after_takes {Is = Is} {rest = rest} {v = v} {left = left} h t = record {
  front = h.front ++ t.front;
  is = h.to v t.front t.is;
  split = h.split ∙ ap (λ l. h.front ++ l) t.split ∙ sym (append_assoc h.front t.front left);
  only = λ u text behind other is d alike e.
      let f = h.from u text behind (t.front ++ other) is d (alike_in t.front left other rest t.split alike) (sym (append_assoc h.front t.front other) ∙ e) in
      t.only u f.0 behind other f.1 d alike f.2;
}

-- where no byte is left to come
pub done_takes : {V : Type 0} (Behind : V → List ℕ → Type 0) (v : V) (bytes : List ℕ) → Takes (Done v) Behind bytes v bytes
done_takes Behind v bytes = record {
  front = [];
  is = (refl, refl);
  split = refl;
  only = λ u text behind other is b alike e. (is.0, e ∙ ap (λ l. l ++ behind) is.1);
}

-- no line ends here
pub ended_breaks : {V : Type 0} (v : V) {bytes : List ℕ} {left : ℕ} → Breaks (IsWord (10 ∷ [])) Anything bytes left → Breaks (Ended v) Anything bytes left
ended_breaks v b = record {
  front = b.front;
  back = b.back;
  split = b.split;
  size = b.size;
  begun = v;
  more = b.more;
  begins = (refl, b.begins);
  stuck = λ u text behind other is any alike e. b.stuck tt text behind other is.1 any alike e;
}

-- what is left is among the bytes
pub fails_within : {V : Type 0} (Is Behind : V → List ℕ → Type 0) (bytes : List ℕ) (e : Unread) → Fails Is Behind bytes e → IsWithin (length bytes) e
fails_within Is Behind bytes (unread.Broken e) b = omega (arith, b.size, ap (λ (l : List ℕ). length l) b.split, length-append b.front b.back)
fails_within Is Behind bytes unread.OutOfMemory b = tt

-- a form is broken in its first part
pub then_broken : {A V : Type 0} (First : A → List ℕ → Type 0) (Ends : A → List ℕ → Type 0) (Second : A → V → List ℕ → Type 0) (Behind : V → List ℕ → Type 0) {bytes : List ℕ} {left : ℕ}
    → ((a : A) (text : List ℕ) → First a text → (v : V) × (more : List ℕ) × Second a v more) → ((a : A) (v : V) (text behind : List ℕ) → Second a v text → Behind v behind → Ends a (text ++ behind))
    → Breaks First Ends bytes left → Breaks (Then First Second) Behind bytes left
then_broken First Ends Second Behind some follows b =
    let s = some b.begun (b.front ++ b.more) b.begins in
    record {
      front = b.front;
      back = b.back;
      split = b.split;
      size = b.size;
      begun = s.0;
      more = b.more ++ s.1;
      begins = (b.begun, b.front ++ b.more, s.1, b.begins, s.2, sym (append_assoc b.front b.more s.1));
      stuck = λ u text behind other is d alike e.
          b.stuck is.0 is.1 (is.2 ++ behind) other is.3 (follows is.0 u is.2 behind is.4 d) alike (e ∙ ap (λ l. l ++ behind) is.5 ∙ append_assoc is.1 is.2 behind);
    }

-- what the rest of a reader answers
pub after_obtains : {V X : Type 0} {Is : V → List ℕ → Type 0} {Behind : V → List ℕ → Type 0} {bytes : List ℕ} {Next : V → List ℕ → Type 0} {rest : List ℕ} (value : X → V) (after : X → List ℕ)
    (result : Result X Unread) → After Is Behind bytes Next rest → Obtains Next Behind value after rest result → Obtains Is Behind value after bytes result
after_obtains value after (Ok x) h t = after_takes h t
after_obtains value after (Err (unread.Broken e)) h b = after_breaks h b
after_obtains value after (Err unread.OutOfMemory) h b = tt

pub after_reads : {V X : Type 0} {Is : V → List ℕ → Type 0} {Behind : V → List ℕ → Type 0} {bytes : List ℕ} {Next : V → List ℕ → Type 0} {rest : List ℕ} (value : X → V) (after : X → List ℕ)
    (result : Result X Broken) → After Is Behind bytes Next rest → Reads Next Behind value after rest result → Reads Is Behind value after bytes result
after_reads value after (Ok x) h t = after_takes h t
after_reads value after (Err e) h b = after_breaks h b

-- a form is broken in its first part, or goes on behind it
pub then_obtains : {A V X : Type 0} (First : A → List ℕ → Type 0) (Ends : A → List ℕ → Type 0) (Second : A → V → List ℕ → Type 0) (Behind : V → List ℕ → Type 0) (value : X → V) (after : X → List ℕ) {bytes : List ℕ} {a : A} {rest : List ℕ}
    (result : Result X Unread) → ((a : A) (v : V) (text behind : List ℕ) → Second a v text → Behind v behind → Ends a (text ++ behind))
    → Takes First Ends bytes a rest → Obtains (Second a) Behind value after rest result → Obtains (Then First Second) Behind value after bytes result
then_obtains First Ends Second Behind value after {bytes = bytes} result follows t o =
    after_obtains value after result (after_then First Ends Second (after_start (Then First Second) Behind bytes) follows t) o

-- a failure is handed on
pub obtains_err : {V X : Type 0} (Is : V → List ℕ → Type 0) (Behind : V → List ℕ → Type 0) (value : X → V) (after : X → List ℕ) (bytes : List ℕ) (result : Result X Unread) (e : Broken)
    → result ≡ Err (unread.Broken e) → Breaks Is Behind bytes e.left → Obtains Is Behind value after bytes result
obtains_err Is Behind value after bytes result e is b = rw is b

-- a failure of a part is handed on
pub obtains_failed : {U V X : Type 0} (Is Behind : V → List ℕ → Type 0) (value : X → V) (after : X → List ℕ) (bytes : List ℕ) (Part Ends : U → List ℕ → Type 0) (rest : List ℕ) (result : Result X Unread) (e : Unread)
    → result ≡ Err e → ((left : ℕ) → Breaks Part Ends rest left → Breaks Is Behind bytes left) → Fails Part Ends rest e → Obtains Is Behind value after bytes result
obtains_failed Is Behind value after bytes Part Ends rest result e is breaks failed = rw is (at e failed)
  where
    at : (e : Unread) → Fails Part Ends rest e → Fails Is Behind bytes e
    at (unread.Broken e) b = breaks e.left b
    at unread.OutOfMemory b = tt

-- of two forms the one is broken further on
two_fronts : (a b c d : List ℕ) → a ++ b ≡ c ++ d → length b ≤ length d → (middle : List ℕ) × (a ≡ c ++ middle) × (d ≡ middle ++ b)
two_fronts a b [] d e h = (a, refl, sym e)
two_fronts [] b (x ∷ c) d e h = absurd (omega (arith, h, ap (λ (l : List ℕ). length l) e, length-append c d))
two_fronts (y ∷ a) b (x ∷ c) d e h =
    let more : a ++ b ≡ c ++ d = cc in
    let m = two_fronts a b c d more h in
    let same : y ≡ x = cc in
    (m.0, (λ i. same i ∷ m.1 i), m.2)

-- what stops a form stops it further on too
stuck_on : {V : Type 0} {Is : V → List ℕ → Type 0} {Behind : V → List ℕ → Type 0} {bytes : List ℕ} {left : ℕ} (b : Breaks Is Behind bytes left) (front back : List ℕ) → bytes ≡ front ++ back → length back ≤ left
    → (u : V) (text behind other : List ℕ) → Is u text → Behind u behind → GoAlike back other → front ++ other ≡ text ++ behind → ⊥
stuck_on b front back split less u text behind other is d alike e =
    let shorter : length back ≤ length b.back = subst (λ n. length back ≤ n) b.size less in
    let m = two_fronts front back b.front b.back (sym split ∙ b.split) shorter in
    b.stuck u text behind (m.0 ++ other) is d (alike_in m.0 back other b.back m.2 alike) (sym (append_assoc b.front m.0 other) ∙ ap (λ l. l ++ other) (sym m.1) ∙ e)

pub either_one : {V : Type 0} (One Other : V → List ℕ → Type 0) (Behind : V → List ℕ → Type 0) {bytes : List ℕ} {l m : ℕ} → l ≤ m → Breaks One Behind bytes l → Breaks Other Behind bytes m → Breaks (Either One Other) Behind bytes l
either_one {V = V} One Other Behind {l = l} {m = m} less a b = record {
  front = a.front;
  back = a.back;
  split = a.split;
  size = a.size;
  begun = a.begun;
  more = a.more;
  begins = inl a.begins;
  stuck = λ u text behind other is d alike e. at u text behind other is d alike e;
}
  where
    at : (u : V) (text behind other : List ℕ) → Either One Other u text → Behind u behind → GoAlike a.back other → a.front ++ other ≡ text ++ behind → ⊥
    at u text behind other (inl is) d alike e = a.stuck u text behind other is d alike e
    at u text behind other (inr is) d alike e = stuck_on b a.front a.back a.split (subst (λ n. n ≤ m) a.size less) u text behind other is d alike e

pub either_other : {V : Type 0} (One Other : V → List ℕ → Type 0) (Behind : V → List ℕ → Type 0) {bytes : List ℕ} {l m : ℕ} → m ≤ l → Breaks One Behind bytes l → Breaks Other Behind bytes m → Breaks (Either One Other) Behind bytes m
either_other {V = V} One Other Behind {l = l} {m = m} less a b = record {
  front = b.front;
  back = b.back;
  split = b.split;
  size = b.size;
  begun = b.begun;
  more = b.more;
  begins = inr b.begins;
  stuck = λ u text behind other is d alike e. at u text behind other is d alike e;
}
  where
    at : (u : V) (text behind other : List ℕ) → Either One Other u text → Behind u behind → GoAlike b.back other → b.front ++ other ≡ text ++ behind → ⊥
    at u text behind other (inl is) d alike e = stuck_on a b.front b.back b.split (subst (λ n. n ≤ l) b.size less) u text behind other is d alike e
    at u text behind other (inr is) d alike e = b.stuck u text behind other is d alike e

-- Lines: a form of one more line or the last, and then of what may come behind it.
abbrev pub GoesOn : {S L : Type 0} → (S → L → List ℕ → Type 0) → (S → L → S) → (S → Type 0) → List ℕ → S → Option L → S → List ℕ → Type 0
GoesOn IsLine step MayEnd last state None = Done state
GoesOn IsLine step MayEnd last state (Some l) = Lines IsLine step MayEnd last (step state l)

lines_to : {S L : Type 0} (IsLine : S → L → List ℕ → Type 0) (step : S → L → S) (MayEnd : S → Type 0) (last : List ℕ) (state value : S) (text : List ℕ)
    → Then (LineOrLast IsLine MayEnd last state) (GoesOn IsLine step MayEnd last state) value text → Lines IsLine step MayEnd last state value text
lines_to IsLine step MayEnd last state value text (None, front, back, is, more, e) = ([], (is.0, more.0, e ∙ ap (λ l. l ++ back) is.1 ∙ ap (λ l. last ++ l) more.1 ∙ append-nil last))
lines_to IsLine step MayEnd last state value text (Some l, front, back, is, more, e) = (l ∷ more.0, (front, back, is, more.1, e))

lines_from : {S L : Type 0} (IsLine : S → L → List ℕ → Type 0) (step : S → L → S) (MayEnd : S → Type 0) (last : List ℕ) (state value : S) (text : List ℕ)
    → Lines IsLine step MayEnd last state value text → Then (LineOrLast IsLine MayEnd last state) (GoesOn IsLine step MayEnd last state) value text
lines_from IsLine step MayEnd last state value text ([], is) = (None, last, [], (is.0, refl), (is.1, refl), is.2 ∙ sym (append-nil last))
lines_from IsLine step MayEnd last state value text (l ∷ ls, is) = (Some l, is.0, is.1, is.2, (ls, is.3), is.4)

-- one more line was read, or the last one
pub after_line : {S L : Type 0} {Is : S → List ℕ → Type 0} {Behind : S → List ℕ → Type 0} {bytes : List ℕ} (IsLine : S → L → List ℕ → Type 0) (step : S → L → S) (MayEnd : S → Type 0) (last : List ℕ) (state : S)
    {rest : List ℕ} (line : Option L) {left : List ℕ} → After Is Behind bytes (Lines IsLine step MayEnd last state) rest → Takes (LineOrLast IsLine MayEnd last state) Anything rest line left
    → After Is Behind bytes (GoesOn IsLine step MayEnd last state line) left
after_line IsLine step MayEnd last state line h t =
    after_then (LineOrLast IsLine MayEnd last state) Anything (GoesOn IsLine step MayEnd last state)
    (after_same (Then (LineOrLast IsLine MayEnd last state) (GoesOn IsLine step MayEnd last state)) h (lines_to IsLine step MayEnd last state) (lines_from IsLine step MayEnd last state))
    (λ a v text behind is b. tt) t

-- no line that may come was read
pub line_broken : {S L : Type 0} {Is : S → List ℕ → Type 0} {Behind : S → List ℕ → Type 0} {bytes : List ℕ} (IsLine : S → L → List ℕ → Type 0) (step : S → L → S) (MayEnd : S → Type 0) (last : List ℕ) (state : S)
    {rest : List ℕ} {left : ℕ} → ((line : L) (text : List ℕ) → IsLine state line text → (v : S) × (more : List ℕ) × Lines IsLine step MayEnd last (step state line) v more)
    → After Is Behind bytes (Lines IsLine step MayEnd last state) rest → Breaks (LineOrLast IsLine MayEnd last state) Anything rest left → Breaks Is Behind bytes left
line_broken {S = S} {L = L} {Behind = Behind} IsLine step MayEnd last state goes h b =
    after_breaks (after_same (Then (LineOrLast IsLine MayEnd last state) (GoesOn IsLine step MayEnd last state)) h (lines_to IsLine step MayEnd last state) (lines_from IsLine step MayEnd last state))
    (then_broken (LineOrLast IsLine MayEnd last state) Anything (GoesOn IsLine step MayEnd last state) Behind some (λ a v text behind is b. tt) b)
  where
    some : (a : Option L) (text : List ℕ) → LineOrLast IsLine MayEnd last state a text → (v : S) × (more : List ℕ) × GoesOn IsLine step MayEnd last state a v more
    some None text is = (state, [], (refl, refl))
    some (Some l) text is = goes l text is
