-- The place of a whole text, and where the readers of fields leave their forms.
use Rattle.std.proofs.Common.{◌≡◌, ℕ, ◌-◌, List, [], ◌∷◌, ◌++◌, length, Result, Err, refl, arith, ap, sym, ◌∙◌, subst, append-nil}
use Rattle.std.proofs.lemmas.List.{length-append}
use Rattle.lz_base.specs.Answers.{IfFault, IsWant}
use Rattle.lz_base.specs.declared.fault.Stop.{Stop}
use Rattle.lz_base.specs.declared.rule.Rule.{Rule}
use Rattle.lz_lines.specs.declared.reading.Broken.{Broken}
use Rattle.lz_lines.specs.Fields.{IsWord}
use Rattle.lz_lines.specs.declared.unread.Unread.{Unread}
use Rattle.lz_lines.specs.declared.unread.Unread.TheVariants as unread
use Rattle.lz_lines.specs.Unread.{stop_of}
use Rattle.lz_lines.specs.Forms.{Fails, Breaks, Takes, Reads, Anything, Nothing, Done, GoAlike}
use Rattle.lz_lines.specs.Places.{NoneGoesOn, IsPlace, HasText, IsUnreadable}
use Rattle.lz_lines.proofs.Forms.{go_alike, after_byte, after_reads, breaks_now, NoneBegins}

-- a whole text is left at the place of its fault
pub place_is : {V : Type 0} {Is : V → List ℕ → Type 0} {bytes : List ℕ} {left : ℕ} → Breaks Is Nothing bytes left → IsPlace (HasText Is) bytes (length bytes - left)
place_is {V = V} {Is = Is} b = record {
  front = b.front;
  back = b.back;
  split = b.split;
  size = omega (arith, b.size, ap (λ (l : List ℕ). length l) b.split, length-append b.front b.back);
  begins = (b.more, (b.begun, b.begins));
  stuck = at b.back (λ other alike v is. b.stuck v (b.front ++ other) [] other is refl alike (sym (append-nil (b.front ++ other))));
}
  where
    at : (back : List ℕ) → ((other : List ℕ) → GoAlike back other → (v : V) → Is v (b.front ++ other) → ⊥) → NoneGoesOn (HasText Is) b.front back
    at [] none = tt
    at (c ∷ cs) none = λ more is. none (c ∷ more) (more, refl) is.0 is.1

-- and no text is the bytes
pub none_is : {V : Type 0} {Is : V → List ℕ → Type 0} {bytes : List ℕ} {left : ℕ} → Breaks Is Nothing bytes left → (v : V) → Is v bytes → ⊥
none_is {bytes = bytes} b v is = b.stuck v bytes [] b.back is refl (go_alike b.back) (sym b.split ∙ sym (append-nil bytes))

-- the fault of a whole text
pub unreadable : {V : Type 0} {Is : V → List ℕ → Type 0} {bytes : List ℕ} {left : ℕ} (rule : Rule) → Breaks Is Nothing bytes left → IsUnreadable Is rule bytes (record { rule = rule; at = length bytes - left })
unreadable rule b = record { broken = refl; place = place_is b; none = none_is b }

-- a whole text is read
pub whole_is : {V : Type 0} {Is : V → List ℕ → Type 0} {bytes : List ℕ} {v : V} → Takes Is Nothing bytes v [] → Is v bytes
whole_is {Is = Is} {v = v} t = subst (λ l. Is v l) (sym (t.split ∙ append-nil t.front)) t.is

pub whole_only : {V : Type 0} {Is : V → List ℕ → Type 0} {bytes : List ℕ} {v : V} → Takes Is Nothing bytes v [] → (u : V) → Is u bytes → v ≡ u
whole_only {bytes = bytes} t u is = sym (t.only u bytes [] [] is refl refl (sym t.split ∙ sym (append-nil bytes))).0

-- bytes behind the end of a whole text
pub end_breaks : {V : Type 0} (v : V) (bytes : List ℕ) → (bytes ≡ [] → ⊥) → Breaks (Done v) Nothing bytes (length bytes)
end_breaks v bytes some = record { front = []; back = bytes; split = refl; size = refl; begun = v; more = []; begins = (refl, refl); stuck = λ u text behind other is nothing alike e. at bytes other some alike (e ∙ ap (λ l. l ++ behind) is.1 ∙ nothing) }
  where
    at : (bytes other : List ℕ) → (bytes ≡ [] → ⊥) → GoAlike bytes other → other ≡ [] → ⊥
    at [] other some alike e = some refl
    at (b ∷ bs) other some alike e = cc (e, alike.1)

-- a word is read from its first letter on
pub word_now : (word bytes : List ℕ) → word ≡ [] → Takes (IsWord word) Anything bytes tt bytes
word_now word bytes none = record { front = []; is = sym none; split = refl; only = λ u text behind other is b alike e. (refl, e ∙ ap (λ l. l ++ behind) (is ∙ none)) }

pub word_breaks : (word letters bytes : List ℕ) (letter : ℕ) → word ≡ letter ∷ letters → ((rest : List ℕ) → bytes ≡ letter ∷ rest → ⊥) → Breaks (IsWord word) Anything bytes (length bytes)
word_breaks word letters bytes letter w other = breaks_now (IsWord word) Anything bytes tt word refl (λ v is. cc (is, w)) (at bytes other)
  where
    at : (bytes : List ℕ) → ((rest : List ℕ) → bytes ≡ letter ∷ rest → ⊥) → NoneBegins (IsWord word) bytes
    at [] other = tt
    at (b ∷ bs) other = λ v more is. let e : b ∷ more ≡ letter ∷ letters = is ∙ w in other bs (cc)

pub word_further : {X : Type 0} (after : X → List ℕ) (word letters bytes rest : List ℕ) (letter : ℕ) (result : Result X Broken) → word ≡ letter ∷ letters → bytes ≡ letter ∷ rest
    → Reads (IsWord letters) Anything (λ x. tt) after rest result → Reads (IsWord word) Anything (λ x. tt) after bytes result
word_further after word letters bytes rest letter result w e r =
    after_reads (λ x. tt) after result
    (after_byte (IsWord word) (IsWord letters) Anything letter bytes rest e (λ v is. cc (is, w)) (λ v text is. ap (λ l. letter ∷ l) is ∙ sym w) (λ v text is. let same : letter ∷ text ≡ letter ∷ letters = is ∙ w in cc)) r

-- a field is left at its blank
pub blank_breaks : {V : Type 0} (Is Behind : V → List ℕ → Type 0) (bytes : List ℕ) (v : V) (text : List ℕ) → Is v text → ((v : V) (text : List ℕ) → Is v text → (more : List ℕ) × (text ≡ 32 ∷ more))
    → ((rest : List ℕ) → bytes ≡ 32 ∷ rest → ⊥) → Breaks Is Behind bytes (length bytes)
blank_breaks Is Behind bytes v text is starts other = breaks_now Is Behind bytes v text is (λ u none. let s = starts u [] none in cc (s.1)) (at bytes other)
  where
    at : (bytes : List ℕ) → ((rest : List ℕ) → bytes ≡ 32 ∷ rest → ⊥) → NoneBegins Is bytes
    at [] other = tt
    at (b ∷ bs) other = λ u more is. let s = starts u (b ∷ more) is in other bs (cc (s.1))

-- the fault of a whole text that was not read
pub unread_is : {V : Type 0} (X : Type 0) (Is : V → List ℕ → Type 0) (rule : Rule) (bytes : List ℕ) (e : Unread) (stop : Stop) → stop ≡ stop_of (length bytes) rule e → Fails Is Nothing bytes e → IfFault {X = X} (Err stop) (IsUnreadable Is rule bytes)
unread_is X Is rule bytes (unread.Broken e) stop is b = rw is (unreadable rule b)
unread_is X Is rule bytes unread.OutOfMemory stop is b = rw is tt

-- where a text was not read, it has a value only if memory was wanted
pub unread_only : {V : Type 0} (Is : V → List ℕ → Type 0) (rule : Rule) (bytes : List ℕ) (e : Unread) (stop : Stop) → stop ≡ stop_of (length bytes) rule e → Fails Is Nothing bytes e → (v : V) → Is v bytes → IsWant stop
unread_only Is rule bytes (unread.Broken e) stop is b v text = absurd (none_is b v text)
unread_only Is rule bytes unread.OutOfMemory stop is b v text = rw is tt
