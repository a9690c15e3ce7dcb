-- What a form is, and what a reader of a form answers: which bytes spell which value, and what may stand behind them.
use Rattle.std.specs.Prelude.{◌≡◌, ◌⊎◌, ℕ, List, [], ◌∷◌, ◌++◌, length, ◌<◌, Option, None, Some, Result, Ok, Err, ⊤}
use Rattle.lz_lines.specs.declared.reading.Broken.{Broken}
use Rattle.lz_lines.specs.declared.unread.Unread.{Unread}
use Rattle.lz_lines.specs.declared.unread.Unread.TheVariants as unread

-- both go on with the same byte, or both have ended
abbrev pub GoAlike : List ℕ → List ℕ → Type 0
GoAlike [] other = other ≡ []
GoAlike (b ∷ bs) other = (more : List ℕ) × (other ≡ b ∷ more)

-- This value was taken from the front of the bytes; and where bytes go on alike, up to the first byte behind it, no other
-- could be taken.
pub record Takes {V : Type 0} (Is : V → List ℕ → Type 0) (Behind : V → List ℕ → Type 0) (bytes : List ℕ) (value : V) (rest : List ℕ) : Type 0 where
  pub front : List ℕ
  pub is : Is value front
  pub split : bytes ≡ front ++ rest
  pub only : (u : V) (text behind other : List ℕ) → Is u text → Behind u behind → GoAlike rest other → front ++ other ≡ text ++ behind → (u ≡ value) × (other ≡ behind)

-- So many bytes are left behind the longest front with which some text of the form begins, and no text of the form stands
-- at the front of bytes that go on alike up to the next one.
pub record Breaks {V : Type 0} (Is : V → List ℕ → Type 0) (Behind : V → List ℕ → Type 0) (bytes : List ℕ) (left : ℕ) : Type 0 where
  pub front : List ℕ
  pub back : List ℕ
  pub split : bytes ≡ front ++ back
  pub size : left ≡ length back
  pub begun : V
  pub more : List ℕ
  pub begins : Is begun (front ++ more)
  pub stuck : (u : V) (text behind other : List ℕ) → Is u text → Behind u behind → GoAlike back other → front ++ other ≡ text ++ behind → ⊥

-- a reader's answer: a value with the bytes that are left, or where the bytes leave the form
abbrev pub Reads : {X V : Type 0} → (V → List ℕ → Type 0) → (V → List ℕ → Type 0) → (X → V) → (X → List ℕ) → List ℕ → Result X Broken → Type 0
Reads Is Behind value after bytes (Ok x) = Takes Is Behind bytes (value x) (after x)
Reads Is Behind value after bytes (Err e) = Breaks Is Behind bytes e.left

-- where a reader that takes memory fails: the bytes leave the form, or memory was wanted
abbrev pub Fails : {V : Type 0} → (V → List ℕ → Type 0) → (V → List ℕ → Type 0) → List ℕ → Unread → Type 0
Fails Is Behind bytes (unread.Broken e) = Breaks Is Behind bytes e.left
Fails Is Behind bytes unread.OutOfMemory = ⊤

-- the answer of such a reader
abbrev pub Obtains : {X V : Type 0} → (V → List ℕ → Type 0) → (V → List ℕ → Type 0) → (X → V) → (X → List ℕ) → List ℕ → Result X Unread → Type 0
Obtains Is Behind value after bytes (Ok x) = Takes Is Behind bytes (value x) (after x)
Obtains Is Behind value after bytes (Err e) = Fails Is Behind bytes e

-- anything may stand behind
abbrev pub Anything : {V : Type 0} → V → List ℕ → Type 0
Anything value behind = ⊤

-- the end of the line stands behind
abbrev pub IsLineEnd : List ℕ → Type 0
IsLineEnd bytes = (more : List ℕ) × (bytes ≡ 10 ∷ more)

-- a blank or the end of the line stands behind
abbrev pub IsParted : List ℕ → Type 0
IsParted bytes = ((more : List ℕ) × (bytes ≡ 32 ∷ more)) ⊎ IsLineEnd bytes

abbrev pub Parted : {V : Type 0} → V → List ℕ → Type 0
Parted value behind = IsParted behind

-- What stands behind numbers of which there are at most so many: where there could be more, the end of the line.
abbrev pub EndNumbers : ℕ → List ℕ → List ℕ → Type 0
EndNumbers high ns behind = IsParted behind × (length ns < high → IsLineEnd behind)

-- nothing stands behind
abbrev pub Nothing : {V : Type 0} → V → List ℕ → Type 0
Nothing value behind = behind ≡ []

-- one form behind another, which may depend on the value of the first
abbrev pub Then : {A V : Type 0} → (A → List ℕ → Type 0) → (A → V → List ℕ → Type 0) → V → List ℕ → Type 0
Then First Second value text = (a : _) × (front : List ℕ) × (back : List ℕ) × First a front × Second a value back × (text ≡ front ++ back)

-- no more bytes, where the value is known
abbrev pub Done : {V : Type 0} → V → V → List ℕ → Type 0
Done known value text = (value ≡ known) × (text ≡ [])

-- the end of a line, where the value is known
abbrev pub Ended : {V : Type 0} → V → V → List ℕ → Type 0
Ended known value text = (value ≡ known) × (text ≡ 10 ∷ [])

-- one of two forms
abbrev pub Either : {V : Type 0} → (V → List ℕ → Type 0) → (V → List ℕ → Type 0) → V → List ℕ → Type 0
Either One Other value text = One value text ⊎ Other value text

-- Lines up to the last one. A line may stand only in some states, and leads to another; the last line is `end`, which may
-- stand only in some states too. The value is the last state.
abbrev pub AreLines : {S L : Type 0} → (S → L → List ℕ → Type 0) → (S → L → S) → (S → Type 0) → List ℕ → S → List L → S → List ℕ → Type 0
AreLines IsLine step MayEnd last state [] value text = MayEnd state × (value ≡ state) × (text ≡ last)
AreLines IsLine step MayEnd last state (l ∷ ls) value text =
    (front : List ℕ) × (back : List ℕ) × IsLine state l front × AreLines IsLine step MayEnd last (step state l) ls value back × (text ≡ front ++ back)

abbrev pub Lines : {S L : Type 0} → (S → L → List ℕ → Type 0) → (S → L → S) → (S → Type 0) → List ℕ → S → S → List ℕ → Type 0
Lines IsLine step MayEnd last state value text = (lines : _) × AreLines IsLine step MayEnd last state lines value text

-- one more line, or the last one
abbrev pub LineOrLast : {S L : Type 0} → (S → L → List ℕ → Type 0) → (S → Type 0) → List ℕ → S → Option L → List ℕ → Type 0
LineOrLast IsLine MayEnd last state None text = MayEnd state × (text ≡ last)
LineOrLast IsLine MayEnd last state (Some l) text = IsLine state l text
