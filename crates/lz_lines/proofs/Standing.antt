-- What can stand behind fields, and how it begins.
use Rattle.std.proofs.Common.{◌≡◌, inl, inr, ℕ, zero, suc, ◌≤◌, ◌^◌, ◌-◌, List, [], ◌∷◌, ◌++◌, length, flat_map, Result, Err, refl, arith, ap, sym, subst, ◌∙◌}
use Rattle.std.specs.Fmt.{decimal}
use Rattle.std.specs.Result.{IsErrAnd}
use Rattle.std.proofs.lemmas.Result.{err_from_is_err_and}
use Rattle.std.proofs.lemmas.List.Concat.{flat_map-cons}
use Rattle.lz_lines.specs.declared.reading.Broken.{Broken}
use Rattle.lz_lines.specs.declared.unread.Unread.{Unread}
use Rattle.lz_lines.specs.declared.unread.Unread.TheVariants as unread
use Rattle.lz_lines.specs.Fields.{AllUpTo, AreNumbers, IsNameField, IsNumber, field, greatest, number}
use Rattle.lz_lines.specs.Forms.{Breaks, Ended, IsLineEnd, IsParted, Obtains, Then}

-- something can stand there
abbrev pub Some_ : {V : Type 0} → (V → List ℕ → Type 0) → Type 0
Some_ {V} Is = (v : V) × (text : List ℕ) × Is v text

pub some_then : {A V : Type 0} (First : A → List ℕ → Type 0) (Second : A → V → List ℕ → Type 0) (a : A) (text : List ℕ) → First a text → Some_ (Second a) → Some_ (Then First Second)
some_then First Second a text is rest = (rest.0, text ++ rest.1, (a, text, rest.1, is, rest.2, refl))

pub some_ended : {V : Type 0} (known : V) → Some_ (Ended known)
some_ended known = (known, 10 ∷ [], (refl, refl))

-- a line ends
pub ended_line : {V : Type 0} (known v : V) (text behind : List ℕ) → Ended known v text → IsLineEnd (text ++ behind)
ended_line known v text behind is = (behind, ap (λ t. t ++ behind) is.1)

pub ended_parted : {V : Type 0} (known v : V) (text behind : List ℕ) → Ended known v text → IsParted (text ++ behind)
ended_parted known v text behind is = inr (ended_line known v text behind is)

-- a field has its blank
pub field_parted : {A V : Type 0} (First : A → List ℕ → Type 0) (Second : A → V → List ℕ → Type 0) → ((a : A) (text : List ℕ) → First a text → (more : List ℕ) × (text ≡ 32 ∷ more))
    → (v : V) (text behind : List ℕ) → Then First Second v text → IsParted (text ++ behind)
field_parted First Second blank v text behind (a, front, back, is, more, e) =
    let b = blank a front is in
    inl ((b.0 ++ back) ++ behind, ap (λ t. t ++ behind) (e ∙ ap (λ t. t ++ back) b.1))

pub number_parted : {V : Type 0} (low high : ℕ) (Second : ℕ → V → List ℕ → Type 0) (v : V) (text behind : List ℕ) → Then (IsNumber low high) Second v text → IsParted (text ++ behind)
number_parted low high Second = field_parted (IsNumber low high) Second (λ n text is. (decimal n, is.2))

-- numbers, or what stands behind them
pub numbers_parted : {V : Type 0} (low high : ℕ) (Second : List ℕ → V → List ℕ → Type 0) → ((ns : List ℕ) (v : V) (text behind : List ℕ) → Second ns v text → IsParted (text ++ behind))
    → (v : V) (text behind : List ℕ) → Then (AreNumbers low high greatest) Second v text → IsParted (text ++ behind)
numbers_parted low high Second parted v text behind ([], front, back, is, more, e) = subst (λ t. IsParted (t ++ behind)) (sym (e ∙ ap (λ t. t ++ back) is.3)) (parted [] v back behind more)
numbers_parted low high Second parted v text behind (n ∷ ns, front, back, is, more, e) =
    inl (((decimal n ++ flat_map number ns) ++ back) ++ behind, ap (λ t. t ++ behind) (e ∙ ap (λ t. t ++ back) (is.3 ∙ flat_map-cons number n ns)))

-- a name, a number, and several
abbrev pub a_name : List ℕ
a_name = 97 ∷ []

pub name_there : IsNameField a_name (field a_name)
name_there = (refl, refl)

pub zero_there : IsNumber 0 greatest 0 (number 0)
zero_there = (omega arith, omega arith, refl)

pub zeros : ℕ → List ℕ
zeros zero = []
zeros (suc k) = 0 ∷ zeros k

zeros_are : (k : ℕ) → (length (zeros k) ≡ k) × AllUpTo greatest (zeros k)
unfolding zeros
zeros_are zero = (refl, tt)
zeros_are (suc k) = let more = zeros_are k in (ap suc more.0, (omega arith, more.1))

pub zeros_there : (low high k : ℕ) → low ≤ k → k ≤ high → AreNumbers low high greatest (zeros k) (flat_map number (zeros k))
zeros_there low high k few many = let z = zeros_are k in (subst (λ n. low ≤ n) (sym z.0) few, subst (λ n. n ≤ high) (sym z.0) many, z.1, refl)

-- An exit by `?`: what a reader of a part broke off, breaks off the whole.
pub hand_broken : {V X : Type 0} (Whole Behind : V → List ℕ → Type 0) (bytes : List ℕ) (value : X → V) (after : X → List ℕ) (result : Result X Unread) (e : Broken) → IsErrAnd result (λ u. u ≡ unread.Broken e)
    → Breaks Whole Behind bytes e.left → Obtains Whole Behind value after bytes result
hand_broken Whole Behind bytes value after result e is b = let p = err_from_is_err_and result is in rw (p.1 ∙ ap Err p.2) b

pub hand_on : {A V X Y : Type 0} (Is Ends : A → List ℕ → Type 0) (Whole Behind : V → List ℕ → Type 0) (rest bytes : List ℕ) (seen : Y → A) (left : Y → List ℕ) (value : X → V) (after : X → List ℕ) (result : Result X Unread)
    (part : Result Y Unread) (read : Unread) → IsErrAnd result (λ u. u ≡ read) → part ≡ Err read → Obtains Is Ends seen left rest part → ((l : ℕ) → Breaks Is Ends rest l → Breaks Whole Behind bytes l)
    → Obtains Whole Behind value after bytes result
hand_on Is Ends Whole Behind rest bytes seen left value after result part (unread.Broken e) is was o on =
    hand_broken Whole Behind bytes value after result e is (on e.left (subst (λ r. Obtains Is Ends seen left rest r) was o))
hand_on Is Ends Whole Behind rest bytes seen left value after result part unread.OutOfMemory is was o on = let p = err_from_is_err_and result is in rw (p.1 ∙ ap Err p.2) tt
