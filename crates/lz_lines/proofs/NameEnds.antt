-- Where a name ends.
use Rattle.std.proofs.Common.{zero, suc, take, drop, inl, inr, sym, subst, length, ◌≡◌, ℕ, List, [], ◌∷◌, ◌++◌, Bool, true, false, ◌&&◌, ◌||◌, refl, arith, ap, ◌∙◌}
use Rattle.std.specs.List.{list_all}
use Rattle.std.proofs.lemmas.Bool.Decides.{nat_tests}
use Rattle.lz_base.specs.Names.{IsName, is_name, is_name_byte, is_name_start}
use Rattle.lz_lines.specs.Readers.{BeginsWithout, begins_name}
use Rattle.lz_lines.specs.Fields.{IsNameField}
use Rattle.lz_lines.specs.Forms.{Takes, Breaks, Parted, IsParted, GoAlike}
use Rattle.lz_lines.proofs.Forms.{after_byte, after_breaks, after_takes, breaks_now, NoneBegins, After}

both : (a b : Bool) → (a && b) ≡ true → (a ≡ true) × (b ≡ true)
both true true e = (refl, refl)
both true false e = cc
both false b e = cc

either : (a b : Bool) → a ≡ true → (a || b) ≡ true
either true b e = refl
either false b e = cc

both_of : (a b : Bool) → a ≡ true → b ≡ true → (a && b) ≡ true
both_of true b e f = f
both_of false b e f = cc

start_is : (b : ℕ) → is_name_start b ≡ true → is_name_byte b ≡ true
start_is b h = grind (arith, nat_tests)

-- all bytes of a name are those of a name
pub name_bytes : (name : List ℕ) → is_name name ≡ true → list_all is_name_byte name ≡ true
name_bytes [] h = cc
name_bytes (b ∷ bs) h =
    let parts = both (is_name_start b) (list_all is_name_byte bs) h in
    both_of (is_name_byte b) (list_all is_name_byte bs) (start_is b parts.0) parts.1

-- where a name begins, the bytes up to the first that no name has are one
pub name_is : (bytes : List ℕ) (n : ℕ) → begins_name bytes ≡ true → list_all is_name_byte (take n bytes) ≡ true → BeginsWithout is_name_byte (drop n bytes) → IsName (take n bytes)
name_is [] n starts all ends = cc
name_is (b ∷ bs) zero starts all ends = let e = start_is b starts in cc
name_is (b ∷ bs) (suc n) starts all ends = both_of (is_name_start b) (list_all is_name_byte (take n bs)) starts (both (is_name_byte b) (list_all is_name_byte (take n bs)) all).1

-- a list has one longest front of such bytes
pub one_front : (p : ℕ → Bool) (a b x y : List ℕ) → list_all p a ≡ true → list_all p b ≡ true → BeginsWithout p x → BeginsWithout p y → a ++ x ≡ b ++ y → (a ≡ b) × (x ≡ y)
one_front p [] [] x y all_a all_b end_x end_y e = (refl, e)
one_front p [] (d ∷ b) [] y all_a all_b end_x end_y e = cc
one_front p [] (d ∷ b) (c ∷ x) y all_a all_b end_x end_y e =
    let passes : p d ≡ true = (both (p d) (list_all p b) all_b).0 in
    let same : c ≡ d = cc in
    cc (ap p same)
one_front p (c ∷ a) [] x [] all_a all_b end_x end_y e = cc
one_front p (c ∷ a) [] x (d ∷ y) all_a all_b end_x end_y e =
    let passes : p c ≡ true = (both (p c) (list_all p a) all_a).0 in
    let same : c ≡ d = cc in
    cc (ap p same)
one_front p (c ∷ a) (d ∷ b) x y all_a all_b end_x end_y e =
    let same : c ≡ d = cc in
    let more : a ++ x ≡ b ++ y = cc in
    let rest = one_front p a b x y (both (p c) (list_all p a) all_a).1 (both (p d) (list_all p b) all_b).1 end_x end_y more in
    let front = rest.0 in
    (cc, rest.1)

-- a name, without its blank
abbrev IsNameText : List ℕ → List ℕ → Type 0
IsNameText name text = IsName name × (text ≡ name)

behind_blank : (whole rest : List ℕ) → whole ≡ 32 ∷ rest → After IsNameField Parted whole IsNameText rest
behind_blank whole rest blank = after_byte IsNameField IsNameText Parted 32 whole rest blank (λ v is. cc (is.1)) (λ v text is. (is.0, ap (λ l. 32 ∷ l) is.1)) (λ v text is. (is.0, cc (is.1)))

without : (rest other : List ℕ) → BeginsWithout is_name_byte rest → GoAlike rest other → BeginsWithout is_name_byte other
without [] other h alike = subst (BeginsWithout is_name_byte) (sym alike) tt
without (b ∷ bs) other h alike = subst (BeginsWithout is_name_byte) (sym alike.1) h

no_name_byte : (bytes : List ℕ) → IsParted bytes → BeginsWithout is_name_byte bytes
no_name_byte bytes (inl is) = subst (BeginsWithout is_name_byte) (sym is.1) refl
no_name_byte bytes (inr is) = subst (BeginsWithout is_name_byte) (sym is.1) refl

-- a name is taken up to the first byte that none has
pub name_taken : (whole bytes name rest : List ℕ) → whole ≡ 32 ∷ bytes → IsName name → bytes ≡ name ++ rest → BeginsWithout is_name_byte rest → Takes IsNameField Parted whole name rest
name_taken whole bytes name rest blank is split ends = after_takes (behind_blank whole bytes blank) (record {
  front = name;
  is = (is, refl);
  split = split;
  only = λ u text behind other named parted alike e.
      let same = one_front is_name_byte name u other behind (name_bytes name is) (name_bytes u named.0) (without rest other ends alike) (no_name_byte behind parted) (e ∙ ap (λ l. l ++ behind) named.1) in
      (sym same.0, same.1);
})

-- where no name begins behind the blank, none goes on
pub name_breaks : (whole rest : List ℕ) → whole ≡ 32 ∷ rest → begins_name rest ≡ false → Breaks IsNameField Parted whole (length rest)
name_breaks whole rest blank none = after_breaks (behind_blank whole rest blank) (breaks_now IsNameText Parted rest (97 ∷ []) (97 ∷ []) (refl, refl) some (at rest none))
  where
    some : (name : List ℕ) → IsNameText name [] → ⊥
    some name is = let e : is_name [] ≡ true = ap is_name is.1 ∙ is.0 in cc

    at : (rest : List ℕ) → begins_name rest ≡ false → NoneBegins IsNameText rest
    at [] none = tt
    at (b ∷ bs) none = λ name more is. let e : is_name (b ∷ more) ≡ true = ap is_name is.1 ∙ is.0 in let start = (both (is_name_start b) (list_all is_name_byte more) e).0 in cc
