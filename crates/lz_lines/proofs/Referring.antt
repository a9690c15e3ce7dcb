-- References are right exactly where no place is wrong.
use Rattle.std.proofs.Common.{◌≡◌, ◌≢◌, ℕ, ◌+◌, ◌<◌, ◌≤◌, List, [], ◌∷◌, ◌++◌, length, map, Bool, true, false, cond, refl, arith, ap, sym, subst, ◌∙◌, append_assoc, append-nil, lt-ltb, Option, None, Some}
use Rattle.std.specs.Prelude.{⊤, ◌||◌, bytes_eq, nat_lt}
use Rattle.std.specs.Option.{option_to_list}
use Rattle.std.proofs.lemmas.Bool.Decides.{nat_tests}
use Rattle.std.proofs.lemmas.Slice.Eq.{bytes_eq-Decides}
use Rattle.lz_base.specs.declared.name.Port.{Port}
use Rattle.lz_base.specs.Names.{IsNew, AreDistinct, is_among}
use Rattle.lz_lines.specs.Fields.{field, number}
use Rattle.lz_lines.specs.References.{wrong_numbers, wrong_name, wrong_inputs}
use Rattle.lz_lines.specs.Shared.{input_line}

-- each number is below
abbrev pub AllBelow : ℕ → List ℕ → Type 0
AllBelow high [] = ⊤
AllBelow high (n ∷ ns) = (n < high) × AllBelow high ns

pub empty_front : (a b : List ℕ) → a ++ b ≡ [] → (a ≡ []) × (b ≡ [])
empty_front [] b e = (refl, e)
empty_front (x ∷ a) b e = cc

pub below : (n high : ℕ) → nat_lt n high ≡ true → n < high
below n high e = grind (arith, nat_tests)

-- numbers
pub numbers_right : (high place : ℕ) (ns : List ℕ) → wrong_numbers high place ns ≡ [] → AllBelow high ns
numbers_right high place [] e = tt
numbers_right high place (n ∷ ns) e = at (nat_lt n high) refl (numbers_right high (place + length (number n)) ns) e
  where
    at : (t : Bool) → nat_lt n high ≡ t → (wrong_numbers high (place + length (number n)) ns ≡ [] → AllBelow high ns) → (cond t [] ((place + 1) ∷ []) ++ wrong_numbers high (place + length (number n)) ns) ≡ []
        → AllBelow high (n ∷ ns)
    at true t more e = (below n high t, more e)
    at false t more e = cc

pub numbers_none : (high place : ℕ) (ns : List ℕ) → AllBelow high ns → wrong_numbers high place ns ≡ []
numbers_none high place [] h = refl
numbers_none high place (n ∷ ns) h = rw (lt-ltb n high h.0) (numbers_none high (place + length (number n)) ns h.1)

-- names
new_name : (name : List ℕ) (names : List (List ℕ)) → is_among name names ≡ false → IsNew name names
new_name name [] e = tt
new_name name (other ∷ names) e = at (bytes_eq other name) refl (new_name name names) e
  where
    at : (t : Bool) → bytes_eq other name ≡ t → (is_among name names ≡ false → IsNew name names) → (t || is_among name names) ≡ false → IsNew name (other ∷ names)
    at true t more e = cc
    at false t more e = (λ same. let yes : bytes_eq other name ≡ true = (bytes_eq-Decides other name).1 (sym same) in cc, more e)

none_among : (name : List ℕ) (names : List (List ℕ)) → IsNew name names → is_among name names ≡ false
none_among name [] h = refl
none_among name (other ∷ names) h = at (bytes_eq other name) refl (none_among name names h.1)
  where
    at : (t : Bool) → bytes_eq other name ≡ t → is_among name names ≡ false → (t || is_among name names) ≡ false
    at true t more = absurd (h.0 (sym ((bytes_eq-Decides other name).0 t)))
    at false t more = more

pub name_right : (names : List (List ℕ)) (place : ℕ) (name : List ℕ) → wrong_name names place name ≡ [] → IsNew name names
name_right names place name e = at (is_among name names) refl e
  where
    at : (t : Bool) → is_among name names ≡ t → cond t (place ∷ []) [] ≡ [] → IsNew name names
    at true t e = cc
    at false t e = new_name name names t

pub name_none : (names : List (List ℕ)) (place : ℕ) (name : List ℕ) → IsNew name names → wrong_name names place name ≡ []
name_none names place name h = rw (none_among name names h) refl

new_last : (x last : List ℕ) (names : List (List ℕ)) → IsNew x names → x ≢ last → IsNew x (names ++ last ∷ [])
new_last x last [] h apart = (apart, tt)
new_last x last (other ∷ names) h apart = (h.0, new_last x last names h.1 apart)

pub distinct_last : (names : List (List ℕ)) (last : List ℕ) → AreDistinct names → IsNew last names → AreDistinct (names ++ last ∷ [])
distinct_last [] last h new = (tt, tt)
distinct_last (x ∷ names) last h new = (new_last x last names h.0 (λ e. new.0 (sym e)), distinct_last names last h.1 new.1)

-- a name among distinct ones is none of those before it
apart_from : (x name : List ℕ) (names rest : List (List ℕ)) → IsNew x (names ++ name ∷ rest) → x ≢ name
apart_from x name [] rest h = h.0
apart_from x name (other ∷ names) rest h = apart_from x name names rest h.1

pub distinct_new : (names rest : List (List ℕ)) (name : List ℕ) → AreDistinct (names ++ name ∷ rest) → IsNew name names
distinct_new [] rest name h = tt
distinct_new (other ∷ names) rest name h = (λ e. apart_from other name names rest h.0 (sym e), distinct_new names rest name h.1)

pub inputs_right : (names : List (List ℕ)) (place : ℕ) (ps : List Port) → AreDistinct names → wrong_inputs names place ps ≡ [] → AreDistinct (names ++ map (λ p. p.name) ps)
inputs_right names place [] h e = subst AreDistinct (sym (append-nil names)) h
inputs_right names place (p ∷ ps) h e =
    let parts = empty_front (wrong_name names (place + 6) p.name) _ e in
    subst AreDistinct (append_assoc names (p.name ∷ []) (map (λ p. p.name) ps))
    (inputs_right (names ++ p.name ∷ []) (place + length (input_line p)) ps (distinct_last names p.name h (name_right names (place + 6) p.name parts.0)) parts.1)

pub inputs_none : (names : List (List ℕ)) (place : ℕ) (ps : List Port) (rest : List (List ℕ)) → AreDistinct (names ++ (map (λ p. p.name) ps ++ rest)) → wrong_inputs names place ps ≡ []
inputs_none names place [] rest h = refl
inputs_none names place (p ∷ ps) rest h =
    let more : List (List ℕ) = map (λ (q : Port). q.name) ps ++ rest in
    ap (λ l. l ++ wrong_inputs (names ++ p.name ∷ []) (place + length (input_line p)) ps) (name_none names (place + 6) p.name (distinct_new names more p.name h))
    ∙ inputs_none (names ++ p.name ∷ []) (place + length (input_line p)) ps rest (subst AreDistinct (sym (append_assoc names (p.name ∷ []) more)) h)

pub clock_distinct : (clock : Option (List ℕ)) → AreDistinct (option_to_list clock)
clock_distinct None = tt
clock_distinct (Some c) = (tt, tt)
