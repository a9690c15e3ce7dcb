-- A token list derives at most one value of a production. Where the reader of the production stops, none goes on: not with any tokens
-- behind the one at which it stops, and at the end not at all.
use Rattle.std.proofs.Common.{◌≡◌, ℕ, true, false, eqb, List, [], ◌∷◌, ◌++◌, length, Result, Ok, Err, refl, sym, ap, subst, ◌∙◌, append_assoc}
use Rattle.std.specs.Prelude.{⊤}
use Rattle.std.proofs.lemmas.List.{append-nil, nil_from_length}
use Rattle.std.proofs.lemmas.Bool.{eqb-true}
use Rattle.lz_base.specs.declared.rule.Rule.TheVariants.{E3}
use Rattle.lz_base.specs.declared.fault.Fault.{Fault}
use Rattle.v_syntax.specs.declared.token.Token.{Token}
use Rattle.v_syntax.specs.Rule.{Rule, DerivesBy}
use Rattle.v_parser.specs.declared.miss.Miss.{Miss}
use Rattle.v_parser.specs.declared.miss.Miss.TheVariants as miss
use Rattle.v_parser.specs.Reading.{Reader}
use Rattle.v_parser.specs.Gives.{Fails}
use Rattle.v_parser.specs.Refusal.{IsRefusedBy, IsDead, first_place}
use Rattle.v_parser.proofs.Exact.{SameNext, Reads, none, ok_value, ok_rest}

err_not_ok : {A : Type 0} (s : List Token) (a : A) → ◌≡◌ {A = Result (A × List Token) (List Token)} (Err s) (Ok (a, [])) → ⊥
err_not_ok s a e = cc

more_not_end : {A : Type 0} (a b : A) (t : Token) (l : List Token) → ◌≡◌ {A = Result (A × List Token) (List Token)} (Ok (a, t ∷ l)) (Ok (b, [])) → ⊥
more_not_end a b t l e = let p = ok_rest a b (t ∷ l) [] e in cc

whole_of : {A : Type 0} {P : Rule A} {n : ℕ} {f : Reader A} → Reads P none n f → (tokens : List Token) (a : A) → DerivesBy P tokens a → f tokens ≡ Ok (a, [])
whole_of p tokens a h = p.whole tokens [] a h refl

pub one_value : {A : Type 0} {P : Rule A} {n : ℕ} {f : Reader A} → Reads P none n f → (tokens : List Token) (a b : A) → DerivesBy P tokens a → DerivesBy P tokens b → a ≡ b
one_value p tokens a b one other = ok_value a b [] [] (sym (whole_of p tokens a one) ∙ whole_of p tokens b other)

-- ---- the reader stops at a token, or at the end

stopped_dead : {A : Type 0} {P : Rule A} {n : ℕ} {f : Reader A} → Reads P none n f → (front at : List Token) → ((other : List Token) → SameNext at other → f (front ++ other) ≡ Err other) → IsDead P front at
stopped_dead {f = f} p front [] again = λ a h. err_not_ok [] a (sym (again [] tt) ∙ ap f (append-nil front) ∙ whole_of p front a h)
stopped_dead {f = f} p front (t ∷ l) again = λ viable.
    let more = viable.more in
    err_not_ok (t ∷ more) viable.value (sym (again (t ∷ more) refl) ∙ ap f (sym (append_assoc front (t ∷ []) more)) ∙ whole_of p ((front ++ t ∷ []) ++ more) viable.value viable.derived)

pub refused_stopped : {A : Type 0} {P : Rule A} {n : ℕ} {f : Reader A} → Reads P none n f → (tokens at : List Token) (end : ℕ) → f tokens ≡ Err at
    → IsRefusedBy P tokens end (record { rule = E3; at = first_place at end })
refused_stopped p tokens at end e =
    let s = p.stopped tokens at e in
    record {
      rule = refl;
      before = s.front;
      rest = at;
      split = s.split;
      place = refl;
      dead = stopped_dead p s.front at s.again;
      none = λ a h. err_not_ok at a (sym e ∙ whole_of p tokens a h);
    }

-- ---- a token stands behind the value

refused_at : {A : Type 0} {P : Rule A} {n : ℕ} {f : Reader A} → Reads P none n f → (tokens l : List Token) (t : Token) (a : A) (end : ℕ) → f tokens ≡ Ok (a, t ∷ l)
    → IsRefusedBy P tokens end (record { rule = E3; at = t.at })
refused_at {f = f} p tokens l t a end e =
    let s = p.kept tokens (t ∷ l) a e in
    record {
      rule = refl;
      before = s.front;
      rest = t ∷ l;
      split = s.split;
      place = refl;
      dead = λ viable.
          let more = viable.more in
          more_not_end a viable.value t more (sym (s.again (t ∷ more) refl) ∙ ap f (sym (append_assoc s.front (t ∷ []) more)) ∙ whole_of p ((s.front ++ t ∷ []) ++ more) viable.value viable.derived);
      none = λ b h. more_not_end a b t l (sym e ∙ whole_of p tokens b h);
    }

end_list : (l : List Token) → eqb (length l) 0 ≡ true → l ≡ []
end_list l e = nil_from_length l (eqb-true (length l) 0 e)

more_list : (l : List Token) → eqb (length l) 0 ≡ false → (t : Token) × (rest : List Token) × (l ≡ t ∷ rest)
more_list [] e = absurd cc
more_list (t ∷ l) e = (t, l, refl)

ends_with : {A : Type 0} (f : Reader A) (tokens rest : List Token) (a : A) → f tokens ≡ Ok (a, rest) → eqb (length rest) 0 ≡ true → f tokens ≡ Ok (a, [])
ends_with f tokens rest a e is = e ∙ ap (λ l. Ok (a, l)) (end_list rest is)

pub found_at_end : {A : Type 0} {P : Rule A} {n : ℕ} {f : Reader A} → Reads P none n f → (tokens rest : List Token) (a : A) → f tokens ≡ Ok (a, rest) → eqb (length rest) 0 ≡ true → DerivesBy P tokens a
found_at_end {f = f} p tokens rest a e is = p.sound tokens [] a (ends_with f tokens rest a e is)

pub only_at_end : {A : Type 0} {P : Rule A} {n : ℕ} {f : Reader A} → Reads P none n f → (tokens rest : List Token) (a b : A) → f tokens ≡ Ok (a, rest) → eqb (length rest) 0 ≡ true → DerivesBy P tokens b → a ≡ b
only_at_end {f = f} p tokens rest a b e is h = ok_value a b [] [] (sym (ends_with f tokens rest a e is) ∙ whole_of p tokens b h)

pub refused_behind : {A : Type 0} {P : Rule A} {n : ℕ} {f : Reader A} → Reads P none n f → (tokens rest : List Token) (a : A) (end : ℕ) (fault : Fault) → f tokens ≡ Ok (a, rest)
    → eqb (length rest) 0 ≡ false → fault ≡ record { rule = E3; at = first_place rest end } → IsRefusedBy P tokens end fault
refused_behind {P = P} p tokens rest a end fault e is placed_at_rest =
    let l = more_list rest is in
    subst (IsRefusedBy P tokens end) (sym (placed_at_rest ∙ ap (λ (x : List Token). fault_of (first_place x end)) l.2))
    (refused_at p tokens l.1 l.0 a end (e ∙ ap (λ x. Ok (a, x)) l.2))
  where
    fault_of : ℕ → Fault
    fault_of at = record { rule = E3; at = at }

pub none_behind : {A : Type 0} {P : Rule A} {n : ℕ} {f : Reader A} → Reads P none n f → (tokens rest : List Token) (a b : A) → f tokens ≡ Ok (a, rest) → eqb (length rest) 0 ≡ false → DerivesBy P tokens b → ⊥
none_behind p tokens rest a b e is h = let l = more_list rest is in more_not_end a b l.0 l.1 (ap (λ x. Ok (a, x)) (sym l.2) ∙ sym e ∙ whole_of p tokens b h)

-- ---- a reading that ended at a token

abbrev pub EndsAt : Miss → (List Token → Type 0) → Type 0
EndsAt miss.OutOfMemory P = ⊤
EndsAt (miss.At s) P = P s.now

ends_none : {A : Type 0} {P : Rule A} {n : ℕ} {f : Reader A} → Reads P none n f → (tokens : List Token) (a : A) (e : Miss) → Fails e (f tokens) → DerivesBy P tokens a → EndsAt e (λ s. ⊥)
ends_none p tokens a miss.OutOfMemory fails h = tt
ends_none p tokens a (miss.At s) fails h = err_not_ok s.now a (sym fails ∙ whole_of p tokens a h)

pub none_stopped : {A : Type 0} {P : Rule A} {n : ℕ} {f : Reader A} → Reads P none n f → (tokens : List Token) (a : A) (e why : Miss) → e ≡ why → Fails e (f tokens) → DerivesBy P tokens a → EndsAt why (λ s. ⊥)
none_stopped p tokens a e why is fails h = subst (λ x. EndsAt x (λ s. ⊥)) is (ends_none p tokens a e fails h)
