-- A loop of readings reads what stands many times.
use Rattle.std.proofs.Common.{◌≡◌, ◌<◌, ◌≤◌, ℕ, zero, suc, Bool, true, false, ltb, ◌||◌, List, [], ◌∷◌, ◌++◌, length, Result, Ok, Err, refl, sym, ap, subst, ◌∙◌, append_assoc, inl, inr, arith, length-append}
use Rattle.std.proofs.lemmas.Bool.{lt-ltb, ltb-true}
use Rattle.std.proofs.lemmas.List.{append-nil}
use Rattle.v_syntax.specs.declared.token.Token.{Token}
use Rattle.v_syntax.specs.declared.token.Mark.TheVariants as m
use Rattle.v_syntax.specs.Rule as r
use Rattle.v_syntax.specs.Rule.{Rule, many, listed, mark, several}
use Rattle.v_parser.specs.Reading.{Reader, then_read, shrinking, next, next_in, repeat, repeated, is_comma, more_at, listed_at}
use Rattle.v_parser.proofs.Exact.{SameNext, Kept, Stopped, Reads, reads_bind, reads_then, reads_same, ok_value, ok_rest, bind_ok, bind_err, chosen, same_behind, next_same, none, Begins, next_or}
use Rattle.v_parser.proofs.Single.{reads_mark, mark_here}

-- these, and behind them what P derives many times
abbrev pub after_these : {A : Type 0} → Rule A → List A → Rule (List A)
after_these {A = A} P sofar before after all = (more : List A) × (all ≡ sofar ++ more) × many P before after more

-- The loop's test tells where one more begins, and where no more can.
pub record Repeats {A : Type 0} (P : Rule A) (goes test all : ℕ → Bool) : Type 0 where
  pub begins : (before after : List Token) (a : A) → P before after a → next test before ≡ true
  pub parted : (before after : List Token) (a : A) → P before after a → next goes before ≡ false
  pub ends : (l : List Token) → next all l ≡ false → next test l ≡ false
  pub fits : (l : List Token) → next all l ≡ false → next goes l ≡ false

err_ok : {A : Type 0} (s after : List Token) (a : A) → ◌≡◌ {A = Result (A × List Token) (List Token)} (Err s) (Ok (a, after)) → ⊥
err_ok s after a e = cc

repeat_stop : {A : Type 0} (test : ℕ → Bool) (f : Reader A) (fuel : ℕ) (sofar : List A) (l : List Token) → next test l ≡ false → repeat test f fuel sofar l ≡ Ok (sofar, l)
unfolding repeat
repeat_stop test f zero sofar l is = refl
repeat_stop test f (suc fuel) sofar l is = rw is refl

repeat_turn : {A : Type 0} (test : ℕ → Bool) (f : Reader A) (fuel : ℕ) (sofar : List A) (l m : List Token) (a : A) → next test l ≡ true → f l ≡ Ok (a, m) → length m < length l
    → repeat test f (suc fuel) sofar l ≡ repeat test f fuel (sofar ++ a ∷ []) m
unfolding repeat
repeat_turn test f fuel sofar l m a goes is lt = rw (goes, is, lt-ltb (length m) (length l) lt) refl

repeat_fail : {A : Type 0} (test : ℕ → Bool) (f : Reader A) (fuel : ℕ) (sofar : List A) (l s : List Token) → next test l ≡ true → f l ≡ Err s → repeat test f (suc fuel) sofar l ≡ Err s
unfolding repeat
repeat_fail test f fuel sofar l s goes is = rw (goes, is) refl

next_some : (test : ℕ → Bool) (l : List Token) → next test l ≡ true → 0 < length l
next_some test [] is = absurd cc
next_some test (t ∷ l) is = omega arith

stopped_value : {A : Type 0} {P : Rule A} (sofar : List A) (before after : List Token) (all : List A) → ◌≡◌ {A = Result (List A × List Token) (List Token)} (Ok (sofar, before)) (Ok (all, after)) → after_these P sofar before after all
stopped_value sofar before after all e = ([], sym (ok_value sofar all before after e) ∙ sym (append-nil sofar), ok_rest sofar all before after e)

repeat_sound : {A : Type 0} {P : Rule A} {goes : ℕ → Bool} {f : Reader A} (test : ℕ → Bool) → Reads P goes 1 f → (fuel : ℕ) (sofar : List A) (before after : List Token) (all : List A)
    → repeat test f fuel sofar before ≡ Ok (all, after) → after_these P sofar before after all
unfolding repeat
repeat_sound test p zero sofar before after all e = stopped_value sofar before after all e
repeat_sound {A = A} {P = P} {f = f} test p (suc fuel) sofar before after all e =
    elim (chosen (next test before) (then_read (f before) (shrinking before (λ a. repeat test f fuel (sofar ++ a ∷ [])))) (Ok (sofar, before)) (Ok (all, after)) e) [
      | inr x ↦ stopped_value sofar before after all x.1
      | inl x ↦
          let b = bind_ok (f before) (shrinking before (λ a. repeat test f fuel (sofar ++ a ∷ []))) (Err []) all after x.1 in
          elim (chosen (ltb (length b.1) (length before)) (repeat test f fuel (sofar ++ b.0 ∷ []) b.1) (Err b.1) (Ok (all, after)) b.3) [
            | inl y ↦
                let rest = repeat_sound test p fuel (sofar ++ b.0 ∷ []) b.1 after all y.1 in
                (b.0 ∷ rest.0, rest.1 ∙ append_assoc sofar (b.0 ∷ []) rest.0, (b.1, p.sound before b.1 b.0 b.2, rest.2))
            | inr y ↦ absurd (err_ok b.1 after all y.1)
          ]
    ]

shorter : {A : Type 0} (f : Reader A) (before m : List Token) (a : A) → Kept 1 f before m a → length m < length before
shorter f before m a k = omega (arith, k.long, ap length k.split, length-append k.front m)

pub behind_one : {A : Type 0} {P : Rule A} {goes test all : ℕ → Bool} → Repeats P goes test all → (more : List A) (l after : List Token) → many P l after more → next all after ≡ false → next goes l ≡ false
behind_one {goes = goes} loop [] l after h fin = ap (next goes) h ∙ loop.fits after fin
behind_one loop (b ∷ more) l after h fin = loop.parted l h.0 b h.1

repeat_whole : {A : Type 0} {P : Rule A} {goes test all : ℕ → Bool} {f : Reader A} → Reads P goes 1 f → Repeats P goes test all → (more : List A) (fuel : ℕ) (sofar : List A) (before after : List Token)
    → many P before after more → next all after ≡ false → length before ≤ fuel → repeat test f fuel sofar before ≡ Ok (sofar ++ more, after)
repeat_whole {test = test} {f = f} p loop [] fuel sofar before after h fin le =
    repeat_stop test f fuel sofar before (ap (next test) h ∙ loop.ends after fin) ∙ ap (λ l. Ok (sofar, l)) h ∙ ap (λ xs. Ok (xs, after)) (sym (append-nil sofar))
repeat_whole {test = test} {f = f} p loop (a ∷ more) zero sofar before after h fin le =
    let some = next_some test before (loop.begins before h.0 a h.1) in absurd (omega arith)
repeat_whole {test = test} {f = f} p loop (a ∷ more) (suc fuel) sofar before after h fin le =
    let is = p.whole before h.0 a h.1 (behind_one loop more h.0 after h.2 fin) in
    let lt = shorter f before h.0 a (p.kept before h.0 a is) in
    repeat_turn test f fuel sofar before h.0 a (loop.begins before h.0 a h.1) is lt
    ∙ repeat_whole p loop more fuel (sofar ++ a ∷ []) h.0 after h.2 fin (omega arith)
    ∙ ap (λ xs. Ok (xs, after)) (append_assoc sofar (a ∷ []) more)

-- what the loop gave it gives again, with any fuel that suffices
record KeptMany {A : Type 0} (test : ℕ → Bool) (f : Reader A) (sofar : List A) (before after : List Token) (all : List A) : Type 0 where
  front : List Token
  split : before ≡ front ++ after
  again : (other : List Token) → SameNext after other → (fuel : ℕ) → length (front ++ other) ≤ fuel → repeat test f fuel sofar (front ++ other) ≡ Ok (all, other)

record StoppedMany {A : Type 0} (test : ℕ → Bool) (f : Reader A) (sofar : List A) (before at : List Token) : Type 0 where
  front : List Token
  split : before ≡ front ++ at
  again : (other : List Token) → SameNext at other → (fuel : ℕ) → length (front ++ other) ≤ fuel → repeat test f fuel sofar (front ++ other) ≡ Err other

stop_kept : {A : Type 0} (test : ℕ → Bool) (f : Reader A) (sofar : List A) (before after : List Token) (all : List A) → next test before ≡ false
    → ◌≡◌ {A = Result (List A × List Token) (List Token)} (Ok (sofar, before)) (Ok (all, after)) → KeptMany test f sofar before after all
stop_kept test f sofar before after all stops e = record {
  front = [];
  split = ok_rest sofar all before after e;
  again = λ other same fuel le.
      repeat_stop test f fuel sofar other (sym (next_same test after other same) ∙ ap (next test) (sym (ok_rest sofar all before after e)) ∙ stops)
      ∙ ap (λ xs. Ok (xs, other)) (ok_value sofar all before after e);
}

turn_again : {A : Type 0} (test : ℕ → Bool) (f : Reader A) (sofar : List A) (l m : List Token) (a : A) (fuel : ℕ) (out : Result (List A × List Token) (List Token)) → next test l ≡ true → f l ≡ Ok (a, m)
    → length m < length l → length l ≤ fuel → ((less : ℕ) → length m ≤ less → repeat test f less (sofar ++ a ∷ []) m ≡ out) → repeat test f fuel sofar l ≡ out
turn_again test f sofar l m a zero out goes is lt le rest = absurd (omega arith)
turn_again test f sofar l m a (suc fuel) out goes is lt le rest = repeat_turn test f fuel sofar l m a goes is lt ∙ rest fuel (omega arith)

goes_again : (test : ℕ → Bool) (front a b before : List Token) → SameNext a b → before ≡ front ++ a → next test before ≡ true → next test (front ++ b) ≡ true
goes_again test front a b before same split is = sym (next_same test (front ++ a) (front ++ b) (same_behind front a b same)) ∙ ap (next test) (sym split) ∙ is

turn_kept : {A : Type 0} (test : ℕ → Bool) (f : Reader A) (sofar : List A) (before m after : List Token) (a : A) (all : List A) → next test before ≡ true → Kept 1 f before m a
    → KeptMany test f (sofar ++ a ∷ []) m after all → KeptMany test f sofar before after all
turn_kept test f sofar before m after a all goes k rest = record {
  front = k.front ++ rest.front;
  split = k.split ∙ ap (λ l. k.front ++ l) rest.split ∙ sym (append_assoc k.front rest.front after);
  again = λ other same fuel le.
      let here : SameNext m (rest.front ++ other) = subst (λ l. SameNext l (rest.front ++ other)) (sym rest.split) (same_behind rest.front after other same) in
      let group = append_assoc k.front rest.front other in
      ap (repeat test f fuel sofar) group
      ∙ turn_again test f sofar (k.front ++ (rest.front ++ other)) (rest.front ++ other) a fuel (Ok (all, other)) (goes_again test k.front m (rest.front ++ other) before here k.split goes)
      (k.again (rest.front ++ other) here) (omega (arith, k.long, length-append k.front (rest.front ++ other))) (omega (arith, ap length group, le))
      (λ less enough. rest.again other same less enough);
}

turn_stopped : {A : Type 0} (test : ℕ → Bool) (f : Reader A) (sofar : List A) (before m at : List Token) (a : A) → next test before ≡ true → Kept 1 f before m a
    → StoppedMany test f (sofar ++ a ∷ []) m at → StoppedMany test f sofar before at
turn_stopped test f sofar before m at a goes k rest = record {
  front = k.front ++ rest.front;
  split = k.split ∙ ap (λ l. k.front ++ l) rest.split ∙ sym (append_assoc k.front rest.front at);
  again = λ other same fuel le.
      let here : SameNext m (rest.front ++ other) = subst (λ l. SameNext l (rest.front ++ other)) (sym rest.split) (same_behind rest.front at other same) in
      let group = append_assoc k.front rest.front other in
      ap (repeat test f fuel sofar) group
      ∙ turn_again test f sofar (k.front ++ (rest.front ++ other)) (rest.front ++ other) a fuel (Err other) (goes_again test k.front m (rest.front ++ other) before here k.split goes)
      (k.again (rest.front ++ other) here) (omega (arith, k.long, length-append k.front (rest.front ++ other))) (omega (arith, ap length group, le))
      (λ less enough. rest.again other same less enough);
}

fail_again : {A : Type 0} (test : ℕ → Bool) (f : Reader A) (fuel : ℕ) (sofar : List A) (l s : List Token) → next test l ≡ true → f l ≡ Err s → length l ≤ fuel → repeat test f fuel sofar l ≡ Err s
fail_again test f zero sofar l s goes is le = let some = next_some test l goes in absurd (omega arith)
fail_again test f (suc fuel) sofar l s goes is le = repeat_fail test f fuel sofar l s goes is

fail_stopped : {A : Type 0} (test : ℕ → Bool) (f : Reader A) (sofar : List A) (before at : List Token) → next test before ≡ true → Stopped f before at → StoppedMany test f sofar before at
fail_stopped test f sofar before at goes k = record {
  front = k.front;
  split = k.split;
  again = λ other same fuel le. fail_again test f fuel sofar (k.front ++ other) other (goes_again test k.front at other before same k.split goes) (k.again other same) le;
}

empty_stops : (test : ℕ → Bool) (l : List Token) → length l ≤ 0 → next test l ≡ false
empty_stops test [] le = refl
empty_stops test (t ∷ l) le = absurd (omega arith)

repeat_kept : {A : Type 0} {P : Rule A} {goes : ℕ → Bool} {f : Reader A} (test : ℕ → Bool) → Reads P goes 1 f → (fuel : ℕ) (sofar : List A) (before after : List Token) (all : List A)
    → length before ≤ fuel → repeat test f fuel sofar before ≡ Ok (all, after) → KeptMany test f sofar before after all
unfolding repeat
repeat_kept {f = f} test p zero sofar before after all le e = stop_kept test f sofar before after all (empty_stops test before le) e
repeat_kept {A = A} {f = f} test p (suc fuel) sofar before after all le e =
    elim (chosen (next test before) (then_read (f before) (shrinking before (λ a. repeat test f fuel (sofar ++ a ∷ [])))) (Ok (sofar, before)) (Ok (all, after)) e) [
      | inr x ↦ stop_kept test f sofar before after all x.0 x.1
      | inl x ↦
          let b = bind_ok (f before) (shrinking before (λ a. repeat test f fuel (sofar ++ a ∷ []))) (Err []) all after x.1 in
          elim (chosen (ltb (length b.1) (length before)) (repeat test f fuel (sofar ++ b.0 ∷ []) b.1) (Err b.1) (Ok (all, after)) b.3) [
            | inl y ↦
                let lt = ltb-true (length b.1) (length before) y.0 in
                turn_kept test f sofar before b.1 after b.0 all x.0 (p.kept before b.1 b.0 b.2) (repeat_kept test p fuel (sofar ++ b.0 ∷ []) b.1 after all (omega arith) y.1)
            | inr y ↦ absurd (err_ok b.1 after all y.1)
          ]
    ]

not_both : (b : Bool) → b ≡ true → b ≡ false → ⊥
not_both true p q = cc
not_both false p q = cc

ok_err : {A : Type 0} (s after : List Token) (a : A) → ◌≡◌ {A = Result (A × List Token) (List Token)} (Ok (a, after)) (Err s) → ⊥
ok_err s after a e = cc

repeat_stopped : {A : Type 0} {P : Rule A} {goes : ℕ → Bool} {f : Reader A} (test : ℕ → Bool) → Reads P goes 1 f → (fuel : ℕ) (sofar : List A) (before at : List Token)
    → length before ≤ fuel → repeat test f fuel sofar before ≡ Err at → StoppedMany test f sofar before at
unfolding repeat
repeat_stopped test p zero sofar before at le e = absurd (ok_err at before sofar e)
repeat_stopped {A = A} {f = f} test p (suc fuel) sofar before at le e =
    elim (chosen (next test before) (then_read (f before) (shrinking before (λ a. repeat test f fuel (sofar ++ a ∷ [])))) (Ok (sofar, before)) (Err at) e) [
      | inr x ↦ absurd (ok_err at before sofar x.1)
      | inl x ↦ elim (bind_err (f before) (shrinking before (λ a. repeat test f fuel (sofar ++ a ∷ []))) at x.1) [
        | inl stops ↦ fail_stopped test f sofar before at x.0 (p.stopped before at stops)
        | inr b ↦
            elim (chosen (ltb (length b.1) (length before)) (repeat test f fuel (sofar ++ b.0 ∷ []) b.1) (Err b.1) (Err at) b.3) [
              | inl y ↦
                  let lt = ltb-true (length b.1) (length before) y.0 in
                  turn_stopped test f sofar before b.1 at b.0 x.0 (p.kept before b.1 b.0 b.2) (repeat_stopped test p fuel (sofar ++ b.0 ∷ []) b.1 at (omega arith) y.1)
              | inr y ↦ absurd (not_both (ltb (length b.1) (length before)) (lt-ltb (length b.1) (length before) (shorter f before b.1 b.0 (p.kept before b.1 b.0 b.2))) y.0)
            ]
      ]
    ]

pub reads_after : {A : Type 0} {P : Rule A} {goes test all : ℕ → Bool} {f : Reader A} → Reads P goes 1 f → Repeats P goes test all → (sofar : List A) → Reads (after_these P sofar) all 0 (repeated test f sofar)
unfolding repeated
reads_after {test = test} {f = f} p loop sofar = record {
  sound = λ before after all e. repeat_sound test p (length before) sofar before after all e;
  whole = λ before after all h fin. repeat_whole p loop h.0 (length before) sofar before after h.2 fin (omega arith) ∙ ap (λ xs. Ok (xs, after)) (sym h.1);
  kept = λ before after all e.
      let k = repeat_kept test p (length before) sofar before after all (omega arith) e in
      record { front = k.front; split = k.split; long = omega arith; again = λ other same. k.again other same (length (k.front ++ other)) (omega arith) };
  stopped = λ before at e.
      let k = repeat_stopped test p (length before) sofar before at (omega arith) e in
      record { front = k.front; split = k.split; again = λ other same. k.again other same (length (k.front ++ other)) (omega arith) };
}

pub reads_many : {A : Type 0} {P : Rule A} {goes test all : ℕ → Bool} {f : Reader A} → Reads P goes 1 f → Repeats P goes test all → Reads (many P) all 0 (repeated test f [])
reads_many {P = P} p loop = reads_same (reads_after p loop [])
    (λ before after all h. subst (λ xs. many P before after xs) (sym h.1) h.2)
    (λ before after all h. (all, refl, h))

-- ---- lists with commas

begins_comma : {A : Type 0} (P : Rule A) (before after : List Token) (a : A) → (r.◌>>◌ (mark m.Comma) P) before after a → next_in (8 ∷ []) before ≡ true
begins_comma P before after a h = mark_here m.Comma before h.0 h.1 h.2

abbrev pub list_goes : (ℕ → Bool) → ℕ → Bool
list_goes goes x = is_comma x || goes x

comma_loop : {A : Type 0} {P : Rule A} (goes : ℕ → Bool) → goes 8 ≡ false → Repeats (r.◌>>◌ (mark m.Comma) P) goes is_comma (list_goes goes)
comma_loop {P = P} goes apart_is = record {
  begins = λ before after a h. begins_comma P before after a h;
  parted = λ before after a h. ap (next goes) h.2 ∙ apart_is;
  ends = λ l fin. (next_or is_comma goes l fin).0;
  fits = λ l fin. (next_or is_comma goes l fin).1;
}

pub reads_more : {A : Type 0} {P : Rule A} {f : Reader A} (goes : ℕ → Bool) → goes 8 ≡ false → Reads P goes 1 f → (sofar : List A)
    → Reads (after_these (r.◌>>◌ (mark m.Comma) P) sofar) (list_goes goes) 0 (more_at f sofar)
reads_more goes apart_is p sofar = reads_after (reads_then (reads_mark none m.Comma) (λ _. p)) (comma_loop goes apart_is) sofar

pub reads_listed : {A : Type 0} {P : Rule A} {f : Reader A} (goes : ℕ → Bool) → goes 8 ≡ false → Reads P goes 1 f → Reads (listed P) (list_goes goes) 1 (listed_at f)
reads_listed {P = P} goes apart_is p = reads_same
    (reads_bind p (λ first. reads_more goes apart_is p (first ∷ []))
    (record { clear = λ a m after all h fin. behind_one (comma_loop {P = P} goes apart_is) h.0 m after h.2 fin }))
    (λ before after all h. (h.0, h.1, h.2, (after, h.3.0, h.3.2, (refl, h.3.1))))
    (λ before after all h. (h.0, h.1, h.2, (h.3.1, h.3.3.1, subst (λ l. many (r.◌>>◌ (mark m.Comma) P) h.0 l h.3.1) h.3.3.0 h.3.2)))

-- one more of these, or what stands behind them
pub begins_after : {A B : Type 0} {P : Rule A} {Q : List A → Rule B} (sofar : List A) (kinds : List ℕ) → Begins P kinds → ((all : List A) → Begins (Q all) kinds) → Begins (r.◌>>=◌ (after_these P sofar) Q) kinds
begins_after {P = P} {Q = Q} sofar kinds p q = record { first = λ before after b h. first_of_these h.2.0 before h.0 after h.1 b h.2.2 h.3 }
  where
    first_of_these : (more : _) (before m after : List Token) (all : _) (b : _) → many P before m more → Q all m after b → next_in kinds before ≡ true
    first_of_these [] before m after all b h hq = ap (next_in kinds) h ∙ (q all).first m after b hq
    first_of_these (a ∷ more) before m after all b h hq = p.first before h.0 a h.1
