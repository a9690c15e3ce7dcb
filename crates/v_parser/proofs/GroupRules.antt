-- Lists of groups, whose names and groups are parted by commas alike: the reader looks behind each comma.
use Rattle.std.proofs.Common.{◌≡◌, ℕ, Bool, true, false, not, cond, ◌||◌, ◌&&◌, List, [], ◌∷◌, Result, Ok, Err, refl, sym, ap, subst, ◌∙◌, inl, inr, arith}
use Rattle.v_syntax.specs.declared.token.Token.{Token}
use Rattle.v_syntax.specs.declared.token.Lexeme.TheVariants as x
use Rattle.v_syntax.specs.declared.token.Mark.TheVariants as m
use Rattle.v_syntax.specs.Rule.{Rule, ◌>>=◌, ◌>>◌, ◌<|>◌, yields, mark, many, listed, several}
use Rattle.v_parser.specs.Reading as read
use Rattle.v_parser.specs.Reading.{Reader, then_read, gives, choose, mark_code, word_code, kind, next, next_in, among, mark_at, word_at, repeated, is_comma, more_at, listed_at}
use Rattle.v_parser.specs.Exprs.{identifiers, only}
use Rattle.v_parser.specs.Modules.{allow_at, goes_on, ends_here, separator_at, parted_at, names_at}
use Rattle.v_parser.proofs.Exact.{SameNext, Reads, Begins, reads_bind, reads_then, reads_yields, reads_choose, reads_same, begins_bind, none, apart, all_not, next_or, next_fewer, next_same, tail_in, in_more, chosen, ok_value, ok_rest, err_rest}
use Rattle.v_parser.proofs.Single.{reads_mark}
use Rattle.v_parser.proofs.Many.{Repeats, reads_after, behind_one}
use Rattle.v_parser.proofs.Primaries.{begins_mark}

-- ---- what stands between two names

abbrev Allow : (List Token → Bool) → Rule Bool
Allow test before after b = (before ≡ after) × (b ≡ true) × (test before ≡ true)

allow_true : (test : List Token → Bool) (l : List Token) → test l ≡ true → allow_at test l ≡ Ok (true, l)
allow_true test l is = ap (λ b. cond b (Ok (true, l)) (Err l)) is

allow_false : (test : List Token → Bool) (l : List Token) → test l ≡ false → allow_at test l ≡ Err l
allow_false test l is = ap (λ b. cond b (Ok (true, l)) (Err l)) is

no_ok : (s after : List Token) (b : Bool) → ◌≡◌ {A = Result (Bool × List Token) (List Token)} (Err s) (Ok (b, after)) → ⊥
no_ok s after b e = cc

no_err : (s after : List Token) (b : Bool) → ◌≡◌ {A = Result (Bool × List Token) (List Token)} (Ok (b, after)) (Err s) → ⊥
no_err s after b e = cc

reads_allow : (test : List Token → Bool) → ((a b : List Token) → SameNext a b → test a ≡ test b) → Reads (Allow test) none 0 (allow_at test)
reads_allow test looks = record {
  sound = λ before after b e. elim (chosen (test before) (Ok (true, before)) (Err before) (Ok (b, after)) e) [
    | inl x ↦ (ok_rest true b before after x.1, sym (ok_value true b before after x.1), x.0)
    | inr x ↦ absurd (no_ok before after b x.1)
  ];
  whole = λ before after b h fin. allow_true test before h.2 ∙ ap (λ l. Ok (true, l)) h.0 ∙ ap (λ y. Ok (y, after)) (sym h.1);
  kept = λ before after b e. elim (chosen (test before) (Ok (true, before)) (Err before) (Ok (b, after)) e) [
    | inl x ↦ record {
      front = [];
      split = ok_rest true b before after x.1;
      long = omega arith;
      again = λ other same. allow_true test other (sym (looks after other same) ∙ ap test (sym (ok_rest true b before after x.1)) ∙ x.0) ∙ ap (λ y. Ok (y, other)) (ok_value true b before after x.1);
    }
    | inr x ↦ absurd (no_ok before after b x.1)
  ];
  stopped = λ before at e. elim (chosen (test before) (Ok (true, before)) (Err before) (Err at) e) [
    | inl x ↦ absurd (no_err at before true x.1)
    | inr x ↦ let same_place = err_rest {A = Bool} before at x.1 in
        record { front = []; split = same_place; again = λ other same. allow_false test other (sym (looks at other same) ∙ ap test (sym same_place) ∙ x.0) }
  ];
}

abbrev pub Separator : List ℕ → Rule Bool
Separator words = (mark m.Comma >> Allow (goes_on words)) <|> Allow (ends_here words)

not_true : (b : Bool) → not b ≡ true → b ≡ false
not_true true e = absurd cc
not_true false e = refl

reads_separator : (words : List ℕ) → Reads (Separator words) none 0 (separator_at words)
unfolding separator_at
reads_separator words = reads_choose 0 (only m.Comma)
    (reads_then (reads_mark none m.Comma) λ _. reads_allow (goes_on words) (λ a b same. next_same (λ x. among x (60 ∷ words)) a b same))
    (reads_allow (ends_here words) (λ a b same. ap not (next_same (λ x. among x (8 ∷ 60 ∷ words)) a b same)))
    (omega arith) (omega arith) (begins_bind (begins_mark m.Comma))
    (record { clear = λ before after b h fin. next_fewer (8 ∷ []) (8 ∷ 60 ∷ words) before refl (not_true (next_in (8 ∷ 60 ∷ words) before) h.2) })

-- ---- names, each with what stands behind it

abbrev pub Named : {A : Type 0} → List ℕ → Rule A → Rule A
Named words P = P >>= λ a. Separator words >> yields a

reads_named : {A : Type 0} {P : Rule A} {goes : ℕ → Bool} {f : Reader A} (words : List ℕ) → goes 8 ≡ false → Reads P goes 1 f → Reads (Named words P) goes 1 (parted_at words f)
unfolding parted_at
reads_named {goes = goes} words comma_apart p =
    reads_bind p (λ a. reads_then (reads_separator words) λ _. reads_yields goes a)
    (record {
      clear = λ a before after b h fin. elim h.2 [
        | inl x ↦ ap (next goes) x.2 ∙ comma_apart
        | inr x ↦ ap (next goes) (x.0 ∙ h.3.0) ∙ fin
      ];
    })

abbrev pub names_goes : (ℕ → Bool) → ℕ → Bool
names_goes goes x = among x identifiers || goes x

named_loop : {A : Type 0} {P : Rule A} {goes : ℕ → Bool} (words : List ℕ) → goes 60 ≡ false → Begins P identifiers → Repeats (Named words P) goes (λ x. among x identifiers) (names_goes goes)
named_loop {goes = goes} words name_apart b = record {
  begins = λ before after a h. b.first before h.0 h.1 h.2;
  parted = λ before after a h. apart goes identifiers before (all_one (goes 60) name_apart) (b.first before h.0 h.1 h.2);
  ends = λ rest fin. (next_or (λ x. among x identifiers) goes rest fin).0;
  fits = λ rest fin. (next_or (λ x. among x identifiers) goes rest fin).1;
}
  where
    all_one : (t : Bool) → t ≡ false → (not t && true) ≡ true
    all_one true e = absurd cc
    all_one false e = refl

reads_several : {A : Type 0} {P : Rule A} {goes test all : ℕ → Bool} {f : Reader A} → Reads P goes 1 f → Repeats P goes test all → Reads (several P) all 1 (read.◌>>=◌ f λ first. repeated test f (first ∷ []))
reads_several {P = P} p loop = reads_same
    (reads_bind p (λ first. reads_after p loop (first ∷ [])) (record { clear = λ first rest after all_of h fin. behind_one loop h.0 rest after h.2 fin }))
    (λ before after all_of h. (h.0, h.1, h.2, (after, h.3.0, h.3.2, (refl, h.3.1))))
    (λ before after all_of h. (h.0, h.1, h.2, (h.3.1, h.3.3.1, subst (λ rest. many P h.0 rest h.3.1) h.3.3.0 h.3.2)))

pub reads_names : {A : Type 0} {P : Rule A} {goes : ℕ → Bool} {f : Reader A} (words : List ℕ) → goes 8 ≡ false → goes 60 ≡ false → Begins P identifiers → Reads P goes 1 f
    → Reads (several (Named words P)) (names_goes goes) 1 (names_at words f)
unfolding names_at
reads_names words comma_apart name_apart b p = reads_several (reads_named words comma_apart p) (named_loop words name_apart b)

abbrev pub groups_goes : List ℕ → (ℕ → Bool) → ℕ → Bool
groups_goes words goes x = among x words || goes x

-- groups, while one of the words stands there
pub reads_groups : {A : Type 0} {P : Rule A} {goes : ℕ → Bool} {f : Reader A} (words : List ℕ) → all_not goes words ≡ true → Begins P words → Reads P goes 1 f
    → Reads (several P) (groups_goes words goes) 1 (read.◌>>=◌ f λ first. repeated (λ x. among x words) f (first ∷ []))
reads_groups {P = P} {goes = goes} words words_apart b p = reads_several p (record {
  begins = λ before after a h. b.first before after a h;
  parted = λ before after a h. apart goes words before words_apart (b.first before after a h);
  ends = λ rest fin. (next_or (λ x. among x words) goes rest fin).0;
  fits = λ rest fin. (next_or (λ x. among x words) goes rest fin).1;
})

-- ---- the grammar's lists, with commas between

abbrev pub Between : List ℕ → List Token → List Token → Type 0
Between words before after = (b : Bool) × Separator words before after b

both_ways : (b : Bool) → b ≡ true → b ≡ false → ⊥
both_ways true p q = cc
both_ways false p q = cc

-- where the list goes on, a comma stands
is_comma_there : (words : List ℕ) (before after : List Token) → Between words before after → goes_on words after ≡ true → (at : ℕ) × mark m.Comma before after at
is_comma_there words before after (b, inl (n, at, h, (ends, is, t))) goes = (at, h ∙ ap (λ l. record { lexeme = x.Mark m.Comma; at = at } ∷ l) ends)
is_comma_there words before after (b, inr (ends, is, t)) goes =
    absurd (both_ways (goes_on words after) goes
    (ap (goes_on words) (sym ends) ∙ next_fewer (60 ∷ words) (8 ∷ 60 ∷ words) before (tail_in 8 (60 ∷ words)) (not_true (next_in (8 ∷ 60 ∷ words) before) t)))

pub tail_to : {A : Type 0} {E P : Rule A} (words : List ℕ)
    → ((before after : List Token) (a : A) → E before after a → (n : List Token) × P before n a × Between words n after)
    → ((before after : List Token) (a : A) → E before after a → goes_on words before ≡ true)
    → (xs : List A) (n k after : List Token) → Between words n k → many E k after xs → (n2 : List Token) × many (mark m.Comma >> P) n n2 xs × Between words n2 after
tail_to words convert begins [] n k after sep h = (n, refl, subst (λ l. Between words n l) h sep)
tail_to {E = E} {P = P} words convert begins (a ∷ more) n k after sep (k2, ha, rest) =
    let c = convert k k2 a ha in
    let comma = is_comma_there words n k sep (begins k k2 a ha) in
    let done = tail_to {E = E} {P = P} words convert begins more c.0 k2 after c.2 rest in
    (done.0, (c.0, (k, comma.0, comma.1, c.1), done.1), done.2)

pub tail_from : {A : Type 0} {E P : Rule A} (words : List ℕ)
    → ((before n after : List Token) (a : A) → P before n a → Between words n after → E before after a)
    → ((before after : List Token) (a : A) → P before after a → goes_on words before ≡ true)
    → (xs : List A) (n n2 after : List Token) → many (mark m.Comma >> P) n n2 xs → Between words n2 after → (k : List Token) × Between words n k × many E k after xs
tail_from words build begins [] n n2 after h sep = (after, subst (λ l. Between words l after) (sym h) sep, refl)
tail_from {E = E} {P = P} words build begins (a ∷ more) n n2 after (n3, (k, at, comma, hp), rest) sep =
    let done = tail_from {E = E} {P = P} words build begins more n3 n2 after rest sep in
    (k, (true, inl (k, at, comma, (refl, refl, begins k n3 a hp))), (done.0, build k n3 done.0 a hp done.1, done.2))

pub list_to : {A : Type 0} {E P : Rule A} (words : List ℕ)
    → ((before after : List Token) (a : A) → E before after a → (n : List Token) × P before n a × Between words n after)
    → ((before after : List Token) (a : A) → E before after a → goes_on words before ≡ true)
    → (before after : List Token) (xs : List A) → several E before after xs → (n : List Token) × listed P before n xs × Between words n after
list_to {E = E} {P = P} words convert begins before after xs (k, first, hfirst, (n2, more, hmany, (ends, is))) =
    let c = convert before k first hfirst in
    let done = tail_to {E = E} {P = P} words convert begins more c.0 k n2 c.2 hmany in
    (done.0, (c.0, first, c.1, (done.0, more, done.1, (refl, is))), subst (λ l. Between words done.0 l) ends done.2)

pub list_from : {A : Type 0} {E P : Rule A} (words : List ℕ)
    → ((before n after : List Token) (a : A) → P before n a → Between words n after → E before after a)
    → ((before after : List Token) (a : A) → P before after a → goes_on words before ≡ true)
    → (before n after : List Token) (xs : List A) → listed P before n xs → Between words n after → several E before after xs
list_from {E = E} {P = P} words build begins before n after xs (n1, first, hp, (n2, more, hmany, (ends, is))) sep =
    let done = tail_from {E = E} {P = P} words build begins more n1 n2 after hmany (subst (λ l. Between words l after) (sym ends) sep) in
    (done.0, first, build before n1 done.0 first hp done.1, (after, more, done.2, (refl, is)))

-- names

named_to : {A : Type 0} (P : Rule A) (words : List ℕ) (before after : List Token) (a : A) → Named words P before after a → (n : List Token) × P before n a × Between words n after
named_to P words before after a (n, y, h, (n2, b, sep, (ends, is))) = (n, subst (λ z. P before n z) (sym is) h, (b, subst (λ l. Separator words n l b) ends sep))

named_from : {A : Type 0} (P : Rule A) (words : List ℕ) (before n after : List Token) (a : A) → P before n a → Between words n after → Named words P before after a
named_from P words before n after a h (b, sep) = (n, a, h, (after, b, sep, (refl, refl)))

first_name : {A : Type 0} {P : Rule A} (words : List ℕ) → Begins P identifiers → (before after : List Token) (a : A) → P before after a → goes_on words before ≡ true
first_name words b before after a h = in_more identifiers (60 ∷ words) before refl (b.first before after a h)

pub names_to : {A : Type 0} {P : Rule A} (words : List ℕ) → Begins P identifiers → (before after : List Token) (xs : List A) → several (Named words P) before after xs
    → (n : List Token) × listed P before n xs × Between words n after
names_to {P = P} words b before after xs h = list_to {E = Named words P} {P = P} words (named_to P words) (λ l rest a x. first_name {P = P} words b l x.0 x.1 x.2) before after xs h

pub names_from : {A : Type 0} {P : Rule A} (words : List ℕ) → Begins P identifiers → (before n after : List Token) (xs : List A) → listed P before n xs → Between words n after
    → several (Named words P) before after xs
names_from {P = P} words b before n after xs h sep = list_from {E = Named words P} {P = P} words (named_from P words) (first_name {P = P} words b) before n after xs h sep

-- a closing parenthesis ends the list
pub closes : (words : List ℕ) (before after rest : List Token) (at : ℕ) → among 1 (60 ∷ words) ≡ false → mark m.CloseParen after rest at → Between words before after → before ≡ after
closes words before after rest at apart_is h (b, inl (n, at2, hc, (ends, is, t))) =
    absurd (both_ways (goes_on words after) (ap (goes_on words) (sym ends) ∙ t) (ap (goes_on words) h ∙ apart_is))
closes words before after rest at apart_is h (b, inr (ends, is, t)) = ends

pub closed_here : (words : List ℕ) (after rest : List Token) (at : ℕ) → among 1 (60 ∷ words) ≡ false → mark m.CloseParen after rest at → Between words after after
closed_here words after rest at apart_is h = (true, inr (refl, refl, ap (ends_here words) h ∙ ap not apart_is))
