-- When a reader reads a production: what it gives is derived, what is derived it gives, and it looks no further
-- than the next token.
use Rattle.std.proofs.Common.{◌≡◌, ◌≤◌, ◌+◌, ℕ, Bool, true, false, not, cond, eqb, ◌&&◌, ◌||◌, List, [], ◌∷◌, ◌++◌, length, Result, Ok, Err, refl, sym, ap, subst, ◌∙◌, append_assoc, inl, inr, ◌⊎◌, arith, length-append}
use Rattle.std.specs.Prelude.{⊤}
use Rattle.std.proofs.lemmas.Bool.{eqb-true, eq-eqb}
use Rattle.v_syntax.specs.declared.token.Token.{Token}
use Rattle.v_syntax.specs.Rule as r
use Rattle.v_syntax.specs.Rule.{Rule}
use Rattle.v_parser.specs.Reading.{Reader, then_read, gives, next, next_in, among, choose, kind}
use Rattle.v_parser.specs.Reading as read

-- both begin with one token, or both are empty
abbrev pub SameNext : List Token → List Token → Type 0
SameNext [] [] = ⊤
SameNext [] (u ∷ b) = ⊥
SameNext (t ∷ a) [] = ⊥
SameNext (t ∷ a) (u ∷ b) = t ≡ u

-- what was read is read again whatever stands behind the next token
pub record Kept {A : Type 0} (n : ℕ) (reader : Reader A) (before after : List Token) (a : A) : Type 0 where
  pub front : List Token
  pub split : before ≡ front ++ after
  pub long : n ≤ length front
  pub again : (other : List Token) → SameNext after other → reader (front ++ other) ≡ Ok (a, other)

-- the token at which it stopped stops it again whatever stands behind that token
pub record Stopped {A : Type 0} (reader : Reader A) (before at : List Token) : Type 0 where
  pub front : List Token
  pub split : before ≡ front ++ at
  pub again : (other : List Token) → SameNext at other → reader (front ++ other) ≡ Err other

-- goes are the kinds of tokens that can go on what the production derives; it takes n tokens at least
pub record Reads {A : Type 0} (P : Rule A) (goes : ℕ → Bool) (n : ℕ) (reader : Reader A) : Type 0 where
  pub sound : (before after : List Token) (a : A) → reader before ≡ Ok (a, after) → P before after a
  pub whole : (before after : List Token) (a : A) → P before after a → next goes after ≡ false → reader before ≡ Ok (a, after)
  pub kept : (before after : List Token) (a : A) → reader before ≡ Ok (a, after) → Kept n reader before after a
  pub stopped : (before at : List Token) → reader before ≡ Err at → Stopped reader before at

pub same_behind : (front a b : List Token) → SameNext a b → SameNext (front ++ a) (front ++ b)
same_behind [] a b same = same
same_behind (t ∷ front) a b same = refl

pub next_same : (test : ℕ → Bool) (a b : List Token) → SameNext a b → next test a ≡ next test b
next_same test [] [] same = refl
next_same test [] (u ∷ b) same = absurd same
next_same test (t ∷ a) [] same = absurd same
next_same test (t ∷ a) (u ∷ b) same = ap (λ (x : Token). test (kind x.lexeme)) same

abbrev made : {A : Type 0} → A → List Token → Result (A × List Token) (List Token)
made a l = Ok (a, l)

pub ok_value : {A : Type 0} (a b : A) (l m : List Token) → made a l ≡ made b m → a ≡ b
ok_value {A = A} a b l m e = let p : ◌≡◌ {A = A × List Token} (a, l) (b, m) = cc in ap (λ (x : A × List Token). x.0) p

pub ok_rest : {A : Type 0} (a b : A) (l m : List Token) → made a l ≡ made b m → l ≡ m
ok_rest {A = A} a b l m e = let p : ◌≡◌ {A = A × List Token} (a, l) (b, m) = cc in ap (λ (x : A × List Token). x.1) p

abbrev ended : {A : Type 0} → List Token → Result (A × List Token) (List Token)
ended l = Err l

pub err_rest : {A : Type 0} (l m : List Token) → ended {A = A} l ≡ ended {A = A} m → l ≡ m
err_rest l m e = cc

pub bind_ok : {A B : Type 0} (x : Result (A × List Token) (List Token)) (g : A → Reader B) (y : Result (B × List Token) (List Token)) (b : B) (after : List Token)
    → then_read x g ≡ Ok (b, after) → (a : A) × (m : List Token) × (x ≡ Ok (a, m)) × (g a m ≡ Ok (b, after))
bind_ok (Ok x) g y b after e = (x.0, x.1, refl, e)
bind_ok (Err s) g y b after e = absurd cc

pub bind_err : {A B : Type 0} (x : Result (A × List Token) (List Token)) (g : A → Reader B) (s : List Token) → then_read x g ≡ Err s
    → (x ≡ Err s) ⊎ ((a : A) × (m : List Token) × (x ≡ Ok (a, m)) × (g a m ≡ Err s))
bind_err (Ok x) g s e = inr (x.0, x.1, refl, e)
bind_err (Err t) g s e = inl (ap (λ (l : List Token). Err l) (err_rest t s e))

pub chosen : {B : Type 0} (b : Bool) (x y z : B) → cond b x y ≡ z → ((b ≡ true) × (x ≡ z)) ⊎ ((b ≡ false) × (y ≡ z))
chosen true x y z e = inl (refl, e)
chosen false x y z e = inr (refl, e)

abbrev pub none : ℕ → Bool
none x = false

pub next_none : (l : List Token) → next none l ≡ false
next_none [] = refl
next_none (t ∷ l) = refl

-- one after the other
bind_kept : {A B : Type 0} (all n k : ℕ) (f : Reader A) (g : A → Reader B) (before m after : List Token) (a : A) (b : B) → Kept n f before m a → Kept k (g a) m after b → all ≤ n + k → Kept all (read.◌>>=◌ f g) before after b
bind_kept all n k f g before m after a b p q few = record {
  front = p.front ++ q.front;
  split = p.split ∙ ap (λ l. p.front ++ l) q.split ∙ sym (append_assoc p.front q.front after);
  long = omega (arith, p.long, q.long, few, length-append p.front q.front);
  again = λ other same. ap (λ l. then_read (f l) g) (append_assoc p.front q.front other)
      ∙ ap (λ x. then_read x g) (p.again (q.front ++ other) (subst (λ l. SameNext l (q.front ++ other)) (sym q.split) (same_behind q.front after other same)))
      ∙ q.again other same;
}

bind_stopped : {A B : Type 0} (n : ℕ) (f : Reader A) (g : A → Reader B) (before m at : List Token) (a : A) → Kept n f before m a → Stopped (g a) m at → Stopped (read.◌>>=◌ f g) before at
bind_stopped n f g before m at a p q = record {
  front = p.front ++ q.front;
  split = p.split ∙ ap (λ l. p.front ++ l) q.split ∙ sym (append_assoc p.front q.front at);
  again = λ other same. ap (λ l. then_read (f l) g) (append_assoc p.front q.front other)
      ∙ ap (λ x. then_read x g) (p.again (q.front ++ other) (subst (λ l. SameNext l (q.front ++ other)) (sym q.split) (same_behind q.front at other same)))
      ∙ q.again other same;
}

first_stopped : {A B : Type 0} (f : Reader A) (g : A → Reader B) (before at : List Token) → Stopped f before at → Stopped (read.◌>>=◌ f g) before at
first_stopped f g before at p = record { front = p.front; split = p.split; again = λ other same. ap (λ x. then_read x g) (p.again other same) }

-- What a production derives behind another, and what may stand behind it, cannot go on the other one.
pub record Parted {A B : Type 0} (Q : A → Rule B) (d c : ℕ → Bool) : Type 0 where
  pub clear : (a : A) (m after : List Token) (b : B) → Q a m after b → next d after ≡ false → next c m ≡ false

reads_bind_all : {A B : Type 0} {P : Rule A} {Q : A → Rule B} {c d : ℕ → Bool} {n k : ℕ} {f : Reader A} {g : A → Reader B} (all : ℕ) → all ≤ n + k
    → Reads P c n f → ((a : A) → Reads (Q a) d k (g a))
    → Parted Q d c
    → Reads (r.◌>>=◌ P Q) d all (read.◌>>=◌ f g)
reads_bind_all {n = n} {k = k} {f = f} {g = g} all few p q parted = record {
  sound = λ before after b e. let x = bind_ok (f before) g (Err []) b after e in (x.1, x.0, p.sound before x.1 x.0 x.2, (q x.0).sound x.1 after b x.3);
  whole = λ before after b h fin. ap (λ x. then_read x g) (p.whole before h.0 h.1 h.2 (parted.clear h.1 h.0 after b h.3 fin)) ∙ (q h.1).whole h.0 after b h.3 fin;
  kept = λ before after b e. let x = bind_ok (f before) g (Err []) b after e in
      bind_kept all n k f g before x.1 after x.0 b (p.kept before x.1 x.0 x.2) ((q x.0).kept x.1 after b x.3) few;
  stopped = λ before at e. elim (bind_err (f before) g at e) [
    | inl stops ↦ first_stopped f g before at (p.stopped before at stops)
    | inr x ↦ bind_stopped n f g before x.1 at x.0 (p.kept before x.1 x.0 x.2) ((q x.0).stopped x.1 at x.3)
  ];
}

pub reads_bind : {A B : Type 0} {P : Rule A} {Q : A → Rule B} {c d : ℕ → Bool} {n k : ℕ} {f : Reader A} {g : A → Reader B}
    → Reads P c n f → ((a : A) → Reads (Q a) d k (g a))
    → Parted Q d c
    → Reads (r.◌>>=◌ P Q) d n (read.◌>>=◌ f g)
reads_bind {n = n} p q parted = reads_bind_all n (omega arith) p q parted

-- behind what takes no token
pub reads_behind : {A B : Type 0} {P : Rule A} {Q : A → Rule B} {d : ℕ → Bool} {n k : ℕ} {f : Reader A} {g : A → Reader B}
    → Reads P none n f → ((a : A) → Reads (Q a) d k (g a)) → Reads (r.◌>>=◌ P Q) d k (read.◌>>=◌ f g)
reads_behind {k = k} p q = reads_bind_all k (omega arith) p q (record { clear = λ a m after b h fin. next_none m })

-- behind a production that nothing can go on
pub reads_then : {A B : Type 0} {P : Rule A} {Q : A → Rule B} {d : ℕ → Bool} {n k : ℕ} {f : Reader A} {g : A → Reader B}
    → Reads P none n f → ((a : A) → Reads (Q a) d k (g a)) → Reads (r.◌>>=◌ P Q) d n (read.◌>>=◌ f g)
reads_then p q = reads_bind p q (record { clear = λ a m after b h fin. next_none m })

pub reads_yields : {A : Type 0} (c : ℕ → Bool) (x : A) → Reads (r.yields x) c 0 (gives x)
reads_yields c x = record {
  sound = λ before after a e. (ok_rest x a before after e, sym (ok_value x a before after e));
  whole = λ before after a h fin. ap (λ l. Ok (x, l)) h.0 ∙ ap (λ y. Ok (y, after)) (sym h.1);
  kept = λ before after a e. record { front = []; split = ok_rest x a before after e; long = omega arith; again = λ other same. ap (λ y. Ok (y, other)) (ok_value x a before after e) };
  stopped = λ before at e. absurd cc;
}

pub choose_true : {A : Type 0} (kinds : List ℕ) (f g : Reader A) (l : List Token) → next_in kinds l ≡ true → choose kinds f g l ≡ f l
choose_true kinds f g l is = ap (λ b. cond b (f l) (g l)) is

pub choose_false : {A : Type 0} (kinds : List ℕ) (f g : Reader A) (l : List Token) → next_in kinds l ≡ false → choose kinds f g l ≡ g l
choose_false kinds f g l is = ap (λ b. cond b (f l) (g l)) is

in_kept : (kinds : List ℕ) (front after other before : List Token) (b : Bool) → SameNext after other → before ≡ front ++ after → next_in kinds before ≡ b → next_in kinds (front ++ other) ≡ b
in_kept kinds front after other before b same split is =
    sym (next_same (λ x. among x kinds) (front ++ after) (front ++ other) (same_behind front after other same)) ∙ ap (next_in kinds) (sym split) ∙ is

-- P begins with one of these kinds
pub record Begins {A : Type 0} (P : Rule A) (kinds : List ℕ) : Type 0 where
  pub first : (before after : List Token) (a : A) → P before after a → next_in kinds before ≡ true

-- Q does not begin with one of these kinds
pub record Differs {A : Type 0} (Q : Rule A) (c : ℕ → Bool) (kinds : List ℕ) : Type 0 where
  pub clear : (before after : List Token) (a : A) → Q before after a → next c after ≡ false → next_in kinds before ≡ false

pub reads_choose : {A : Type 0} {P Q : Rule A} {c : ℕ → Bool} {j k : ℕ} {f g : Reader A} (n : ℕ) (kinds : List ℕ)
    → Reads P c j f → Reads Q c k g → n ≤ j → n ≤ k
    → Begins P kinds → Differs Q c kinds
    → Reads (r.◌<|>◌ P Q) c n (choose kinds f g)
reads_choose {f = f} {g = g} n kinds p q few_p few_q is_p not_q = record {
  sound = λ before after a e. elim (chosen (next_in kinds before) (f before) (g before) (Ok (a, after)) e) [
    | inl x ↦ inl (p.sound before after a x.1)
    | inr x ↦ inr (q.sound before after a x.1)
  ];
  whole = λ before after a h fin. elim h [
    | inl x ↦ choose_true kinds f g before (is_p.first before after a x) ∙ p.whole before after a x fin
    | inr x ↦ choose_false kinds f g before (not_q.clear before after a x fin) ∙ q.whole before after a x fin
  ];
  kept = λ before after a e. elim (chosen (next_in kinds before) (f before) (g before) (Ok (a, after)) e) [
    | inl x ↦ let k = p.kept before after a x.1 in
        record {
          front = k.front;
          split = k.split;
          long = omega (arith, k.long, few_p);
          again = λ other same. choose_true kinds f g (k.front ++ other) (in_kept kinds k.front after other before true same k.split x.0) ∙ k.again other same;
        }
    | inr x ↦ let k = q.kept before after a x.1 in
        record {
          front = k.front;
          split = k.split;
          long = omega (arith, k.long, few_q);
          again = λ other same. choose_false kinds f g (k.front ++ other) (in_kept kinds k.front after other before false same k.split x.0) ∙ k.again other same;
        }
  ];
  stopped = λ before at e. elim (chosen (next_in kinds before) (f before) (g before) (Err at) e) [
    | inl x ↦ let k = p.stopped before at x.1 in
        record {
          front = k.front;
          split = k.split;
          again = λ other same. choose_true kinds f g (k.front ++ other) (in_kept kinds k.front at other before true same k.split x.0) ∙ k.again other same;
        }
    | inr x ↦ let k = q.stopped before at x.1 in
        record {
          front = k.front;
          split = k.split;
          again = λ other same. choose_false kinds f g (k.front ++ other) (in_kept kinds k.front at other before false same k.split x.0) ∙ k.again other same;
        }
  ];
}

-- a production that derives the same
pub reads_same : {A : Type 0} {P Q : Rule A} {c : ℕ → Bool} {n : ℕ} {f : Reader A} → Reads P c n f
    → ((before after : List Token) (a : A) → P before after a → Q before after a) → ((before after : List Token) (a : A) → Q before after a → P before after a) → Reads Q c n f
reads_same p to from = record {
  sound = λ before after a e. to before after a (p.sound before after a e);
  whole = λ before after a h fin. p.whole before after a (from before after a h) fin;
  kept = λ before after a e. p.kept before after a e;
  stopped = λ before at e. p.stopped before at e;
}

-- Q is what P derives, and K behind it: a production that is read in two parts
pub record Leads {A B : Type 0} (P : Rule A) (K : A → Rule B) (Q : Rule B) : Type 0 where
  pub to : (before after : List Token) (b : B) → r.◌>>=◌ P K before after b → Q before after b
  pub from : (before after : List Token) (b : B) → Q before after b → r.◌>>=◌ P K before after b

pub leads_yields : {A B : Type 0} {a : A} {K : A → Rule B} → Leads (r.yields a) K (K a)
leads_yields {K = K} = record {
  to = λ before after b (n, x, (ends, is), h). subst (λ l. K _ l after b) (sym ends) (subst (λ y. K y n after b) is h);
  from = λ before after b h. (before, _, (refl, refl), h);
}

pub leads_all : {A B : Type 0} {P : Rule A} {K : A → Rule B} → Leads P K (r.◌>>=◌ P K)
leads_all = record { to = λ before after b h. h; from = λ before after b h. h }

pub leads_bind : {A B C : Type 0} {P : Rule A} {Q : A → Rule B} {K : B → Rule C} {R : A → Rule C} → ((a : A) → Leads (Q a) K (R a)) → Leads (r.◌>>=◌ P Q) K (r.◌>>=◌ P R)
leads_bind p = record {
  to = λ before after c (n, b, (m, a, ha, hb), hc). (m, a, ha, (p a).to m after c (n, b, hb, hc));
  from = λ before after c (m, a, ha, h). let y = (p a).from m after c h in (y.0, y.1, (m, a, ha, y.2), y.3);
}

pub reads_led : {A B : Type 0} {P : Rule A} {K : A → Rule B} {Q : Rule B} {c : ℕ → Bool} {n : ℕ} {f : Reader B} → Leads P K Q → Reads (r.◌>>=◌ P K) c n f → Reads Q c n f
reads_led leads p = reads_same p leads.to leads.from

-- a production that derives the same where nothing goes on
pub reads_same_at : {A : Type 0} {P Q : Rule A} {c : ℕ → Bool} {n : ℕ} {f : Reader A} → Reads P c n f
    → ((before after : List Token) (a : A) → P before after a → Q before after a) → ((before after : List Token) (a : A) → Q before after a → next c after ≡ false → P before after a) → Reads Q c n f
reads_same_at p to from = record {
  sound = λ before after a e. to before after a (p.sound before after a e);
  whole = λ before after a h fin. p.whole before after a (from before after a h fin) fin;
  kept = λ before after a e. p.kept before after a e;
  stopped = λ before at e. p.stopped before at e;
}

-- what a reader gives
abbrev pub Given : {A : Type 0} → Reader A → Rule A
Given f before after a = f before ≡ Ok (a, after)

pub reads_given : {A : Type 0} {P : Rule A} {c : ℕ → Bool} {n : ℕ} {f : Reader A} → Reads P c n f → Reads (Given f) none n f
reads_given p = record {
  sound = λ before after a e. e;
  whole = λ before after a h fin. h;
  kept = λ before after a e. p.kept before after a e;
  stopped = λ before at e. p.stopped before at e;
}

-- a reader that reads the same
pub reads_as : {A : Type 0} {P : Rule A} {c : ℕ → Bool} {n : ℕ} {f g : Reader A} → Reads P c n f → ((l : List Token) → g l ≡ f l) → Reads P c n g
reads_as {n = n} {f = f} {g = g} p is = record {
  sound = λ before after a e. p.sound before after a (sym (is before) ∙ e);
  whole = λ before after a h fin. is before ∙ p.whole before after a h fin;
  kept = λ before after a e. let k = p.kept before after a (sym (is before) ∙ e) in
      record { front = k.front; split = k.split; long = k.long; again = λ other same. is (k.front ++ other) ∙ k.again other same };
  stopped = λ before at e. let k = p.stopped before at (sym (is before) ∙ e) in
      record { front = k.front; split = k.split; again = λ other same. is (k.front ++ other) ∙ k.again other same };
}

-- more kinds that can go on, and fewer tokens
pub reads_looser : {A : Type 0} {P : Rule A} {c d : ℕ → Bool} {n k : ℕ} {f : Reader A} → Reads P c n f → ((l : List Token) → next d l ≡ false → next c l ≡ false) → k ≤ n → Reads P d k f
reads_looser p looser fewer = record {
  sound = p.sound;
  whole = λ before after a h fin. p.whole before after a h (looser after fin);
  kept = λ before after a e. let x = p.kept before after a e in record { front = x.front; split = x.split; long = omega (arith, x.long, fewer); again = x.again };
  stopped = p.stopped;
}

-- whatever can go on behind it
pub reads_closed : {A : Type 0} {P : Rule A} {n : ℕ} {f : Reader A} (d : ℕ → Bool) → Reads P none n f → Reads P d n f
reads_closed {n = n} d p = reads_looser p (λ l fin. next_none l) (omega arith)

-- ---- the kinds with which a production begins

pub begins_bind : {A B : Type 0} {P : Rule A} {Q : A → Rule B} {kinds : List ℕ} → Begins P kinds → Begins (r.◌>>=◌ P Q) kinds
begins_bind p = record { first = λ before after b h. p.first before h.0 h.1 h.2 }

pub begins_here : {B : Type 0} {Q : ℕ → Rule B} {kinds : List ℕ} → ((at : ℕ) → Begins (Q at) kinds) → Begins (r.◌>>=◌ r.here Q) kinds
begins_here {kinds = kinds} q = record { first = λ before after b h. ap (next_in kinds) h.2.0 ∙ (q h.1).first h.0 after b h.3 }

pub begins_or : {A : Type 0} {P Q : Rule A} {kinds : List ℕ} → Begins P kinds → Begins Q kinds → Begins (r.◌<|>◌ P Q) kinds
begins_or p q = record { first = λ before after a h. elim h [ inl x ↦ p.first before after a x | inr x ↦ q.first before after a x ] }

abbrev pub all_in : List ℕ → List ℕ → Bool
all_in [] kinds = true
all_in (x ∷ xs) kinds = among x kinds && all_in xs kinds

abbrev pub all_not : (ℕ → Bool) → List ℕ → Bool
all_not test [] = true
all_not test (x ∷ xs) = not (test x) && all_not test xs

not_true : (b : Bool) → not b ≡ true → b ≡ false
not_true true e = absurd cc
not_true false e = refl

and_true : (a b : Bool) → (a && b) ≡ true → (a ≡ true) × (b ≡ true)
and_true true true e = (refl, refl)
and_true true false e = absurd cc
and_true false b e = absurd cc

or_true : (a b : Bool) → (a || b) ≡ true → (a ≡ true) ⊎ (b ≡ true)
or_true true b e = inl refl
or_true false b e = inr e

fails_among : (test : ℕ → Bool) (x : ℕ) (kinds : List ℕ) → all_not test kinds ≡ true → among x kinds ≡ true → test x ≡ false
fails_among test x [] all is = absurd cc
fails_among test x (y ∷ kinds) all is =
    let both = and_true (not (test y)) (all_not test kinds) all in
    elim (or_true (eqb x y) (among x kinds) is) [
      | inl here ↦ ap test (eqb-true x y here) ∙ not_true (test y) both.0
      | inr there ↦ fails_among test x kinds both.1 there
    ]

-- none of these kinds passes the test
pub apart : (test : ℕ → Bool) (kinds : List ℕ) (l : List Token) → all_not test kinds ≡ true → next_in kinds l ≡ true → next test l ≡ false
apart test kinds [] all is = refl
apart test kinds (t ∷ l) all is = fails_among test (kind t.lexeme) kinds all is

in_all : (x : ℕ) (few kinds : List ℕ) → all_in few kinds ≡ true → among x few ≡ true → among x kinds ≡ true
in_all x [] kinds all is = absurd cc
in_all x (y ∷ few) kinds all is =
    let both = and_true (among y kinds) (all_in few kinds) all in
    elim (or_true (eqb x y) (among x few) is) [
      | inl here ↦ ap (λ z. among z kinds) (eqb-true x y here) ∙ both.0
      | inr there ↦ in_all x few kinds both.1 there
    ]

next_in_all : (few kinds : List ℕ) (l : List Token) → all_in few kinds ≡ true → next_in few l ≡ true → next_in kinds l ≡ true
next_in_all few kinds [] all is = absurd cc
next_in_all few kinds (t ∷ l) all is = in_all (kind t.lexeme) few kinds all is

pub begins_among : {A : Type 0} {P : Rule A} (few kinds : List ℕ) → all_in few kinds ≡ true → Begins P few → Begins P kinds
begins_among few kinds all p = record { first = λ before after a h. next_in_all few kinds before all (p.first before after a h) }

-- ---- tests on the next token

or_false : (a b : Bool) → (a || b) ≡ false → (a ≡ false) × (b ≡ false)
or_false true b e = absurd cc
or_false false b e = (refl, e)

-- neither of two tests passes
pub next_or : (s t : ℕ → Bool) (l : List Token) → next (λ x. s x || t x) l ≡ false → (next s l ≡ false) × (next t l ≡ false)
next_or s t [] e = (refl, refl)
next_or s t (u ∷ l) e = or_false (s (kind u.lexeme)) (t (kind u.lexeme)) e

-- a test that passes wherever another one does
pub next_less : (s t : ℕ → Bool) (l : List Token) → ((x : ℕ) → t x ≡ false → s x ≡ false) → next t l ≡ false → next s l ≡ false
next_less s t [] less e = refl
next_less s t (u ∷ l) less e = less (kind u.lexeme) e

clash : (b : Bool) → b ≡ true → b ≡ false → ⊥
clash true p q = cc
clash false p q = cc

none_here : (b rest : Bool) → (b ≡ true → ⊥) → rest ≡ false → (b || rest) ≡ false
none_here true rest never e = absurd (never refl)
none_here false rest never e = e

-- kinds of which none is left
fewer_among : (few kinds : List ℕ) → all_in few kinds ≡ true → (x : ℕ) → among x kinds ≡ false → among x few ≡ false
fewer_among [] kinds all x e = refl
fewer_among (y ∷ few) kinds all x e =
    let both = and_true (among y kinds) (all_in few kinds) all in
    none_here (eqb x y) (among x few) (λ is. clash (among y kinds) both.0 (ap (λ z. among z kinds) (sym (eqb-true x y is)) ∙ e)) (fewer_among few kinds both.1 x e)

pub next_fewer : (few kinds : List ℕ) (l : List Token) → all_in few kinds ≡ true → next_in kinds l ≡ false → next_in few l ≡ false
next_fewer few kinds l all e = next_less (λ x. among x few) (λ x. among x kinds) l (fewer_among few kinds all) e

-- ---- what stands behind a production cannot go on it

-- since it begins with other kinds
pub opens : {A B : Type 0} {Q : A → Rule B} {d : ℕ → Bool} (test : ℕ → Bool) (kinds : List ℕ) → all_not test kinds ≡ true → ((a : A) → Begins (Q a) kinds) → Parted Q d test
opens test kinds all begins = record { clear = λ a m after b h fin. apart test kinds m all ((begins a).first m after b h) }

-- since it is nothing
pub silent : {A B : Type 0} {x : A → B} (c : ℕ → Bool) → Parted (λ a. r.yields (x a)) c c
silent c = record { clear = λ a m after b h fin. ap (next c) h.0 ∙ fin }

-- the second of two alternatives begins with other kinds than the reader looks for
pub others : {A : Type 0} {Q : Rule A} {c : ℕ → Bool} (kinds ofs : List ℕ) → all_not (λ x. among x kinds) ofs ≡ true → Begins Q ofs → Differs Q c kinds
others kinds ofs all begins = record { clear = λ before after a h fin. apart (λ x. among x kinds) ofs before all (begins.first before after a h) }

-- the second is nothing, and the kinds that the reader looks for cannot stand behind it
pub nothing : {A : Type 0} {x : A} {c : ℕ → Bool} (kinds : List ℕ) → ((l : List Token) → next c l ≡ false → next_in kinds l ≡ false) → Differs (r.yields x) c kinds
nothing kinds none_stands = record { clear = λ before after a h fin. ap (next_in kinds) h.0 ∙ none_stands after fin }

-- ---- tests that all kinds but one pass

abbrev pub all_pass : (ℕ → Bool) → List ℕ → Bool
all_pass test [] = true
all_pass test (x ∷ xs) = test x && all_pass test xs

pass_among : (test : ℕ → Bool) (x : ℕ) (kinds : List ℕ) → all_pass test kinds ≡ true → among x kinds ≡ true → test x ≡ true
pass_among test x [] all is = absurd cc
pass_among test x (y ∷ kinds) all is =
    let both = and_true (test y) (all_pass test kinds) all in
    elim (or_true (eqb x y) (among x kinds) is) [
      | inl here ↦ ap test (eqb-true x y here) ∙ both.0
      | inr there ↦ pass_among test x kinds both.1 there
    ]

-- each of these kinds passes the test
pub passes : (test : ℕ → Bool) (kinds : List ℕ) (l : List Token) → all_pass test kinds ≡ true → next_in kinds l ≡ true → next test l ≡ true
passes test kinds [] all is = absurd cc
passes test kinds (t ∷ l) all is = pass_among test (kind t.lexeme) kinds all is

not_false : (b : Bool) → not b ≡ false → b ≡ true
not_false true e = refl
not_false false e = absurd cc

-- where only one kind can stand, no test passes that fails for it
pub only_end : (n : ℕ) (test : ℕ → Bool) (l : List Token) → test n ≡ false → next (λ x. not (eqb x n)) l ≡ false → next test l ≡ false
only_end n test l is e = next_less test (λ x. not (eqb x n)) l (λ x f. ap test (eqb-true x n (not_false (eqb x n) f)) ∙ is) e

-- a list of kinds with one more in front has all of them
pub tail_in : (y : ℕ) (kinds : List ℕ) → all_in kinds (y ∷ kinds) ≡ true
tail_in y kinds = all_more kinds kinds y (all_self kinds)
  where
    or_right : (a b : Bool) → b ≡ true → (a || b) ≡ true
    or_right true b e = refl
    or_right false b e = e

    and_both : (a b : Bool) → a ≡ true → b ≡ true → (a && b) ≡ true
    and_both true b p q = q
    and_both false b p q = absurd cc

    all_more : (few all : List ℕ) (y : ℕ) → all_in few all ≡ true → all_in few (y ∷ all) ≡ true
    all_more [] all y e = refl
    all_more (x ∷ few) all y e =
        let both = and_true (among x all) (all_in few all) e in
        and_both (eqb x y || among x all) (all_in few (y ∷ all)) (or_right (eqb x y) (among x all) both.0) (all_more few all y both.1)

    all_self : (kinds : List ℕ) → all_in kinds kinds ≡ true
    all_self [] = refl
    all_self (x ∷ kinds) = and_both (eqb x x || among x kinds) (all_in kinds (x ∷ kinds)) (left_true (eqb x x) (among x kinds) (eq-eqb x x refl)) (all_more kinds kinds x (all_self kinds))
      where
        left_true : (a b : Bool) → a ≡ true → (a || b) ≡ true
        left_true true b e = refl
        left_true false b e = absurd cc

pub in_more : (few kinds : List ℕ) (l : List Token) → all_in few kinds ≡ true → next_in few l ≡ true → next_in kinds l ≡ true
in_more few kinds l all e = next_in_all few kinds l all e
