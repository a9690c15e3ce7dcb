-- One turn of a loop of readings.
use Rattle.std.proofs.Common.{◌≡◌, ◌<◌, ◌≤◌, ℕ, zero, suc, Bool, true, false, cond, ltb, List, [], ◌∷◌, ◌++◌, length, Result, Ok, Err, refl, sym, ap, subst, ◌∙◌, arith}
use Rattle.std.proofs.lemmas.Bool.{lt-ltb, ltb-true}
use Rattle.v_syntax.specs.declared.token.Token.{Token}
use Rattle.v_syntax.specs.declared.token.Mark.TheVariants as m
use Rattle.v_syntax.specs.declared.expr.Expr.{Expr}
use Rattle.v_syntax.specs.declared.expr.BinaryOperator.{BinaryOperator}
use Rattle.v_parser.specs.declared.miss.Miss.{Miss}
use Rattle.v_parser.specs.declared.miss.Miss.TheVariants as miss
use Rattle.v_parser.specs.Reading.{Reader, then_read, shrinking, next, repeat, repeated, is_comma, mark_at, more_at, behind_at, ◌>>◌}
use Rattle.v_parser.specs.Exprs.{link_at, between_at, has_rank}
use Rattle.v_parser.specs.Gives.{Fails}

guarded_same : {B : Type 0} (c : Bool) (p q : Result B (List Token)) (s : List Token) → (c ≡ true → p ≡ q) → cond c p (Err s) ≡ cond c q (Err s)
guarded_same true p q s h = h refl
guarded_same false p q s h = refl

taken_same : {A B : Type 0} (tokens : List Token) (r : Result (A × List Token) (List Token)) (g h : A → Reader B)
    → ((x : A) (after : List Token) → length after < length tokens → g x after ≡ h x after) → then_read r (shrinking tokens g) ≡ then_read r (shrinking tokens h)
taken_same tokens (Err s) g h same = refl
taken_same tokens (Ok x) g h same = guarded_same (ltb (length x.1) (length tokens)) (g x.0 x.1) (h x.0 x.1) x.1 (λ e. same x.0 x.1 (ltb-true _ _ e))

-- what two bounds on the number of turns give is the same
pub fuel_same : {A : Type 0} (test : ℕ → Bool) (f : Reader A) (a b : ℕ) (sofar : List A) (tokens : List Token) → length tokens ≤ a → length tokens ≤ b
    → repeat test f a sofar tokens ≡ repeat test f b sofar tokens
unfolding repeat
fuel_same test f zero zero sofar tokens p q = refl
fuel_same test f zero (suc b) sofar [] p q = refl
fuel_same test f zero (suc b) sofar (t ∷ tokens) p q = absurd (omega arith)
fuel_same test f (suc a) zero sofar [] p q = refl
fuel_same test f (suc a) zero sofar (t ∷ tokens) p q = absurd (omega arith)
fuel_same test f (suc a) (suc b) sofar tokens p q =
    ap (λ r. cond (next test tokens) r (Ok (sofar, tokens)))
    (taken_same tokens (f tokens) (λ x. repeat test f a (sofar ++ x ∷ [])) (λ x. repeat test f b (sofar ++ x ∷ []))
    (λ x after lt. fuel_same test f a b (sofar ++ x ∷ []) after (omega arith) (omega arith)))

pub repeated_stop : {A : Type 0} (test : ℕ → Bool) (f : Reader A) (sofar : List A) (tokens : List Token) → next test tokens ≡ false → repeated test f sofar tokens ≡ Ok (sofar, tokens)
unfolding repeat repeated
repeated_stop test f sofar [] stops = refl
repeated_stop test f sofar (t ∷ tokens) stops = rw stops refl

pub repeated_step : {A : Type 0} (test : ℕ → Bool) (f : Reader A) (sofar : List A) (tokens after : List Token) (a : A) → next test tokens ≡ true → f tokens ≡ Ok (a, after)
    → length after < length tokens → repeated test f sofar tokens ≡ repeated test f (sofar ++ a ∷ []) after
unfolding repeat repeated
repeated_step test f sofar [] after a goes is lt = absurd (omega arith)
repeated_step test f sofar (t ∷ tokens) after a goes is lt =
    rw (goes, is, lt-ltb (length after) (suc (length tokens)) lt) (fuel_same test f (length tokens) (length after) (sofar ++ a ∷ []) after (omega arith) (omega arith))

pub repeated_err : {A : Type 0} (test : ℕ → Bool) (f : Reader A) (sofar : List A) (tokens s : List Token) → next test tokens ≡ true → f tokens ≡ Err s
    → repeated test f sofar tokens ≡ Err s
unfolding repeat repeated
repeated_err test f sofar [] s goes is = absurd cc
repeated_err test f sofar (t ∷ tokens) s goes is = rw (goes, is) refl

pub more_stop : {A : Type 0} (f : Reader A) (sofar : List A) (tokens : List Token) → next is_comma tokens ≡ false → more_at f sofar tokens ≡ Ok (sofar, tokens)
more_stop f sofar tokens stops = repeated_stop is_comma (mark_at m.Comma >> f) sofar tokens stops

pub more_step : {A : Type 0} (f : Reader A) (sofar : List A) (tokens rest after : List Token) (at : ℕ) (a : A) → next is_comma tokens ≡ true
    → mark_at m.Comma tokens ≡ Ok (at, rest) → f rest ≡ Ok (a, after) → length after < length tokens → more_at f sofar tokens ≡ more_at f (sofar ++ a ∷ []) after
more_step f sofar tokens rest after at a goes comma is lt = repeated_step is_comma (mark_at m.Comma >> f) sofar tokens after a goes (rw (comma, is) refl) lt

pub more_miss : {A : Type 0} (f : Reader A) (sofar : List A) (tokens : List Token) (e : Miss) → next is_comma tokens ≡ true → Fails e (mark_at m.Comma tokens) → Fails e (more_at f sofar tokens)
more_miss f sofar tokens miss.OutOfMemory goes fails = tt
more_miss f sofar tokens (miss.At s) goes fails = repeated_err is_comma (mark_at m.Comma >> f) sofar tokens s.now goes (rw fails refl)

pub more_err : {A : Type 0} (f : Reader A) (sofar : List A) (tokens rest : List Token) (at : ℕ) (e : Miss) → next is_comma tokens ≡ true
    → mark_at m.Comma tokens ≡ Ok (at, rest) → Fails e (f rest) → Fails e (more_at f sofar tokens)
more_err f sofar tokens rest at miss.OutOfMemory goes comma fails = tt
more_err f sofar tokens rest at (miss.At s) goes comma fails = repeated_err is_comma (mark_at m.Comma >> f) sofar tokens s.now goes (rw (comma, fails) refl)

pub links_stop : (rank : ℕ) (f : Reader Expr) (sofar : List (BinaryOperator × Expr)) (tokens : List Token) → next (has_rank rank) tokens ≡ false
    → repeated (has_rank rank) (link_at rank f) sofar tokens ≡ Ok (sofar, tokens)
links_stop rank f sofar tokens stops = repeated_stop (has_rank rank) (link_at rank f) sofar tokens stops

pub links_step : (rank : ℕ) (f : Reader Expr) (sofar : List (BinaryOperator × Expr)) (tokens rest after : List Token) (op : BinaryOperator) (a : Expr) → next (has_rank rank) tokens ≡ true
    → between_at rank tokens ≡ Ok (op, rest) → f rest ≡ Ok (a, after) → length after < length tokens
    → repeated (has_rank rank) (link_at rank f) sofar tokens ≡ repeated (has_rank rank) (link_at rank f) (sofar ++ (op, a) ∷ []) after
unfolding link_at
links_step rank f sofar tokens rest after op a goes first is lt = repeated_step (has_rank rank) (link_at rank f) sofar tokens after (op, a) goes (rw (first, is) refl) lt

pub links_miss : (rank : ℕ) (f : Reader Expr) (sofar : List (BinaryOperator × Expr)) (tokens : List Token) (e : Miss) → next (has_rank rank) tokens ≡ true
    → Fails e (between_at rank tokens) → Fails e (repeated (has_rank rank) (link_at rank f) sofar tokens)
unfolding link_at
links_miss rank f sofar tokens miss.OutOfMemory goes fails = tt
links_miss rank f sofar tokens (miss.At s) goes fails = repeated_err (has_rank rank) (link_at rank f) sofar tokens s.now goes (rw fails refl)

pub links_err : (rank : ℕ) (f : Reader Expr) (sofar : List (BinaryOperator × Expr)) (tokens rest : List Token) (op : BinaryOperator) (e : Miss) → next (has_rank rank) tokens ≡ true
    → between_at rank tokens ≡ Ok (op, rest) → Fails e (f rest) → Fails e (repeated (has_rank rank) (link_at rank f) sofar tokens)
unfolding link_at
links_err rank f sofar tokens rest op miss.OutOfMemory goes first fails = tt
links_err rank f sofar tokens rest op (miss.At s) goes first fails = repeated_err (has_rank rank) (link_at rank f) sofar tokens s.now goes (rw (first, fails) refl)

pub more_miss_in : {A : Type 0} (f : Reader A) (sofar : List A) (tokens : List Token) (total : Result (List A × List Token) (List Token)) (e : Miss) → next is_comma tokens ≡ true
    → Fails e (mark_at m.Comma tokens) → more_at f sofar tokens ≡ total → Fails e total
more_miss_in f sofar tokens total e goes fails same = subst (Fails e) same (more_miss f sofar tokens e goes fails)

pub more_err_in : {A : Type 0} (f : Reader A) (sofar : List A) (tokens rest : List Token) (at : ℕ) (total : Result (List A × List Token) (List Token)) (e : Miss) → next is_comma tokens ≡ true
    → mark_at m.Comma tokens ≡ Ok (at, rest) → Fails e (f rest) → more_at f sofar tokens ≡ total → Fails e total
more_err_in f sofar tokens rest at total e goes comma fails same = subst (Fails e) same (more_err f sofar tokens rest at e goes comma fails)

pub links_miss_in : (rank : ℕ) (f : Reader Expr) (sofar : List (BinaryOperator × Expr)) (tokens : List Token) (total : Result (List (BinaryOperator × Expr) × List Token) (List Token)) (e : Miss)
    → next (has_rank rank) tokens ≡ true → Fails e (between_at rank tokens) → repeated (has_rank rank) (link_at rank f) sofar tokens ≡ total → Fails e total
links_miss_in rank f sofar tokens total e goes fails same = subst (Fails e) same (links_miss rank f sofar tokens e goes fails)

pub links_err_in : (rank : ℕ) (f : Reader Expr) (sofar : List (BinaryOperator × Expr)) (tokens rest : List Token) (op : BinaryOperator) (total : Result (List (BinaryOperator × Expr) × List Token) (List Token)) (e : Miss)
    → next (has_rank rank) tokens ≡ true → between_at rank tokens ≡ Ok (op, rest) → Fails e (f rest) → repeated (has_rank rank) (link_at rank f) sofar tokens ≡ total → Fails e total
links_err_in rank f sofar tokens rest op total e goes first fails same = subst (Fails e) same (links_err rank f sofar tokens rest op e goes first fails)

pub repeated_err_in : {A : Type 0} (test : ℕ → Bool) (f : Reader A) (sofar : List A) (tokens : List Token) (total : Result (List A × List Token) (List Token)) (e : Miss) → next test tokens ≡ true
    → Fails e (f tokens) → repeated test f sofar tokens ≡ total → Fails e total
repeated_err_in test f sofar tokens total miss.OutOfMemory goes fails same = tt
repeated_err_in test f sofar tokens total (miss.At s) goes fails same = sym same ∙ repeated_err test f sofar tokens s.now goes fails

-- where the reading of one more behind a comma fails, so does that of all
pub behind_err_in : {A : Type 0} (f : Reader A) (sofar : List A) (tokens : List Token) (total : Result (List A × List Token) (List Token)) (e : Miss) → next is_comma tokens ≡ true
    → Fails e (behind_at m.Comma f tokens) → more_at f sofar tokens ≡ total → Fails e total
behind_err_in f sofar tokens total e goes fails same = repeated_err_in is_comma (behind_at m.Comma f) sofar tokens total e goes fails same
