-- The readers of one more level.
use Rattle.std.proofs.Common.{◌≡◌, ◌<◌, ◌≤◌, ◌+◌, ◌-◌, ℕ, zero, suc, List, [], Ok, Err, refl, subst, ◌∙◌, inl, inr, arith}
use Rattle.v_syntax.specs.declared.token.Token.{Token}
use Rattle.v_syntax.specs.declared.expr.Expr.{Expr}
use Rattle.std.proofs.lemmas.Bool.{cases_lt}
use Rattle.v_syntax.specs.declared.expr.BinaryOperator.{BinaryOperator}
use Rattle.v_parser.specs.declared.miss.Miss.{Miss}
use Rattle.v_parser.specs.declared.miss.Miss.TheVariants as miss
use Rattle.v_parser.specs.Gives.{Fails}
use Rattle.v_syntax.specs.Grammar.{chain}
use Rattle.v_parser.specs.Reading.{Reader, ◌>>=◌, repeated, gives, choose}
use Rattle.v_syntax.specs.declared.token.Mark.TheVariants as m
use Rattle.v_parser.specs.Stmts.{target_at, braced_at, place_at, stmt_at, flat_at, if_at, simple_at, ifs}
use Rattle.v_parser.specs.Exprs.{only, nested_at, operand_at, expr_at, leaf_at, binary_at, has_rank, link_at, operand_over_at, expr_over_at}

pub operand_leaf : (d : ℕ) (tokens : List Token) → d ≡ 0 → operand_at d tokens ≡ leaf_at tokens
unfolding nested_at
operand_leaf zero tokens is = refl
operand_leaf (suc d) tokens is = absurd (omega arith)

pub operand_deep : (d : ℕ) (tokens : List Token) → 0 < d → operand_at d tokens ≡ operand_over_at (operand_at (d - 1)) (expr_at (d - 1)) tokens
unfolding nested_at
operand_deep zero tokens is = absurd (omega arith)
operand_deep (suc d) tokens is = let e : suc d - 1 ≡ d = omega arith in rw e refl

pub expr_flat : (d : ℕ) (tokens : List Token) → d ≡ 0 → expr_at d tokens ≡ binary_at (operand_at d) 10 tokens
unfolding nested_at
expr_flat zero tokens is = refl
expr_flat (suc d) tokens is = absurd (omega arith)

pub expr_deep : (d : ℕ) (tokens : List Token) → 0 < d → expr_at d tokens ≡ expr_over_at (binary_at (operand_at d) 10) (expr_at (d - 1)) tokens
unfolding nested_at
expr_deep zero tokens is = absurd (omega arith)
expr_deep (suc d) tokens is = let e : suc d - 1 ≡ d = omega arith in rw e refl

pub binary_one : (operand : Reader Expr) (rank : ℕ) (tokens : List Token) → rank ≡ 0 → binary_at operand rank tokens ≡ operand tokens
unfolding binary_at
binary_one operand zero tokens is = refl
binary_one operand (suc rank) tokens is = absurd (omega arith)

pub binary_more : (operand : Reader Expr) (rank : ℕ) (tokens : List Token) → 0 < rank
    → binary_at operand rank tokens ≡ (binary_at operand (rank - 1) >>= λ first. repeated (has_rank rank) (link_at rank (binary_at operand (rank - 1))) [] >>= λ others. gives (chain first others)) tokens
unfolding binary_at
binary_more operand zero tokens is = absurd (omega arith)
binary_more operand (suc rank) tokens is = let e : suc rank - 1 ≡ rank = omega arith in rw e refl

pub target_plain : (d : ℕ) (tokens : List Token) → d ≡ 0 → target_at d tokens ≡ place_at tokens
unfolding target_at
target_plain zero tokens is = refl
target_plain (suc d) tokens is = absurd (omega arith)

pub target_deep : (d : ℕ) (tokens : List Token) → 0 < d → target_at d tokens ≡ choose (only m.OpenBrace) (braced_at (target_at (d - 1))) place_at tokens
unfolding target_at
target_deep zero tokens is = absurd (omega arith)
target_deep (suc d) tokens is = let e : suc d - 1 ≡ d = omega arith in rw e refl

pub stmt_flat : (d : ℕ) (tokens : List Token) → d ≡ 0 → stmt_at d tokens ≡ flat_at tokens
unfolding stmt_at
stmt_flat zero tokens is = refl
stmt_flat (suc d) tokens is = absurd (omega arith)

pub stmt_deep : (d : ℕ) (tokens : List Token) → 0 < d → stmt_at d tokens ≡ choose ifs (if_at (stmt_at (d - 1))) (simple_at (stmt_at (d - 1))) tokens
unfolding stmt_at
stmt_deep zero tokens is = absurd (omega arith)
stmt_deep (suc d) tokens is = let e : suc d - 1 ≡ d = omega arith in rw e refl

-- one level of operators more
pub binary_step : (operand : Reader Expr) (level k j : ℕ) (tokens rest after : List Token) (first : Expr) (others : List (BinaryOperator × Expr)) → k ≡ level + 1 → j ≡ level
    → binary_at operand level tokens ≡ Ok (first, rest) → repeated (has_rank k) (link_at k (binary_at operand j)) [] rest ≡ Ok (others, after)
    → binary_at operand k tokens ≡ Ok (chain first others, after)
unfolding binary_at
binary_step operand level k j tokens rest after first others kis jis one more =
    let next_level : k ≡ suc level = omega arith in
    let here : repeated (has_rank (suc level)) (link_at (suc level) (binary_at operand level)) [] rest ≡ Ok (others, after) =
    subst (λ n. repeated (has_rank n) (link_at n (binary_at operand level)) [] rest ≡ Ok (others, after)) next_level
    (subst (λ n. repeated (has_rank k) (link_at k (binary_at operand n)) [] rest ≡ Ok (others, after)) jis more) in
    rw (next_level, one, here) refl

-- a level that stops the reader stops it at the looser ones
binary_still : (operand : Reader Expr) (level n : ℕ) (tokens s : List Token) → binary_at operand level tokens ≡ Err s → level ≤ n → binary_at operand n tokens ≡ Err s
unfolding binary_at
binary_still operand level zero tokens s e le = let same : level ≡ 0 = omega arith in subst (λ k. binary_at operand k tokens ≡ Err s) same e
binary_still operand level (suc n) tokens s e le = elim (cases_lt n level) [
  | inl lt ↦ let same : level ≡ suc n = omega arith in subst (λ k. binary_at operand k tokens ≡ Err s) same e
  | inr low ↦ rw (binary_still operand level n tokens s e low) refl
]

pub binary_fails : (operand : Reader Expr) (level k j rank : ℕ) (tokens rest : List Token) (first : Expr) (e : Miss) → k ≡ level + 1 → j ≡ level → level < rank
    → binary_at operand level tokens ≡ Ok (first, rest) → Fails e (repeated (has_rank k) (link_at k (binary_at operand j)) [] rest) → Fails e (binary_at operand rank tokens)
unfolding binary_at
binary_fails operand level k j rank tokens rest first miss.OutOfMemory kis jis lt one fails = tt
binary_fails operand level k j rank tokens rest first (miss.At s) kis jis lt one fails =
    let next_level : k ≡ suc level = omega arith in
    let here : repeated (has_rank (suc level)) (link_at (suc level) (binary_at operand level)) [] rest ≡ Err s.now =
    subst (λ n. repeated (has_rank n) (link_at n (binary_at operand level)) [] rest ≡ Err s.now) next_level
    (subst (λ n. repeated (has_rank k) (link_at k (binary_at operand n)) [] rest ≡ Err s.now) jis fails) in
    let stops : binary_at operand (suc level) tokens ≡ Err s.now = rw (one, here) refl in
    binary_still operand (suc level) rank tokens s.now stops (omega arith)

pub binary_first_fails : (operand : Reader Expr) (rank : ℕ) (tokens : List Token) (e : Miss) → Fails e (operand tokens) → Fails e (binary_at operand rank tokens)
binary_first_fails operand rank tokens miss.OutOfMemory fails = tt
binary_first_fails operand rank tokens (miss.At s) fails = binary_still operand 0 rank tokens s.now (binary_one operand 0 tokens refl ∙ fails) (omega arith)
