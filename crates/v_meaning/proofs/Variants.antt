-- What a definition by recursion on expressions makes of each variant.
use Rattle.std.proofs.Common.{◌≡◌, ap, sym, ◌∙◌, ℕ, List, map}
use Rattle.v_syntax.specs.declared.token.Ident.{Ident}
use Rattle.v_syntax.specs.declared.token.Cast.{Cast}
use Rattle.v_syntax.specs.declared.expr.Expr.{Expr}
use Rattle.v_syntax.specs.declared.expr.Expr.TheVariants as e
use Rattle.v_syntax.specs.declared.expr.Expr.TheOpen as o
use Rattle.v_syntax.specs.declared.expr.Expr.TheOpen.{Expr-F}
use Rattle.v_syntax.specs.declared.expr.Expr.TheFolds.{fold-Expr, fold-roll-Expr, para-Expr, para-roll-Expr}
use Rattle.v_syntax.specs.declared.expr.Number.{Number}
use Rattle.v_syntax.specs.declared.expr.UnaryOperator.{UnaryOperator}
use Rattle.v_syntax.specs.declared.expr.BinaryOperator.{BinaryOperator}

-- ---- where the step sees what the parts give

pub fold_number : {A : Type 0} (step : Expr-F A → A) (n : Number) →
    fold-Expr A step (e.Number n) ≡ step (o.Number n)
fold_number {A = A} step n = ap (fold-Expr A step) (sym (e.rolls-Number n)) ∙ fold-roll-Expr A step (o.Number n)

pub fold_name : {A : Type 0} (step : Expr-F A → A) (n : Ident) →
    fold-Expr A step (e.Name n) ≡ step (o.Name n)
fold_name {A = A} step n = ap (fold-Expr A step) (sym (e.rolls-Name n)) ∙ fold-roll-Expr A step (o.Name n)

pub fold_select : {A : Type 0} (step : Expr-F A → A) (n : Ident) (bracket : ℕ) (index : Expr) →
    fold-Expr A step (e.Select n bracket index) ≡ step (o.Select n bracket (fold-Expr A step index))
fold_select {A = A} step n bracket index = ap (fold-Expr A step) (sym (e.rolls-Select n bracket index)) ∙ fold-roll-Expr A step (o.Select n bracket index)

pub fold_part : {A : Type 0} (step : Expr-F A → A) (n : Ident) (bracket : ℕ) (msb_at : ℕ) (msb : Expr) (lsb_at : ℕ) (lsb : Expr) →
    fold-Expr A step (e.Part n bracket msb_at msb lsb_at lsb) ≡ step (o.Part n bracket msb_at (fold-Expr A step msb) lsb_at (fold-Expr A step lsb))
fold_part {A = A} step n bracket msb_at msb lsb_at lsb = ap (fold-Expr A step) (sym (e.rolls-Part n bracket msb_at msb lsb_at lsb)) ∙ fold-roll-Expr A step (o.Part n bracket msb_at msb lsb_at lsb)

pub fold_unary : {A : Type 0} (step : Expr-F A → A) (op : UnaryOperator) (x : Expr) →
    fold-Expr A step (e.Unary op x) ≡ step (o.Unary op (fold-Expr A step x))
fold_unary {A = A} step op x = ap (fold-Expr A step) (sym (e.rolls-Unary op x)) ∙ fold-roll-Expr A step (o.Unary op x)

pub fold_chain : {A : Type 0} (step : Expr-F A → A) (x : Expr) (links : List (BinaryOperator × Expr)) →
    fold-Expr A step (e.Chain x links) ≡ step (o.Chain (fold-Expr A step x) (map (λ (link : BinaryOperator × Expr). (link.0, fold-Expr A step link.1)) links))
fold_chain {A = A} step x links = ap (fold-Expr A step) (sym (e.rolls-Chain x links)) ∙ fold-roll-Expr A step (o.Chain x links)

pub fold_conditional : {A : Type 0} (step : Expr-F A → A) (c : Expr) (x : Expr) (y : Expr) →
    fold-Expr A step (e.Conditional c x y) ≡ step (o.Conditional (fold-Expr A step c) (fold-Expr A step x) (fold-Expr A step y))
fold_conditional {A = A} step c x y = ap (fold-Expr A step) (sym (e.rolls-Conditional c x y)) ∙ fold-roll-Expr A step (o.Conditional c x y)

pub fold_concat : {A : Type 0} (step : Expr-F A → A) (brace : ℕ) (parts : List Expr) →
    fold-Expr A step (e.Concat brace parts) ≡ step (o.Concat brace (map (fold-Expr A step) parts))
fold_concat {A = A} step brace parts = ap (fold-Expr A step) (sym (e.rolls-Concat brace parts)) ∙ fold-roll-Expr A step (o.Concat brace parts)

pub fold_replicate : {A : Type 0} (step : Expr-F A → A) (brace : ℕ) (count_at : ℕ) (count : Expr) (inner : ℕ) (parts : List Expr) →
    fold-Expr A step (e.Replicate brace count_at count inner parts) ≡ step (o.Replicate brace count_at (fold-Expr A step count) inner (map (fold-Expr A step) parts))
fold_replicate {A = A} step brace count_at count inner parts = ap (fold-Expr A step) (sym (e.rolls-Replicate brace count_at count inner parts)) ∙ fold-roll-Expr A step (o.Replicate brace count_at count inner parts)

pub fold_cast : {A : Type 0} (step : Expr-F A → A) (sign : Cast) (x : Expr) →
    fold-Expr A step (e.Cast sign x) ≡ step (o.Cast sign (fold-Expr A step x))
fold_cast {A = A} step sign x = ap (fold-Expr A step) (sym (e.rolls-Cast sign x)) ∙ fold-roll-Expr A step (o.Cast sign x)

-- ---- where it sees the parts too

pub para_number : {A : Type 0} (step : Expr-F (Expr × A) → A) (n : Number) →
    para-Expr A step (e.Number n) ≡ step (o.Number n)
para_number {A = A} step n = ap (para-Expr A step) (sym (e.rolls-Number n)) ∙ para-roll-Expr A step (o.Number n)

pub para_name : {A : Type 0} (step : Expr-F (Expr × A) → A) (n : Ident) →
    para-Expr A step (e.Name n) ≡ step (o.Name n)
para_name {A = A} step n = ap (para-Expr A step) (sym (e.rolls-Name n)) ∙ para-roll-Expr A step (o.Name n)

pub para_select : {A : Type 0} (step : Expr-F (Expr × A) → A) (n : Ident) (bracket : ℕ) (index : Expr) →
    para-Expr A step (e.Select n bracket index) ≡ step (o.Select n bracket (index, para-Expr A step index))
para_select {A = A} step n bracket index = ap (para-Expr A step) (sym (e.rolls-Select n bracket index)) ∙ para-roll-Expr A step (o.Select n bracket index)

pub para_part : {A : Type 0} (step : Expr-F (Expr × A) → A) (n : Ident) (bracket : ℕ) (msb_at : ℕ) (msb : Expr) (lsb_at : ℕ) (lsb : Expr) →
    para-Expr A step (e.Part n bracket msb_at msb lsb_at lsb) ≡ step (o.Part n bracket msb_at (msb, para-Expr A step msb) lsb_at (lsb, para-Expr A step lsb))
para_part {A = A} step n bracket msb_at msb lsb_at lsb = ap (para-Expr A step) (sym (e.rolls-Part n bracket msb_at msb lsb_at lsb)) ∙ para-roll-Expr A step (o.Part n bracket msb_at msb lsb_at lsb)

pub para_unary : {A : Type 0} (step : Expr-F (Expr × A) → A) (op : UnaryOperator) (x : Expr) →
    para-Expr A step (e.Unary op x) ≡ step (o.Unary op (x, para-Expr A step x))
para_unary {A = A} step op x = ap (para-Expr A step) (sym (e.rolls-Unary op x)) ∙ para-roll-Expr A step (o.Unary op x)

pub para_chain : {A : Type 0} (step : Expr-F (Expr × A) → A) (x : Expr) (links : List (BinaryOperator × Expr)) →
    para-Expr A step (e.Chain x links) ≡ step (o.Chain (x, para-Expr A step x) (map (λ (link : BinaryOperator × Expr). (link.0, (link.1, para-Expr A step link.1))) links))
para_chain {A = A} step x links = ap (para-Expr A step) (sym (e.rolls-Chain x links)) ∙ para-roll-Expr A step (o.Chain x links)

pub para_conditional : {A : Type 0} (step : Expr-F (Expr × A) → A) (c : Expr) (x : Expr) (y : Expr) →
    para-Expr A step (e.Conditional c x y) ≡ step (o.Conditional (c, para-Expr A step c) (x, para-Expr A step x) (y, para-Expr A step y))
para_conditional {A = A} step c x y = ap (para-Expr A step) (sym (e.rolls-Conditional c x y)) ∙ para-roll-Expr A step (o.Conditional c x y)

pub para_concat : {A : Type 0} (step : Expr-F (Expr × A) → A) (brace : ℕ) (parts : List Expr) →
    para-Expr A step (e.Concat brace parts) ≡ step (o.Concat brace (map (λ (y : Expr). (y, para-Expr A step y)) parts))
para_concat {A = A} step brace parts = ap (para-Expr A step) (sym (e.rolls-Concat brace parts)) ∙ para-roll-Expr A step (o.Concat brace parts)

pub para_replicate : {A : Type 0} (step : Expr-F (Expr × A) → A) (brace : ℕ) (count_at : ℕ) (count : Expr) (inner : ℕ) (parts : List Expr) →
    para-Expr A step (e.Replicate brace count_at count inner parts) ≡ step (o.Replicate brace count_at (count, para-Expr A step count) inner (map (λ (y : Expr). (y, para-Expr A step y)) parts))
para_replicate {A = A} step brace count_at count inner parts = ap (para-Expr A step) (sym (e.rolls-Replicate brace count_at count inner parts)) ∙ para-roll-Expr A step (o.Replicate brace count_at count inner parts)

pub para_cast : {A : Type 0} (step : Expr-F (Expr × A) → A) (sign : Cast) (x : Expr) →
    para-Expr A step (e.Cast sign x) ≡ step (o.Cast sign (x, para-Expr A step x))
para_cast {A = A} step sign x = ap (para-Expr A step) (sym (e.rolls-Cast sign x)) ∙ para-roll-Expr A step (o.Cast sign x)
