-- The faults of each kind of expression.
use Rattle.std.proofs.Common.{◌≡◌, ℕ, List, [], ◌++◌, map, flat_map, Bool, true, false, Option, None, refl, sym, ap, ◌∙◌}
use Rattle.std.specs.Prelude.{◌&&◌, if◌then◌else◌}
use Rattle.std.proofs.lemmas.List.Folds.{flat_map-map}
use Rattle.v_syntax.specs.declared.token.Ident.{Ident}
use Rattle.v_syntax.specs.declared.token.Cast.{Cast}
use Rattle.v_syntax.specs.declared.expr.Expr.{Expr}
use Rattle.v_syntax.specs.declared.expr.Expr.TheVariants as e
use Rattle.v_syntax.specs.declared.expr.Expr.TheOpen as o
use Rattle.v_syntax.specs.declared.expr.Expr.TheFolds.{para-roll-Expr}
use Rattle.v_syntax.specs.declared.expr.Number.{Number}
use Rattle.v_syntax.specs.declared.expr.UnaryOperator.{UnaryOperator}
use Rattle.v_syntax.specs.declared.expr.BinaryOperator.{BinaryOperator}
use Rattle.v_meaning.specs.declared.names.Entry.{Entry}
use Rattle.v_meaning.specs.Declarations.{constant_value}
use Rattle.v_meaning.specs.Proper.{is_proper, is_count, is_between_1_and_128, proper_value}
use Rattle.v_meaning.specs.ConstantRules.{faulty_at, Walked, faults_in, fault_step, expr_faults}
use Rattle.v_declare.specs.Faults.{link_faults}

pub when_number : (names : List Entry) (x : Expr) (n : Number) → x ≡ e.Number n → expr_faults names x ≡ []
when_number names x n is = ap (expr_faults names) (is ∙ sym (e.rolls-Number n)) ∙ para-roll-Expr (List ℕ) (fault_step names) (o.Number n)

pub when_name : (names : List Entry) (x : Expr) (n : Ident) → x ≡ e.Name n → expr_faults names x ≡ []
when_name names x n is = ap (expr_faults names) (is ∙ sym (e.rolls-Name n)) ∙ para-roll-Expr (List ℕ) (fault_step names) (o.Name n)

pub when_select : (names : List Entry) (x i j : Expr) (n : Ident) (bracket : ℕ) → x ≡ e.Select n bracket i → j ≡ i → expr_faults names x ≡ expr_faults names j
when_select names x i j n bracket is p =
    ap (expr_faults names) (is ∙ sym (e.rolls-Select n bracket i)) ∙ para-roll-Expr (List ℕ) (fault_step names) (o.Select n bracket i) ∙ ap (expr_faults names) (sym p)

pub when_part : (names : List Entry) (x m l m' l' : Expr) (n : Ident) (bracket ma la : ℕ) → x ≡ e.Part n bracket ma m la l → m' ≡ m → l' ≡ l →
    expr_faults names x ≡ faulty_at (is_proper names m') ma ++ faulty_at (is_proper names l') la
when_part names x m l m' l' n bracket ma la is p q =
    rw (p, q) (ap (expr_faults names) (is ∙ sym (e.rolls-Part n bracket ma m la l)) ∙ para-roll-Expr (List ℕ) (fault_step names) (o.Part n bracket ma m la l))

pub when_unary : (names : List Entry) (x a b : Expr) (op : UnaryOperator) → x ≡ e.Unary op a → b ≡ a → expr_faults names x ≡ expr_faults names b
when_unary names x a b op is p =
    ap (expr_faults names) (is ∙ sym (e.rolls-Unary op a)) ∙ para-roll-Expr (List ℕ) (fault_step names) (o.Unary op a) ∙ ap (expr_faults names) (sym p)

pub when_cast : (names : List Entry) (x a b : Expr) (s : Cast) → x ≡ e.Cast s a → b ≡ a → expr_faults names x ≡ expr_faults names b
when_cast names x a b s is p =
    ap (expr_faults names) (is ∙ sym (e.rolls-Cast s a)) ∙ para-roll-Expr (List ℕ) (fault_step names) (o.Cast s a) ∙ ap (expr_faults names) (sym p)

pub when_chain : (names : List Entry) (x a b : Expr) (links more : List (BinaryOperator × Expr)) → x ≡ e.Chain a links → b ≡ a → more ≡ links →
    expr_faults names x ≡ expr_faults names b ++ flat_map (link_faults names) more
when_chain names x a b links more is p q =
    rw (p, q) (ap (expr_faults names) (is ∙ sym (e.rolls-Chain a links)) ∙ para-roll-Expr (List ℕ) (fault_step names) (o.Chain a links)
    ∙ ap (λ (l : List ℕ). expr_faults names a ++ l)
    (flat_map-map (λ (link : BinaryOperator × Walked). link.1.1) (λ (l : BinaryOperator × Expr). (l.0, (l.1, expr_faults names l.1))) links))

pub when_conditional : (names : List Entry) (x c a b c' a' b' : Expr) → x ≡ e.Conditional c a b → c' ≡ c → a' ≡ a → b' ≡ b →
    expr_faults names x ≡ expr_faults names c' ++ expr_faults names a' ++ expr_faults names b'
when_conditional names x c a b c' a' b' is p q r =
    rw (p, q, r) (ap (expr_faults names) (is ∙ sym (e.rolls-Conditional c a b)) ∙ para-roll-Expr (List ℕ) (fault_step names) (o.Conditional c a b))

parts_map : (names : List Entry) (parts : List Expr) → faults_in (map (λ (x : Expr). (x, expr_faults names x)) parts) ≡ flat_map (expr_faults names) parts
parts_map names parts = flat_map-map (λ (x : Walked). x.1) (λ (x : Expr). (x, expr_faults names x)) parts

pub when_concat : (names : List Entry) (x : Expr) (brace : ℕ) (parts more : List Expr) → x ≡ e.Concat brace parts → more ≡ parts →
    expr_faults names x ≡ flat_map (expr_faults names) more
when_concat names x brace parts more is q =
    ap (expr_faults names) (is ∙ sym (e.rolls-Concat brace parts)) ∙ para-roll-Expr (List ℕ) (fault_step names) (o.Concat brace parts)
    ∙ parts_map names parts ∙ ap (λ (l : List Expr). flat_map (expr_faults names) l) (sym q)

pub when_replicate : (names : List Entry) (x c c' : Expr) (brace ca inner : ℕ) (parts more : List Expr) → x ≡ e.Replicate brace ca c inner parts → c' ≡ c → more ≡ parts →
    expr_faults names x ≡ faulty_at (is_count names c') ca ++ flat_map (expr_faults names) more
when_replicate names x c c' brace ca inner parts more is p q =
    rw (p, q) (ap (expr_faults names) (is ∙ sym (e.rolls-Replicate brace ca c inner parts)) ∙ para-roll-Expr (List ℕ) (fault_step names) (o.Replicate brace ca c inner parts)
    ∙ ap (λ (l : List ℕ). faulty_at (is_count names c) ca ++ l) (parts_map names parts))

-- ---- counts

count_case : (proper : Bool) (value : Option ℕ) → is_between_1_and_128 (if proper then value else None) ≡ (proper && is_between_1_and_128 value)
count_case true value = refl
count_case false value = refl

pub count_is : (names : List Entry) (x : Expr) (value : Option ℕ) (test : Bool) → value ≡ proper_value names x → test ≡ is_between_1_and_128 value → test ≡ is_count names x
count_is names x value test is so = so ∙ ap is_between_1_and_128 is ∙ count_case (is_proper names x) (constant_value names x)
