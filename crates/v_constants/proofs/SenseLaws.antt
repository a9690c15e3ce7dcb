-- What constant expressions mean, variant by variant.
use Rattle.std.proofs.Common.{◌≡◌, ap, sym, ◌∙◌, refl, ℕ, List, [], ◌∷◌, map, Bool, true, false}
use Rattle.v_syntax.specs.declared.token.Ident.{Ident}
use Rattle.v_syntax.specs.declared.token.Cast.{Cast}
use Rattle.v_syntax.specs.declared.expr.Expr.{Expr}
use Rattle.v_syntax.specs.declared.expr.Expr.TheVariants as e
use Rattle.v_syntax.specs.declared.expr.Expr.TheOpen as o
use Rattle.v_syntax.specs.declared.expr.Expr.TheFolds.{fold-roll-Expr}
use Rattle.v_syntax.specs.declared.expr.Number.{Number}
use Rattle.v_syntax.specs.declared.expr.UnaryOperator.{UnaryOperator}
use Rattle.v_syntax.specs.declared.expr.BinaryOperator.{BinaryOperator}
use Rattle.v_meaning.specs.Literals.{literal_of, literal_value}
use Rattle.v_meaning.specs.Views.{no_view}
use Rattle.v_meaning.specs.Senses.{Sense, Class, Shared, Compared, Shifted, Logical, class_of, by_class, operated, chained, is_through, through, prefixed, chosen, beside, joined_behind, leaf, joined, replicated, constant, recast}
use Rattle.v_meaning.specs.declared.names.Entry.{Entry}
use Rattle.v_meaning.specs.Names.{entry_of, word_of, or_zero}
use Rattle.v_meaning.specs.Expressions.{sense_step, sense_of}
use Rattle.v_constants.specs.Constants.{still, constant_sense}
use Rattle.v_constants.specs.Verdicts.{senses, link_senses}

pub sense_number : (names : List Entry) (n : Number) →
    constant_sense names (e.Number n) ≡ leaf (literal_of n.spelling).width (literal_of n.spelling).signed (λ v. literal_value (literal_of n.spelling) 0)
sense_number names n = ap (constant_sense names) (sym (e.rolls-Number n)) ∙ ap still (fold-roll-Expr Sense (sense_step names []) (o.Number n))

pub sense_name : (names : List Entry) (n : Ident) →
    constant_sense names (e.Name n) ≡ leaf (entry_of names n.name).width (entry_of names n.name).signed (λ v. word_of (entry_of names n.name).kind no_view)
sense_name names n = ap (constant_sense names) (sym (e.rolls-Name n)) ∙ ap still (fold-roll-Expr Sense (sense_step names []) (o.Name n))

still_through : (b : Bool) (op : UnaryOperator) (x : Sense) → still (through b op x) ≡ through b op (still x)
still_through true op x = refl
still_through false op x = refl

pub sense_unary : (names : List Entry) (x a b : Expr) (op : UnaryOperator) → x ≡ e.Unary op a → b ≡ a → constant_sense names x ≡ prefixed op (constant_sense names b)
sense_unary names x a b op is p =
    ap (constant_sense names) (is ∙ sym (e.rolls-Unary op a)) ∙ ap still (fold-roll-Expr Sense (sense_step names []) (o.Unary op a))
    ∙ still_through (is_through op) op (sense_of names [] a) ∙ sym (ap (λ (z : Expr). prefixed op (constant_sense names z)) p)

pub sense_cast : (names : List Entry) (x a b : Expr) (sign : Cast) → x ≡ e.Cast sign a → b ≡ a → constant_sense names x ≡ recast sign (constant_sense names b)
sense_cast names x a b sign is p =
    ap (constant_sense names) (is ∙ sym (e.rolls-Cast sign a)) ∙ ap still (fold-roll-Expr Sense (sense_step names []) (o.Cast sign a))
    ∙ sym (ap (λ (z : Expr). recast sign (constant_sense names z)) p)

pub sense_conditional : (names : List Entry) (x c a b c' a' b' : Expr) → x ≡ e.Conditional c a b → c' ≡ c → a' ≡ a → b' ≡ b →
    constant_sense names x ≡ chosen (constant_sense names c') (constant_sense names a') (constant_sense names b')
sense_conditional names x c a b c' a' b' is p q r =
    rw (p, q, r)
    (ap (constant_sense names) (is ∙ sym (e.rolls-Conditional c a b)) ∙ ap still (fold-roll-Expr Sense (sense_step names []) (o.Conditional c a b)))

-- ---- chains

still_by_class : (c : Class) (op : BinaryOperator) (x y : Sense) → still (by_class c op x y) ≡ by_class c op (still x) (still y)
still_by_class Shared op x y = refl
still_by_class Compared op x y = refl
still_by_class Shifted op x y = refl
still_by_class Logical op x y = refl

still_chained : (names : List Entry) (x : Sense) (links : List (BinaryOperator × Expr)) →
    still (chained x (map (λ (l : BinaryOperator × Expr). (l.0, sense_of names [] l.1)) links)) ≡ chained (still x) (link_senses names links)
still_chained names x [] = refl
still_chained names x (l ∷ ls) =
    still_chained names (operated l.0 x (sense_of names [] l.1)) ls
    ∙ ap (λ (s : Sense). chained s (link_senses names ls)) (still_by_class (class_of l.0) l.0 x (sense_of names [] l.1))

pub sense_chain : (names : List Entry) (x a b : Expr) (links more : List (BinaryOperator × Expr)) → x ≡ e.Chain a links → b ≡ a → more ≡ links →
    constant_sense names x ≡ chained (constant_sense names b) (link_senses names more)
sense_chain names x a b links more is p q =
    rw (p, q)
    (ap (constant_sense names) (is ∙ sym (e.rolls-Chain a links)) ∙ ap still (fold-roll-Expr Sense (sense_step names []) (o.Chain a links))
    ∙ still_chained names (sense_of names [] a) links)

-- ---- concatenations and replications

still_joined : (names : List Entry) (x : Sense) (parts : List Expr) →
    still (joined_behind x (map (sense_of names []) parts)) ≡ joined_behind (still x) (senses names parts)
still_joined names x [] = refl
still_joined names x (y ∷ ys) = still_joined names (beside x (sense_of names [] y)) ys

pub joined_is : (names : List Entry) (parts : List Expr) → still (joined (map (sense_of names []) parts)) ≡ joined (senses names parts)
joined_is names parts = still_joined names (leaf 0 false (λ v. 0)) parts

pub sense_concat : (names : List Entry) (x : Expr) (brace : ℕ) (parts more : List Expr) → x ≡ e.Concat brace parts → more ≡ parts →
    constant_sense names x ≡ joined (senses names more)
sense_concat names x brace parts more is p =
    rw p
    (ap (constant_sense names) (is ∙ sym (e.rolls-Concat brace parts)) ∙ ap still (fold-roll-Expr Sense (sense_step names []) (o.Concat brace parts))
    ∙ joined_is names parts)

pub sense_replicate : (names : List Entry) (x : Expr) (brace at : ℕ) (count n : Expr) (inner : ℕ) (parts more : List Expr) →
    x ≡ e.Replicate brace at count inner parts → n ≡ count → more ≡ parts →
    constant_sense names x ≡ replicated (or_zero (constant (constant_sense names n))) (joined (senses names more))
sense_replicate names x brace at count n inner parts more is p q =
    rw (p, q)
    (ap (constant_sense names) (is ∙ sym (e.rolls-Replicate brace at count inner parts))
    ∙ ap still (fold-roll-Expr Sense (sense_step names []) (o.Replicate brace at count inner parts))
    ∙ ap (replicated (or_zero (constant (sense_of names [] count)))) (joined_is names parts))
