-- The marks of each kind of expression.
use Rattle.std.proofs.Common.{◌≡◌, ◌*◌, ℕ, List, [], ◌∷◌, ◌++◌, map, flat_map, false, true, Bool, cond, Option, Some, Bor, refl, sym, ap, ◌∙◌}
use Rattle.std.proofs.lemmas.List.Concat.{flat_map-cons}
use Rattle.v_syntax.specs.declared.token.Ident.{Ident}
use Rattle.v_syntax.specs.declared.token.Cast.{Cast}
use Rattle.v_syntax.specs.declared.expr.Expr.{Expr}
use Rattle.v_syntax.specs.declared.expr.Expr.TheVariants as e
use Rattle.v_syntax.specs.declared.expr.Expr.TheOpen as o
use Rattle.v_syntax.specs.declared.expr.Expr.TheFolds.{para-roll-Expr}
use Rattle.v_syntax.specs.declared.expr.Number.{Number}
use Rattle.v_syntax.specs.declared.expr.UnaryOperator.{UnaryOperator}
use Rattle.v_syntax.specs.declared.expr.BinaryOperator.{BinaryOperator}
use Rattle.std.specs.Option.{option_copied}
use Rattle.v_meaning.specs.Literals.{is_unsized}
use Rattle.v_meaning.specs.declared.names.Entry.{Entry}
use Rattle.v_meaning.specs.Expressions.{number_by_itself}
use Rattle.v_meaning.specs.Proper.{proper_value, concat_bits, replicated_bits}
use Rattle.v_meaning.specs.Marks.{Mark, Used, Bare, Indexed, PartOf, Digits, UnsizedPart, Joined, unsized_number, parts_marks, links_marks, operands, mark_step, marks_of}
use Rattle.v_scope.specs.Lists.{link_marks, part_marks}

pub when_number : (x : Expr) (n : Number) → x ≡ e.Number n → (names : List Entry) → marks_of names x ≡ Digits false n ∷ []
when_number x n is names = ap (marks_of names) is ∙ ap (marks_of names) (sym (e.rolls-Number n)) ∙ para-roll-Expr (List Mark) (mark_step names) (o.Number n)

pub when_name : (x : Expr) (n : Ident) → x ≡ e.Name n → (names : List Entry) → marks_of names x ≡ Used Bare n ∷ []
when_name x n is names = ap (marks_of names) is ∙ ap (marks_of names) (sym (e.rolls-Name n)) ∙ para-roll-Expr (List Mark) (mark_step names) (o.Name n)

pub when_select : (x i j : Expr) (n : Ident) (bracket : ℕ) → x ≡ e.Select n bracket i → j ≡ i → (names : List Entry) → marks_of names x ≡ (Used Indexed n ∷ []) ++ marks_of names j
when_select x i j n bracket is p names =
    rw p (ap (marks_of names) is ∙ ap (marks_of names) (sym (e.rolls-Select n bracket i)) ∙ para-roll-Expr (List Mark) (mark_step names) (o.Select n bracket i))

pub when_part : (x m l m' l' : Expr) (n : Ident) (bracket ma la : ℕ) → x ≡ e.Part n bracket ma m la l → m' ≡ m → l' ≡ l →
    (names : List Entry) → marks_of names x ≡ (Used (PartOf (proper_value names m') (proper_value names l')) n ∷ []) ++ marks_of names m' ++ marks_of names l'
when_part x m l m' l' n bracket ma la is p q names =
    rw (p, q) (ap (marks_of names) is ∙ ap (marks_of names) (sym (e.rolls-Part n bracket ma m la l)) ∙ para-roll-Expr (List Mark) (mark_step names) (o.Part n bracket ma m la l))

pub when_unary : (x a b : Expr) (op : UnaryOperator) → x ≡ e.Unary op a → b ≡ a → (names : List Entry) → marks_of names x ≡ marks_of names b
when_unary x a b op is p names =
    rw p (ap (marks_of names) is ∙ ap (marks_of names) (sym (e.rolls-Unary op a)) ∙ para-roll-Expr (List Mark) (mark_step names) (o.Unary op a))

pub when_cast : (x a b : Expr) (s : Cast) → x ≡ e.Cast s a → b ≡ a → (names : List Entry) → marks_of names x ≡ marks_of names b
when_cast x a b s is p names =
    rw p (ap (marks_of names) is ∙ ap (marks_of names) (sym (e.rolls-Cast s a)) ∙ para-roll-Expr (List Mark) (mark_step names) (o.Cast s a))

links_map : (names : List Entry) (links : List (BinaryOperator × Expr)) →
    links_marks (map (λ (l : BinaryOperator × Expr). (l.0, (l.1, marks_of names l.1))) links) ≡ flat_map (link_marks names) links
links_map names [] = refl
links_map names (l ∷ ls) = ap (λ (r : List Mark). marks_of names l.1 ++ r) (links_map names ls) ∙ sym (flat_map-cons (link_marks names) l ls)

pub when_chain : (x a b : Expr) (links more : List (BinaryOperator × Expr)) → x ≡ e.Chain a links → b ≡ a → more ≡ links →
    (names : List Entry) → marks_of names x ≡ marks_of names b ++ flat_map (link_marks names) more
when_chain x a b links more is p q names =
    rw (p, q) (ap (marks_of names) is ∙ ap (marks_of names) (sym (e.rolls-Chain a links)) ∙ para-roll-Expr (List Mark) (mark_step names) (o.Chain a links)
    ∙ ap (λ (r : List Mark). marks_of names a ++ r) (links_map names links))

pub when_conditional : (x c a b c' a' b' : Expr) → x ≡ e.Conditional c a b → c' ≡ c → a' ≡ a → b' ≡ b →
    (names : List Entry) → marks_of names x ≡ marks_of names c' ++ marks_of names a' ++ marks_of names b'
when_conditional x c a b c' a' b' is p q r names =
    rw (p, q, r) (ap (marks_of names) is ∙ ap (marks_of names) (sym (e.rolls-Conditional c a b)) ∙ para-roll-Expr (List Mark) (mark_step names) (o.Conditional c a b))

parts_map : (names : List Entry) (parts : List Expr) → parts_marks (map (λ (y : Expr). (y, marks_of names y)) parts) ≡ flat_map (part_marks names) parts
parts_map names [] = refl
parts_map names (x ∷ xs) = ap (λ (r : List Mark). unsized_number (number_by_itself x) ++ marks_of names x ++ r) (parts_map names xs) ∙ sym (flat_map-cons (part_marks names) x xs)

-- the elements themselves, beside what is made of them
pub themselves : {A B : Type 0} (f : A → B) (xs : List A) → map (λ (p : A × B). p.0) (map (λ (y : A). (y, f y)) xs) ≡ xs
themselves f [] = refl
themselves {A = A} f (x ∷ xs) = ap (λ (r : List A). x ∷ r) (themselves f xs)

pub when_concat : (x : Expr) (brace : ℕ) (parts more : List Expr) → x ≡ e.Concat brace parts → more ≡ parts →
    (names : List Entry) → marks_of names x ≡ (Joined (concat_bits names more) brace ∷ []) ++ flat_map (part_marks names) more
when_concat x brace parts more is q names =
    rw q (ap (marks_of names) is ∙ ap (marks_of names) (sym (e.rolls-Concat brace parts)) ∙ para-roll-Expr (List Mark) (mark_step names) (o.Concat brace parts)
    ∙ ap (λ (r : List Mark). Joined (concat_bits names (operands (map (λ (y : Expr). (y, marks_of names y)) parts))) brace ∷ r) (parts_map names parts)
    ∙ ap (λ (ys : List Expr). Joined (concat_bits names ys) brace ∷ flat_map (part_marks names) parts) (themselves (marks_of names) parts))

pub when_replicate : (x c c' : Expr) (brace ca inner : ℕ) (parts more : List Expr) → x ≡ e.Replicate brace ca c inner parts → c' ≡ c → more ≡ parts →
    (names : List Entry) → marks_of names x ≡ (Joined (replicated_bits names c' more) brace ∷ []) ++ marks_of names c' ++ flat_map (part_marks names) more
when_replicate x c c' brace ca inner parts more is p q names =
    rw (p, q) (ap (marks_of names) is ∙ ap (marks_of names) (sym (e.rolls-Replicate brace ca c inner parts)) ∙ para-roll-Expr (List Mark) (mark_step names) (o.Replicate brace ca c inner parts)
    ∙ ap (λ (r : List Mark). Joined (replicated_bits names c (operands (map (λ (y : Expr). (y, marks_of names y)) parts))) brace ∷ marks_of names c ++ r) (parts_map names parts)
    ∙ ap (λ (ys : List Expr). Joined (replicated_bits names c ys) brace ∷ marks_of names c ++ flat_map (part_marks names) parts) (themselves (marks_of names) parts))

-- ---- numbers that are parts

pub unsized_is : (n : Number) (b : Bool) → b ≡ is_unsized n.spelling → b ≡ true → (names : List Entry) → unsized_number (Some n) ≡ UnsizedPart n.at ∷ []
unsized_is n b p q names = ap (λ (t : Bool). cond t (UnsizedPart n.at ∷ []) []) (sym p ∙ q)

pub number_is : (x : Expr) (found : Option (Bor Number)) (n : Bor Number) → option_copied found ≡ number_by_itself x → found ≡ Some n → (names : List Entry) → unsized_number (number_by_itself x) ≡ unsized_number (Some n.now)
number_is x found n p q names = ap unsized_number (sym p ∙ ap option_copied q)
