-- The reads of each kind of expression.
use Rattle.std.proofs.Common.{◌≡◌, ℕ, List, [], ◌∷◌, ◌++◌, map, flat_map, ap, sym, ◌∙◌}
use Rattle.std.proofs.lemmas.List.Folds.{flat_map-map}
use Rattle.v_syntax.specs.declared.token.Ident.{Ident}
use Rattle.v_syntax.specs.declared.token.Cast.{Cast}
use Rattle.v_syntax.specs.declared.expr.Expr.{Expr}
use Rattle.v_syntax.specs.declared.expr.Expr.TheVariants as e
use Rattle.v_syntax.specs.declared.expr.Expr.TheOpen as o
use Rattle.v_syntax.specs.declared.expr.Expr.TheFolds.{para-roll-Expr}
use Rattle.v_syntax.specs.declared.expr.Number.{Number}
use Rattle.v_syntax.specs.declared.expr.UnaryOperator.{UnaryOperator}
use Rattle.v_syntax.specs.declared.expr.BinaryOperator.{BinaryOperator}
use Rattle.v_meaning.specs.declared.names.Entry.{Entry}
use Rattle.v_meaning.specs.Names.{entry_of}
use Rattle.v_meaning.specs.Uses.{Access, Read, Reading, bits_at, all_bits, fixed_bit, part_bits, read_step, reads_of}
use Rattle.v_uses.specs.Adding.{link_reads}

pub when_number : (x : Expr) (n : Number) → x ≡ e.Number n → (names : List Entry) → reads_of names x ≡ []
when_number x n is names = ap (reads_of names) (is ∙ sym (e.rolls-Number n)) ∙ para-roll-Expr (List Access) (read_step names) (o.Number n)

-- the bits that a name by itself, an index and bounds read
abbrev pub name_bits : Ident → List Entry → ℕ
name_bits n names = all_bits (entry_of names n.name)

abbrev pub index_bits : Ident → Expr → List Entry → ℕ
index_bits n index names = bits_at (name_bits n names) (fixed_bit names (entry_of names n.name) index)

abbrev pub bound_bits : Ident → Expr → Expr → List Entry → ℕ
bound_bits n msb lsb names = part_bits names (entry_of names n.name) msb lsb

pub when_name : (x : Expr) (n : Ident) → x ≡ e.Name n → (names : List Entry) → reads_of names x ≡ Read n (name_bits n names) ∷ []
when_name x n is names = ap (reads_of names) (is ∙ sym (e.rolls-Name n)) ∙ para-roll-Expr (List Access) (read_step names) (o.Name n)

pub when_select : (x i j : Expr) (n : Ident) (bracket : ℕ) → x ≡ e.Select n bracket i → j ≡ i → (names : List Entry) → reads_of names x ≡ (Read n (index_bits n i names) ∷ []) ++ reads_of names j
when_select x i j n bracket is p names =
    rw p (ap (reads_of names) (is ∙ sym (e.rolls-Select n bracket i)) ∙ para-roll-Expr (List Access) (read_step names) (o.Select n bracket i))

pub when_part : (x m l : Expr) (n : Ident) (bracket ma la : ℕ) → x ≡ e.Part n bracket ma m la l → (names : List Entry) → reads_of names x ≡ Read n (bound_bits n m l names) ∷ []
when_part x m l n bracket ma la is names =
    ap (reads_of names) (is ∙ sym (e.rolls-Part n bracket ma m la l)) ∙ para-roll-Expr (List Access) (read_step names) (o.Part n bracket ma m la l)

pub when_unary : (x a b : Expr) (op : UnaryOperator) → x ≡ e.Unary op a → b ≡ a → (names : List Entry) → reads_of names x ≡ reads_of names b
when_unary x a b op is p names = rw p (ap (reads_of names) (is ∙ sym (e.rolls-Unary op a)) ∙ para-roll-Expr (List Access) (read_step names) (o.Unary op a))

pub when_cast : (x a b : Expr) (s : Cast) → x ≡ e.Cast s a → b ≡ a → (names : List Entry) → reads_of names x ≡ reads_of names b
when_cast x a b s is p names = rw p (ap (reads_of names) (is ∙ sym (e.rolls-Cast s a)) ∙ para-roll-Expr (List Access) (read_step names) (o.Cast s a))

pub when_chain : (x a b : Expr) (links more : List (BinaryOperator × Expr)) → x ≡ e.Chain a links → b ≡ a → more ≡ links →
    (names : List Entry) → reads_of names x ≡ reads_of names b ++ flat_map (link_reads names) more
when_chain x a b links more is p q names =
    rw (p, q) (ap (reads_of names) (is ∙ sym (e.rolls-Chain a links)) ∙ para-roll-Expr (List Access) (read_step names) (o.Chain a links)
    ∙ ap (λ (r : List Access). reads_of names a ++ r)
    (flat_map-map (λ (link : BinaryOperator × Reading). link.1.1) (λ (l : BinaryOperator × Expr). (l.0, (l.1, reads_of names l.1))) links))

pub when_conditional : (x c a b c' a' b' : Expr) → x ≡ e.Conditional c a b → c' ≡ c → a' ≡ a → b' ≡ b →
    (names : List Entry) → reads_of names x ≡ reads_of names c' ++ reads_of names a' ++ reads_of names b'
when_conditional x c a b c' a' b' is p q r names =
    rw (p, q, r) (ap (reads_of names) (is ∙ sym (e.rolls-Conditional c a b)) ∙ para-roll-Expr (List Access) (read_step names) (o.Conditional c a b))

parts_map : (names : List Entry) (parts : List Expr) → flat_map (λ (x : Reading). x.1) (map (λ (y : Expr). (y, reads_of names y)) parts) ≡ flat_map (reads_of names) parts
parts_map names parts = flat_map-map (λ (x : Reading). x.1) (λ (y : Expr). (y, reads_of names y)) parts

pub when_concat : (x : Expr) (brace : ℕ) (parts more : List Expr) → x ≡ e.Concat brace parts → more ≡ parts → (names : List Entry) → reads_of names x ≡ flat_map (reads_of names) more
when_concat x brace parts more is q names =
    rw q (ap (reads_of names) (is ∙ sym (e.rolls-Concat brace parts)) ∙ para-roll-Expr (List Access) (read_step names) (o.Concat brace parts) ∙ parts_map names parts)

pub when_replicate : (x c : Expr) (brace ca inner : ℕ) (parts more : List Expr) → x ≡ e.Replicate brace ca c inner parts → more ≡ parts →
    (names : List Entry) → reads_of names x ≡ flat_map (reads_of names) more
when_replicate x c brace ca inner parts more is q names =
    rw q (ap (reads_of names) (is ∙ sym (e.rolls-Replicate brace ca c inner parts)) ∙ para-roll-Expr (List Access) (read_step names) (o.Replicate brace ca c inner parts)
    ∙ parts_map names parts)
