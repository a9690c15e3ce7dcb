-- What each variant of an expression means, where a match has found it and its parts were taken out.
use Rattle.std.proofs.Common.{◌≡◌, ap, sym, ◌∙◌, refl, ℕ, List, [], ◌∷◌, map}
use Rattle.v_syntax.specs.declared.token.Ident.{Ident}
use Rattle.v_syntax.specs.declared.token.Cast.{Cast}
use Rattle.v_syntax.specs.declared.expr.Expr.{Expr}
use Rattle.v_syntax.specs.declared.expr.Expr.TheVariants as e
use Rattle.v_syntax.specs.declared.expr.Expr.TheOpen as o
use Rattle.v_syntax.specs.declared.expr.Expr.TheFolds.{fold-roll-Expr}
use Rattle.v_syntax.specs.declared.expr.Number.{Number}
use Rattle.v_syntax.specs.declared.expr.UnaryOperator.{UnaryOperator}
use Rattle.v_syntax.specs.declared.expr.BinaryOperator.{BinaryOperator}
use Rattle.v_meaning.specs.Literals.{literal_of}
use Rattle.v_meaning.specs.Senses.{Sense, constant, prefixed, chained, chosen, joined, replicated, recast}
use Rattle.v_meaning.specs.declared.names.Entry.{Entry}
use Rattle.v_meaning.specs.Names.{entry_of, or_zero, read, read_part, selected}
use Rattle.v_meaning.specs.Expressions.{number_sense, open_at, sense_step, sense_of}
use Rattle.v_meaning.specs.Declarations.{constant_value}
use Rattle.v_typing.specs.Meanings.{meanings, link_meanings}
use Rattle.v_typing.proofs.Sites.{same}

pub when_number : (names : List Entry) (sites : List ℕ) (x : Expr) (n : Number) → x ≡ e.Number n →
    number_sense (literal_of n.spelling) (open_at sites n.at) ≡ sense_of names sites x
when_number names sites x n is =
    sym (ap (sense_of names sites) (is ∙ sym (e.rolls-Number n)) ∙ fold-roll-Expr Sense (sense_step names sites) (o.Number n))

pub when_name : (names : List Entry) (sites : List ℕ) (x : Expr) (n : Ident) → x ≡ e.Name n → read (entry_of names n.name) ≡ sense_of names sites x
when_name names sites x n is = sym (ap (sense_of names sites) (is ∙ sym (e.rolls-Name n)) ∙ fold-roll-Expr Sense (sense_step names sites) (o.Name n))

pub when_select : (names : List Entry) (sites : List ℕ) (x index i : Expr) (n : Ident) (bracket : ℕ) (s : Sense) → x ≡ e.Select n bracket index → i ≡ index → s ≡ sense_of names sites i →
    selected (entry_of names n.name) s (open_at sites n.at) ≡ sense_of names sites x
when_select names sites x index i n bracket s is p q =
    ap (λ (z : Sense). selected (entry_of names n.name) z (open_at sites n.at)) (q ∙ ap (sense_of names sites) p)
    ∙ sym (ap (sense_of names sites) (is ∙ sym (e.rolls-Select n bracket index)) ∙ fold-roll-Expr Sense (sense_step names sites) (o.Select n bracket index))

pub when_unary : (names : List Entry) (sites : List ℕ) (x a b : Expr) (op : UnaryOperator) (s : Sense) → x ≡ e.Unary op a → b ≡ a → s ≡ sense_of names sites b →
    prefixed op s ≡ sense_of names sites x
when_unary names sites x a b op s is p q =
    ap (prefixed op) (q ∙ ap (sense_of names sites) p)
    ∙ sym (ap (sense_of names sites) (is ∙ sym (e.rolls-Unary op a)) ∙ fold-roll-Expr Sense (sense_step names sites) (o.Unary op a))

pub when_cast : (names : List Entry) (sites : List ℕ) (x a b : Expr) (sign : Cast) (s : Sense) → x ≡ e.Cast sign a → b ≡ a → s ≡ sense_of names sites b →
    recast sign s ≡ sense_of names sites x
when_cast names sites x a b sign s is p q =
    ap (recast sign) (q ∙ ap (sense_of names sites) p)
    ∙ sym (ap (sense_of names sites) (is ∙ sym (e.rolls-Cast sign a)) ∙ fold-roll-Expr Sense (sense_step names sites) (o.Cast sign a))

pub when_conditional : (names : List Entry) (sites : List ℕ) (x c a b c' a' b' : Expr) (s t u : Sense) → x ≡ e.Conditional c a b → c' ≡ c → a' ≡ a → b' ≡ b →
    s ≡ sense_of names sites c' → t ≡ sense_of names sites a' → u ≡ sense_of names sites b' → chosen s t u ≡ sense_of names sites x
when_conditional names sites x c a b c' a' b' s t u is p q r p' q' r' =
    ap (λ (z : Sense). chosen z t u) (p' ∙ ap (sense_of names sites) p) ∙ ap (λ (z : Sense). chosen (sense_of names sites c) z u) (q' ∙ ap (sense_of names sites) q)
    ∙ ap (λ (z : Sense). chosen (sense_of names sites c) (sense_of names sites a) z) (r' ∙ ap (sense_of names sites) r)
    ∙ sym (ap (sense_of names sites) (is ∙ sym (e.rolls-Conditional c a b)) ∙ fold-roll-Expr Sense (sense_step names sites) (o.Conditional c a b))

links_map : (names : List Entry) (sites : List ℕ) (links : List (BinaryOperator × Expr)) →
    map (λ (l : BinaryOperator × Expr). (l.0, sense_of names sites l.1)) links ≡ link_meanings names sites links
links_map names sites [] = refl
links_map names sites (l ∷ ls) = ap (λ (r : List (BinaryOperator × Sense)). (l.0, sense_of names sites l.1) ∷ r) (links_map names sites ls)

pub when_chain : (names : List Entry) (sites : List ℕ) (x a b : Expr) (links more : List (BinaryOperator × Expr)) (s : Sense) → x ≡ e.Chain a links → b ≡ a → more ≡ links →
    s ≡ sense_of names sites b → chained s (link_meanings names sites more) ≡ sense_of names sites x
when_chain names sites x a b links more s is p q r =
    ap (λ (z : Sense). chained z (link_meanings names sites more)) (r ∙ ap (sense_of names sites) p)
    ∙ ap (λ (ls : List (BinaryOperator × Expr)). chained (sense_of names sites a) (link_meanings names sites ls)) q
    ∙ sym
    (ap (sense_of names sites) (is ∙ sym (e.rolls-Chain a links)) ∙ fold-roll-Expr Sense (sense_step names sites) (o.Chain a links)
    ∙ ap (chained (sense_of names sites a)) (links_map names sites links))

parts_map : (names : List Entry) (sites : List ℕ) (parts : List Expr) → map (sense_of names sites) parts ≡ meanings names sites parts
parts_map names sites [] = refl
parts_map names sites (x ∷ xs) = ap (λ (r : List Sense). sense_of names sites x ∷ r) (parts_map names sites xs)

pub when_concat : (names : List Entry) (sites : List ℕ) (x : Expr) (brace : ℕ) (parts more : List Expr) → x ≡ e.Concat brace parts → more ≡ parts →
    joined (meanings names sites more) ≡ sense_of names sites x
when_concat names sites x brace parts more is p =
    ap (λ (xs : List Expr). joined (meanings names sites xs)) p
    ∙ sym
    (ap (sense_of names sites) (is ∙ sym (e.rolls-Concat brace parts)) ∙ fold-roll-Expr Sense (sense_step names sites) (o.Concat brace parts)
    ∙ ap joined (parts_map names sites parts))

-- ---- what holds constants

-- the number of a constant, whatever sites there are
constant_at : (names : List Entry) (sites : List ℕ) (x y : Expr) → y ≡ x → or_zero (constant_value names y) ≡ or_zero (constant (sense_of names sites x))
constant_at names sites x y p = ap (λ (z : Expr). or_zero (constant_value names z)) p ∙ sym (ap (λ (s : Sense). or_zero (constant s)) (same names sites x))

pub when_part : (names : List Entry) (sites : List ℕ) (x msb lsb m l : Expr) (n : Ident) (bracket msb_at lsb_at : ℕ) → x ≡ e.Part n bracket msb_at msb lsb_at lsb → m ≡ msb → l ≡ lsb →
    read_part (entry_of names n.name) (or_zero (constant_value names m)) (or_zero (constant_value names l)) ≡ sense_of names sites x
when_part names sites x msb lsb m l n bracket msb_at lsb_at is p q =
    (λ i. read_part (entry_of names n.name) (constant_at names sites msb m p i) (constant_at names sites lsb l q i))
    ∙ sym (ap (sense_of names sites) (is ∙ sym (e.rolls-Part n bracket msb_at msb lsb_at lsb)) ∙ fold-roll-Expr Sense (sense_step names sites) (o.Part n bracket msb_at msb lsb_at lsb))

pub when_replicate : (names : List Entry) (sites : List ℕ) (x count n : Expr) (brace at inner : ℕ) (parts more : List Expr) (s : Sense) → x ≡ e.Replicate brace at count inner parts → n ≡ count →
    more ≡ parts → s ≡ joined (meanings names sites more) → replicated (or_zero (constant_value names n)) s ≡ sense_of names sites x
when_replicate names sites x count n brace at inner parts more s is p q h =
    (λ i. replicated (constant_at names sites count n p i) ((h ∙ ap (λ (xs : List Expr). joined (meanings names sites xs)) q ∙ sym (ap joined (parts_map names sites parts))) i))
    ∙ sym
    (ap (sense_of names sites) (is ∙ sym (e.rolls-Replicate brace at count inner parts))
    ∙ fold-roll-Expr Sense (sense_step names sites) (o.Replicate brace at count inner parts))
