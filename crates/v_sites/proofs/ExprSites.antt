-- The sites of each kind of expression.
use Rattle.std.proofs.Common.{◌≡◌, ℕ, List, [], ◌∷◌, ◌++◌, map, flat_map, refl, ap, sym, ◌∙◌}
use Rattle.std.proofs.lemmas.List.Concat.{flat_map-cons}
use Rattle.v_syntax.specs.declared.token.Ident.{Ident}
use Rattle.v_syntax.specs.declared.token.Cast.{Cast}
use Rattle.v_syntax.specs.declared.expr.Expr.{Expr}
use Rattle.v_syntax.specs.declared.expr.Expr.TheVariants as e
use Rattle.v_syntax.specs.declared.expr.Expr.TheOpen as o
use Rattle.v_syntax.specs.declared.expr.Expr.TheFolds.{para-roll-Expr}
use Rattle.v_syntax.specs.declared.expr.Number.{Number}
use Rattle.v_syntax.specs.declared.expr.UnaryOperator.{UnaryOperator}
use Rattle.v_syntax.specs.declared.expr.BinaryOperator.{BinaryOperator}
use Rattle.v_meaning.specs.declared.names.Entry.{Entry}
use Rattle.v_meaning.specs.Literals.{literal_of, open_bits}
use Rattle.v_meaning.specs.Names.{entry_of}
use Rattle.v_meaning.specs.Sites.{Site, number_site, select_site, links_sites, parts_sites, site_step, sites_of}
use Rattle.v_sites.specs.Adding.{link_sites}

pub when_number : (names : List Entry) (x : Expr) (n : Number) → x ≡ e.Number n → sites_of names x ≡ number_site n.at (open_bits (literal_of n.spelling))
when_number names x n is = ap (sites_of names) (is ∙ sym (e.rolls-Number n)) ∙ para-roll-Expr (List Site) (site_step names) (o.Number n)

pub when_name : (names : List Entry) (x : Expr) (n : Ident) → x ≡ e.Name n → sites_of names x ≡ []
when_name names x n is = ap (sites_of names) (is ∙ sym (e.rolls-Name n)) ∙ para-roll-Expr (List Site) (site_step names) (o.Name n)

pub when_select : (names : List Entry) (x index j : Expr) (n : Ident) (bracket : ℕ) → x ≡ e.Select n bracket index → j ≡ index →
    sites_of names x ≡ select_site names (entry_of names n.name) n.at j ++ sites_of names j
when_select names x index j n bracket is same =
    rw same (ap (sites_of names) (is ∙ sym (e.rolls-Select n bracket index)) ∙ para-roll-Expr (List Site) (site_step names) (o.Select n bracket index))

pub when_part : (names : List Entry) (x msb lsb : Expr) (n : Ident) (bracket msb_at lsb_at : ℕ) → x ≡ e.Part n bracket msb_at msb lsb_at lsb → sites_of names x ≡ []
when_part names x msb lsb n bracket msb_at lsb_at is =
    ap (sites_of names) (is ∙ sym (e.rolls-Part n bracket msb_at msb lsb_at lsb)) ∙ para-roll-Expr (List Site) (site_step names) (o.Part n bracket msb_at msb lsb_at lsb)

pub when_unary : (names : List Entry) (x a b : Expr) (op : UnaryOperator) → x ≡ e.Unary op a → b ≡ a → sites_of names x ≡ sites_of names b
when_unary names x a b op is same = rw same (ap (sites_of names) (is ∙ sym (e.rolls-Unary op a)) ∙ para-roll-Expr (List Site) (site_step names) (o.Unary op a))

pub when_cast : (names : List Entry) (x a b : Expr) (sign : Cast) → x ≡ e.Cast sign a → b ≡ a → sites_of names x ≡ sites_of names b
when_cast names x a b sign is same = rw same (ap (sites_of names) (is ∙ sym (e.rolls-Cast sign a)) ∙ para-roll-Expr (List Site) (site_step names) (o.Cast sign a))

links_map : (names : List Entry) (links : List (BinaryOperator × Expr)) →
    links_sites (map (λ (l : BinaryOperator × Expr). (l.0, (l.1, sites_of names l.1))) links) ≡ flat_map (link_sites names) links
links_map names [] = refl
links_map names (l ∷ ls) = ap (λ (r : List Site). sites_of names l.1 ++ r) (links_map names ls) ∙ sym (flat_map-cons (link_sites names) l ls)

pub when_chain : (names : List Entry) (x a b : Expr) (links more : List (BinaryOperator × Expr)) → x ≡ e.Chain a links → b ≡ a → more ≡ links →
    sites_of names x ≡ sites_of names b ++ flat_map (link_sites names) more
when_chain names x a b links more is same same_links =
    rw (same, same_links) (ap (sites_of names) (is ∙ sym (e.rolls-Chain a links)) ∙ para-roll-Expr (List Site) (site_step names) (o.Chain a links)
    ∙ ap (λ (r : List Site). sites_of names a ++ r) (links_map names links))

pub when_conditional : (names : List Entry) (x c a b c' a' b' : Expr) → x ≡ e.Conditional c a b → c' ≡ c → a' ≡ a → b' ≡ b →
    sites_of names x ≡ sites_of names c' ++ sites_of names a' ++ sites_of names b'
when_conditional names x c a b c' a' b' is p q r =
    rw (p, q, r) (ap (sites_of names) (is ∙ sym (e.rolls-Conditional c a b)) ∙ para-roll-Expr (List Site) (site_step names) (o.Conditional c a b))

parts_map : (names : List Entry) (parts : List Expr) → parts_sites (map (λ (y : Expr). (y, sites_of names y)) parts) ≡ flat_map (sites_of names) parts
parts_map names [] = refl
parts_map names (x ∷ xs) = ap (λ (r : List Site). sites_of names x ++ r) (parts_map names xs) ∙ sym (flat_map-cons (sites_of names) x xs)

pub when_concat : (names : List Entry) (x : Expr) (brace : ℕ) (parts more : List Expr) → x ≡ e.Concat brace parts → more ≡ parts → sites_of names x ≡ flat_map (sites_of names) more
when_concat names x brace parts more is same =
    rw same (ap (sites_of names) (is ∙ sym (e.rolls-Concat brace parts)) ∙ para-roll-Expr (List Site) (site_step names) (o.Concat brace parts) ∙ parts_map names parts)

pub when_replicate : (names : List Entry) (x c : Expr) (brace at inner : ℕ) (parts more : List Expr) → x ≡ e.Replicate brace at c inner parts → more ≡ parts →
    sites_of names x ≡ flat_map (sites_of names) more
when_replicate names x c brace at inner parts more is same =
    rw same (ap (sites_of names) (is ∙ sym (e.rolls-Replicate brace at c inner parts)) ∙ para-roll-Expr (List Site) (site_step names) (o.Replicate brace at c inner parts)
    ∙ parts_map names parts)
