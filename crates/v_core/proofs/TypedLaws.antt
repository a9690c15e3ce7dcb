-- What typed expressions mean that are lists: chains, and operands side by side.
use Rattle.std.proofs.Common.{◌≡◌, ap, sym, ◌∙◌, refl, ℕ, List, [], ◌∷◌, ◌++◌, map, reverse}
use Rattle.v_meaning.specs.Views.{View}
use Rattle.v_meaning.specs.Senses.{operation}
use Rattle.v_meaning.specs.declared.names.Entry.{Entry}
use Rattle.std.proofs.Math.Path.{fun_ext}
use Rattle.std.proofs.lemmas.List.{reverse-append}
use Rattle.v_core.specs.declared.typed.Link.{Link}
use Rattle.v_core.specs.declared.typed.Typed.{Typed}
use Rattle.v_core.specs.declared.typed.Typed.TheVariants as e
use Rattle.v_core.specs.declared.typed.Typed.TheOpen as o
use Rattle.v_core.specs.declared.typed.Typed.TheFolds.{fold-roll-Typed}
use Rattle.v_core.specs.Values.{Value, typed_step, typed_value, chain_value, concat_value, link_values, part_values}

links_map : (links : List (Link × Typed)) → map (λ (l : Link × Typed). (l.0, typed_value l.1)) links ≡ link_values links
links_map [] = refl
links_map (l ∷ ls) = ap (λ (r : List (Link × Value)). (l.0, typed_value l.1) ∷ r) (links_map ls)

parts_map : (parts : List (ℕ × Typed)) → map (λ (p : ℕ × Typed). (p.0, typed_value p.1)) parts ≡ part_values parts
parts_map [] = refl
parts_map (p ∷ ps) = ap (λ (r : List (ℕ × Value)). (p.0, typed_value p.1) ∷ r) (parts_map ps)

pub typed_chain : (x : Typed) (links : List (Link × Typed)) →
    typed_value (e.Chain x links) ≡ (λ names v. chain_value (typed_value x names v) (link_values links) names v)
typed_chain x links =
    ap typed_value (sym (e.rolls-Chain x links)) ∙ fold-roll-Typed Value typed_step (o.Chain x links)
    ∙ ap {B = Value} (λ (r : List (Link × Value)) (names : List Entry) (v : View). chain_value (typed_value x names v) r names v) (links_map links)

pub typed_concat : (parts : List (ℕ × Typed)) → typed_value (e.Concat parts) ≡ concat_value 0 (part_values parts)
typed_concat parts =
    ap typed_value (sym (e.rolls-Concat parts)) ∙ fold-roll-Typed Value typed_step (o.Concat parts)
    ∙ ap (concat_value 0) (parts_map parts)

-- ---- one more behind them

pub link_values_push : (links : List (Link × Typed)) (l : Link × Typed) → link_values (links ++ l ∷ []) ≡ link_values links ++ (l.0, typed_value l.1) ∷ []
link_values_push [] l = refl
link_values_push (x ∷ xs) l = ap (λ (r : List (Link × Value)). (x.0, typed_value x.1) ∷ r) (link_values_push xs l)

pub chain_value_push : (n : ℕ) (links : List (Link × Value)) (l : Link × Value) (names : List Entry) (v : View) →
    chain_value n (links ++ l ∷ []) names v ≡ operation l.0.operator l.0.width l.0.signed (chain_value n links names v) (l.1 names v)
chain_value_push n [] l names v = refl
chain_value_push n (x ∷ xs) l names v = chain_value_push (operation x.0.operator x.0.width x.0.signed n (x.1 names v)) xs l names v

pub part_values_push : (parts : List (ℕ × Typed)) (p : ℕ × Typed) → part_values (parts ++ p ∷ []) ≡ part_values parts ++ (p.0, typed_value p.1) ∷ []
part_values_push [] p = refl
part_values_push (x ∷ xs) p = ap (λ (r : List (ℕ × Value)). (x.0, typed_value x.1) ∷ r) (part_values_push xs p)

-- one more operator behind a value
abbrev pub after : Value → Link → Value → Value
after x link y names v = operation link.operator link.width link.signed (x names v) (y names v)

chain_push : (x : Typed) (links : List (Link × Typed)) (l : Link × Typed) →
    typed_value (e.Chain x (links ++ l ∷ [])) ≡ after (typed_value (e.Chain x links)) l.0 (typed_value l.1)
chain_push x links l =
    typed_chain x (links ++ l ∷ [])
    ∙ ap {B = Value} (λ (r : List (Link × Value)) (names : List Entry) (v : View). chain_value (typed_value x names v) r names v) (link_values_push links l)
    ∙ fun_ext (λ names. fun_ext (λ v. chain_value_push (typed_value x names v) (link_values links) (l.0, typed_value l.1) names v))
    ∙ ap (λ (f : Value). after f l.0 (typed_value l.1)) (sym (typed_chain x links))

pub linked_behind_chain : (x first y : Typed) (link : Link) (links more : List (Link × Typed)) → x ≡ e.Chain first links → more ≡ links ++ (link, y) ∷ [] →
    typed_value (e.Chain first more) ≡ after (typed_value x) link (typed_value y)
linked_behind_chain x first y link links more p q =
    ap (λ (r : List (Link × Typed)). typed_value (e.Chain first r)) q ∙ chain_push first links (link, y)
    ∙ ap (λ (z : Typed). after (typed_value z) link (typed_value y)) (sym p)

pub linked_behind : (x y t : Typed) (link : Link) (start links : List (Link × Typed)) → start ≡ [] → links ≡ start ++ (link, y) ∷ [] →
    typed_value t ≡ (λ names v. chain_value (typed_value x names v) (link_values links) names v) → typed_value t ≡ after (typed_value x) link (typed_value y)
linked_behind x y t link start links p q is =
    is ∙ ap {B = Value} (λ (r : List (Link × Typed)) (names : List Entry) (v : View). chain_value (typed_value x names v) (link_values r) names v)
    (q ∙ ap (λ (r : List (Link × Typed)). r ++ (link, y) ∷ []) p)

-- ---- in the other order

pub link_values_reverse : (links : List (Link × Typed)) → link_values (reverse links) ≡ reverse (link_values links)
link_values_reverse [] = refl
link_values_reverse (l ∷ ls) =
    ap link_values (reverse-append (l ∷ []) ls) ∙ link_values_push (reverse ls) l
    ∙ ap (λ (r : List (Link × Value)). r ++ (l.0, typed_value l.1) ∷ []) (link_values_reverse ls)
    ∙ sym (reverse-append ((l.0, typed_value l.1) ∷ []) (link_values ls))
