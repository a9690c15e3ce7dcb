-- How typed expressions that are lists keep to their widths: chains, and operands side by side.
use Rattle.std.proofs.Common.{◌≡◌, ap, sym, ◌∙◌, refl, ℕ, List, [], ◌∷◌, ◌++◌, map, reverse}
use Rattle.std.proofs.Math.Path.{fun_ext}
use Rattle.std.proofs.lemmas.List.{reverse-append}
use Rattle.v_meaning.specs.declared.names.Entry.{Entry}
use Rattle.v_core.specs.declared.typed.Link.{Link}
use Rattle.v_core.specs.declared.typed.Typed.{Typed}
use Rattle.v_core.specs.declared.typed.Typed.TheVariants as e
use Rattle.v_core.specs.declared.typed.Typed.TheOpen as o
use Rattle.v_core.specs.declared.typed.Typed.TheFolds.{fold-roll-Typed}
use Rattle.v_core.specs.Formed.{Formed, FormedIn, formed, formed_step, formed_chain, formed_parts, link_forms, part_forms, within_words}
use Rattle.v_core.specs.OpenForms.{linked_form}

links_map : (links : List (Link × Typed)) → map (λ (l : Link × Typed). (l.0, formed l.1)) links ≡ link_forms links
links_map [] = refl
links_map (l ∷ ls) = ap (λ (r : List (Link × FormedIn)). (l.0, formed l.1) ∷ r) (links_map ls)

parts_map : (parts : List (ℕ × Typed)) → map (λ (p : ℕ × Typed). (p.0, formed p.1)) parts ≡ part_forms parts
parts_map [] = refl
parts_map (p ∷ ps) = ap (λ (r : List (ℕ × FormedIn)). (p.0, formed p.1) ∷ r) (parts_map ps)

pub form_chain : (x : Typed) (links : List (Link × Typed)) → formed (e.Chain x links) ≡ (λ names. formed_chain (formed x names) (link_forms links) names)
form_chain x links =
    ap formed (sym (e.rolls-Chain x links)) ∙ fold-roll-Typed FormedIn formed_step (o.Chain x links)
    ∙ ap {B = FormedIn} (λ (r : List (Link × FormedIn)) (names : List Entry). formed_chain (formed x names) r names) (links_map links)

pub form_concat : (parts : List (ℕ × Typed)) → formed (e.Concat parts) ≡ (λ names. within_words (formed_parts (part_forms parts) names))
form_concat parts =
    ap formed (sym (e.rolls-Concat parts)) ∙ fold-roll-Typed FormedIn formed_step (o.Concat parts)
    ∙ ap {B = FormedIn} (λ (r : List (ℕ × FormedIn)) (names : List Entry). within_words (formed_parts r names)) (parts_map parts)

-- ---- one more behind them

pub link_forms_push : (links : List (Link × Typed)) (l : Link × Typed) → link_forms (links ++ l ∷ []) ≡ link_forms links ++ (l.0, formed l.1) ∷ []
link_forms_push [] l = refl
link_forms_push (x ∷ xs) l = ap (λ (r : List (Link × FormedIn)). (x.0, formed x.1) ∷ r) (link_forms_push xs l)

pub formed_chain_push : (x : Formed) (links : List (Link × FormedIn)) (l : Link × FormedIn) (names : List Entry) →
    formed_chain x (links ++ l ∷ []) names ≡ linked_form l.0 (formed_chain x links names) (l.1 names)
formed_chain_push x [] l names = refl
formed_chain_push x (y ∷ ys) l names = formed_chain_push (linked_form y.0 x (y.1 names)) ys l names

-- one more operator behind an expression
abbrev pub form_after : FormedIn → Link → FormedIn → FormedIn
form_after x link y names = linked_form link (x names) (y names)

form_push : (x : Typed) (links : List (Link × Typed)) (l : Link × Typed) → formed (e.Chain x (links ++ l ∷ [])) ≡ form_after (formed (e.Chain x links)) l.0 (formed l.1)
form_push x links l =
    form_chain x (links ++ l ∷ [])
    ∙ ap {B = FormedIn} (λ (r : List (Link × FormedIn)) (names : List Entry). formed_chain (formed x names) r names) (link_forms_push links l)
    ∙ fun_ext (λ names. formed_chain_push (formed x names) (link_forms links) (l.0, formed l.1) names)
    ∙ ap (λ (f : FormedIn). form_after f l.0 (formed l.1)) (sym (form_chain x links))

pub form_behind_chain : (x first y : Typed) (link : Link) (links more : List (Link × Typed)) → x ≡ e.Chain first links → more ≡ links ++ (link, y) ∷ [] →
    formed (e.Chain first more) ≡ form_after (formed x) link (formed y)
form_behind_chain x first y link links more p q =
    ap (λ (r : List (Link × Typed)). formed (e.Chain first r)) q ∙ form_push first links (link, y)
    ∙ ap (λ (z : Typed). form_after (formed z) link (formed y)) (sym p)

pub form_behind : (x y t : Typed) (link : Link) (start links : List (Link × Typed)) → start ≡ [] → links ≡ start ++ (link, y) ∷ [] →
    formed t ≡ (λ names. formed_chain (formed x names) (link_forms links) names) → formed t ≡ form_after (formed x) link (formed y)
form_behind x y t link start links p q is =
    is ∙ ap {B = FormedIn} (λ (r : List (Link × Typed)) (names : List Entry). formed_chain (formed x names) (link_forms r) names)
    (q ∙ ap (λ (r : List (Link × Typed)). r ++ (link, y) ∷ []) p)

-- ---- in the other order

pub link_forms_reverse : (links : List (Link × Typed)) → link_forms (reverse links) ≡ reverse (link_forms links)
link_forms_reverse [] = refl
link_forms_reverse (l ∷ ls) =
    ap link_forms (reverse-append (l ∷ []) ls) ∙ link_forms_push (reverse ls) l
    ∙ ap (λ (r : List (Link × FormedIn)). r ++ (l.0, formed l.1) ∷ []) (link_forms_reverse ls)
    ∙ sym (reverse-append ((l.0, formed l.1) ∷ []) (link_forms ls))
