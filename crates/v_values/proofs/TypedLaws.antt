-- What typed expressions are that are lists or choices: their values, widths and sites.
use Rattle.std.proofs.Common.{◌≡◌, ◌≤◌, ◌<◌, ap, sym, subst, ◌∙◌, refl, arith, ℕ, List, [], ◌∷◌, map, Bool, true, ◌&&◌}
use Rattle.std.specs.Prelude.{◌^◌, ◌==◌, nat_le, slice_index}
use Rattle.std.specs.List.{list_all}
use Rattle.std.proofs.Math.Nat.{pow-le-pow_right}
use Rattle.std.proofs.lemmas.Bool.{leb-true, eqb-true}
use Rattle.std.proofs.lemmas.List.Folds.{list_all-map}
use Rattle.v_meaning.specs.Views.{View}
use Rattle.v_meaning.specs.declared.names.Entry.{Entry}
use Rattle.v_core.specs.declared.typed.Link.{Link}
use Rattle.v_core.specs.declared.typed.Typed.{Typed}
use Rattle.v_core.specs.declared.typed.Typed.TheVariants as e
use Rattle.v_core.specs.declared.typed.Typed.TheOpen as o
use Rattle.v_core.specs.declared.typed.Typed.TheFolds.{fold-roll-Typed}
use Rattle.v_core.specs.Values.{Value, entry_at, typed_step, typed_value, chain_value, concat_value, link_values, part_values}
use Rattle.v_core.specs.Formed.{Formed, FormedIn, has, is_width, selected_width, within_words, formed, formed_chain, formed_parts, formed_step, link_forms, part_forms}
use Rattle.v_core.specs.Sited.{SitedIn, sited_step, is_sited}
use Rattle.v_values.proofs.Tests.{first_of, second_of}

-- ---- operands behind the first one

links_map : (links : List (Link × Typed)) → map (λ (l : Link × Typed). (l.0, typed_value l.1)) links ≡ link_values links
links_map [] = refl
links_map (l ∷ ls) = ap (λ (r : List (Link × Value)). (l.0, typed_value l.1) ∷ r) (links_map ls)

pub chain_means : (x y z : Typed) (links more : List (Link × Typed)) (names : List Entry) (v : View) (first r : ℕ) → x ≡ e.Chain y links → z ≡ y → more ≡ links →
    first ≡ typed_value z names v → r ≡ chain_value first (link_values more) names v → r ≡ typed_value x names v
chain_means x y z links more names v first r is p q f h =
    h
    ∙ (λ i. chain_value ((f ∙ ap (λ (t : Typed). typed_value t names v) p) i) (link_values (q i)) names v)
    ∙ sym
    (ap (λ (t : Typed). typed_value t names v) (is ∙ sym (e.rolls-Chain y links)) ∙ ap (λ (f : Value). f names v) (fold-roll-Typed Value typed_step (o.Chain y links))
    ∙ ap (λ (r : List (Link × Value)). chain_value (typed_value y names v) r names v) (links_map links))

link_forms_map : (links : List (Link × Typed)) → map (λ (l : Link × Typed). (l.0, formed l.1)) links ≡ link_forms links
link_forms_map [] = refl
link_forms_map (l ∷ ls) = ap (λ (r : List (Link × FormedIn)). (l.0, formed l.1) ∷ r) (link_forms_map ls)

-- how many bits a chain has
pub chain_form : (x y z : Typed) (links more : List (Link × Typed)) (names : List Entry) → x ≡ e.Chain y links → z ≡ y → more ≡ links →
    formed x names ≡ formed_chain (formed z names) (link_forms more) names
chain_form x y z links more names is p q =
    ap (λ (t : Typed). formed t names) (is ∙ sym (e.rolls-Chain y links)) ∙ ap (λ (f : FormedIn). f names) (fold-roll-Typed FormedIn formed_step (o.Chain y links))
    ∙ ap (λ (r : List (Link × FormedIn)). formed_chain (formed y names) r names) (link_forms_map links)
    ∙ (λ i. formed_chain (formed (sym p i) names) (link_forms (sym q i)) names)

chain_sited : (x y : Typed) (links : List (Link × Typed)) (names : List Entry) (sites : List ℕ) → x ≡ e.Chain y links → is_sited x names sites ≡ true →
    (is_sited y names sites && list_all (λ (l : Link × Typed). is_sited l.1 names sites) links) ≡ true
chain_sited x y links names sites is h =
    sym
    (ap (λ (t : Typed). is_sited t names sites) (is ∙ sym (e.rolls-Chain y links)) ∙ ap (λ (f : SitedIn). f names sites) (fold-roll-Typed SitedIn sited_step (o.Chain y links))
    ∙ ap (λ (b : Bool). is_sited y names sites && b) (list_all-map (λ (l : Link × SitedIn). l.1 names sites) (λ (l : Link × Typed). (l.0, is_sited l.1)) links))
    ∙ h

pub sited_first : (x y z : Typed) (links : List (Link × Typed)) (names : List Entry) (sites : List ℕ) → x ≡ e.Chain y links → z ≡ y → is_sited x names sites ≡ true →
    is_sited z names sites ≡ true
sited_first x y z links names sites is p h =
    ap (λ (t : Typed). is_sited t names sites) p ∙ first_of (is_sited y names sites) (list_all (λ (l : Link × Typed). is_sited l.1 names sites) links) (chain_sited x y links names sites is h)

pub sited_links : (x y : Typed) (links more : List (Link × Typed)) (names : List Entry) (sites : List ℕ) → x ≡ e.Chain y links → more ≡ links → is_sited x names sites ≡ true →
    list_all (λ (l : Link × Typed). is_sited l.1 names sites) more ≡ true
sited_links x y links more names sites is p h =
    ap (list_all (λ (l : Link × Typed). is_sited l.1 names sites)) p
    ∙ second_of (is_sited y names sites) (list_all (λ (l : Link × Typed). is_sited l.1 names sites) links) (chain_sited x y links names sites is h)

-- ---- operands side by side

parts_map : (parts : List (ℕ × Typed)) → map (λ (p : ℕ × Typed). (p.0, typed_value p.1)) parts ≡ part_values parts
parts_map [] = refl
parts_map (p ∷ ps) = ap (λ (r : List (ℕ × Value)). (p.0, typed_value p.1) ∷ r) (parts_map ps)

pub concat_means : (x : Typed) (parts more : List (ℕ × Typed)) (names : List Entry) (v : View) (r : ℕ) → x ≡ e.Concat parts → more ≡ parts →
    r ≡ concat_value 0 (part_values more) names v → r ≡ typed_value x names v
concat_means x parts more names v r is q h =
    h ∙ (λ i. concat_value 0 (part_values (q i)) names v)
    ∙ sym
    (ap (λ (t : Typed). typed_value t names v) (is ∙ sym (e.rolls-Concat parts)) ∙ ap (λ (f : Value). f names v) (fold-roll-Typed Value typed_step (o.Concat parts))
    ∙ ap (λ (r : List (ℕ × Value)). concat_value 0 r names v) (parts_map parts))

part_forms_map : (parts : List (ℕ × Typed)) → map (λ (p : ℕ × Typed). (p.0, formed p.1)) parts ≡ part_forms parts
part_forms_map [] = refl
part_forms_map (p ∷ ps) = ap (λ (r : List (ℕ × FormedIn)). (p.0, formed p.1) ∷ r) (part_forms_map ps)

pub concat_form : (x : Typed) (parts more : List (ℕ × Typed)) (names : List Entry) → x ≡ e.Concat parts → more ≡ parts →
    formed x names ≡ within_words (formed_parts (part_forms more) names)
concat_form x parts more names is q =
    ap (λ (t : Typed). formed t names) (is ∙ sym (e.rolls-Concat parts)) ∙ ap (λ (f : FormedIn). f names) (fold-roll-Typed FormedIn formed_step (o.Concat parts))
    ∙ ap (λ (r : List (ℕ × FormedIn)). within_words (formed_parts r names)) (part_forms_map parts)
    ∙ (λ i. within_words (formed_parts (part_forms (sym q i)) names))

pub sited_parts : (x : Typed) (parts more : List (ℕ × Typed)) (names : List Entry) (sites : List ℕ) → x ≡ e.Concat parts → more ≡ parts → is_sited x names sites ≡ true →
    list_all (λ (p : ℕ × Typed). is_sited p.1 names sites) more ≡ true
sited_parts x parts more names sites is q h =
    ap (list_all (λ (p : ℕ × Typed). is_sited p.1 names sites)) q
    ∙ sym
    (ap (λ (t : Typed). is_sited t names sites) (is ∙ sym (e.rolls-Concat parts)) ∙ ap (λ (f : SitedIn). f names sites) (fold-roll-Typed SitedIn sited_step (o.Concat parts))
    ∙ list_all-map (λ (p : ℕ × SitedIn). p.1 names sites) (λ (p : ℕ × Typed). (p.0, is_sited p.1)) parts)
    ∙ h

-- ---- choices

-- a choice between two operands of this width
abbrev choice_of : ℕ → Formed → Formed → Formed → Formed
choice_of w c x y = record { width = w; kept = c.kept && has w x && has w y }

pub choice_form : (x c a b : Typed) (w : ℕ) (names : List Entry) → x ≡ e.Choice w c a b → formed x names ≡ choice_of w (formed c names) (formed a names) (formed b names)
choice_form x c a b w names is =
    ap (λ (t : Typed). formed t names) (is ∙ sym (e.rolls-Choice w c a b)) ∙ ap (λ (f : FormedIn). f names) (fold-roll-Typed FormedIn formed_step (o.Choice w c a b))

choice_kept : (x c a b : Typed) (w : ℕ) (names : List Entry) → x ≡ e.Choice w c a b → (formed x names).kept ≡ true →
    (((formed c names).kept && has w (formed a names)) && has w (formed b names)) ≡ true
choice_kept x c a b w names is h = sym (ap (λ (f : Formed). f.kept) (choice_form x c a b w names is)) ∙ h

pub then_has : (x c a b z : Typed) (w : ℕ) (names : List Entry) → x ≡ e.Choice w c a b → z ≡ a → (formed x names).kept ≡ true → has w (formed z names) ≡ true
then_has x c a b z w names is p h =
    ap (λ (t : Typed). has w (formed t names)) p
    ∙ second_of (formed c names).kept (has w (formed a names)) (first_of ((formed c names).kept && has w (formed a names)) (has w (formed b names)) (choice_kept x c a b w names is h))

pub otherwise_has : (x c a b z : Typed) (w : ℕ) (names : List Entry) → x ≡ e.Choice w c a b → z ≡ b → (formed x names).kept ≡ true → has w (formed z names) ≡ true
otherwise_has x c a b z w names is p h =
    ap (λ (t : Typed). has w (formed t names)) p
    ∙ second_of ((formed c names).kept && has w (formed a names)) (has w (formed b names)) (choice_kept x c a b w names is h)

choice_sited : (x c a b : Typed) (w : ℕ) (names : List Entry) (sites : List ℕ) → x ≡ e.Choice w c a b → is_sited x names sites ≡ true →
    ((is_sited c names sites && is_sited a names sites) && is_sited b names sites) ≡ true
choice_sited x c a b w names sites is h =
    sym (ap (λ (t : Typed). is_sited t names sites) (is ∙ sym (e.rolls-Choice w c a b)) ∙ ap (λ (f : SitedIn). f names sites) (fold-roll-Typed SitedIn sited_step (o.Choice w c a b))) ∙ h

pub sited_then : (x c a b z : Typed) (w : ℕ) (names : List Entry) (sites : List ℕ) → x ≡ e.Choice w c a b → z ≡ a → is_sited x names sites ≡ true → is_sited z names sites ≡ true
sited_then x c a b z w names sites is p h =
    ap (λ (t : Typed). is_sited t names sites) p
    ∙ second_of (is_sited c names sites) (is_sited a names sites) (first_of (is_sited c names sites && is_sited a names sites) (is_sited b names sites) (choice_sited x c a b w names sites is h))

pub sited_otherwise : (x c a b z : Typed) (w : ℕ) (names : List Entry) (sites : List ℕ) → x ≡ e.Choice w c a b → z ≡ b → is_sited x names sites ≡ true → is_sited z names sites ≡ true
sited_otherwise x c a b z w names sites is p h =
    ap (λ (t : Typed). is_sited t names sites) p
    ∙ second_of (is_sited c names sites && is_sited a names sites) (is_sited b names sites) (choice_sited x c a b w names sites is h)

pub kept_of : (w : ℕ) (x : Formed) → has w x ≡ true → x.kept ≡ true
kept_of w x h = second_of (x.width == w) x.kept h

-- what a choice answers has the width of the choice
pub choice_word : (x c a b z : Typed) (w r : ℕ) (names : List Entry) → x ≡ e.Choice w c a b → has w (formed z names) ≡ true → is_width (formed z names).width ≡ true →
    r < 2 ^ (formed z names).width → (r < 2 ^ (formed x names).width) × (is_width (formed x names).width ≡ true)
choice_word x c a b z w r names is h word below =
    let same : (formed z names).width ≡ (formed x names).width =
    eqb-true (formed z names).width w (first_of ((formed z names).width == w) (formed z names).kept h) ∙ sym (ap (λ (f : Formed). f.width) (choice_form x c a b w names is)) in
    (subst (λ (k : ℕ). r < 2 ^ k) same below, subst (λ (k : ℕ). is_width k ≡ true) same word)

-- ---- selects

-- the bits of a site that has no more bits than a bit or word
pub free_below : (x index : Typed) (name at site w : ℕ) (s : Bool) (names : List Entry) (sites : List ℕ) (free : ℕ) → x ≡ e.Select name at site w s index →
    is_sited x names sites ≡ true → free < 2 ^ slice_index sites site → free < 2 ^ selected_width (entry_at names name).kind (entry_at names name).width
free_below x index name at site w s names sites free is h below =
    let all = sym (ap (λ (t : Typed). is_sited t names sites) (is ∙ sym (e.rolls-Select name at site w s index)) ∙ ap (λ (f : SitedIn). f names sites) (fold-roll-Typed SitedIn sited_step (o.Select name at site w s index))) ∙ h in
    let wide : slice_index sites site ≤ selected_width (entry_at names name).kind (entry_at names name).width =
    leb-true _ _ (first_of (nat_le (slice_index sites site) (selected_width (entry_at names name).kind (entry_at names name).width)) (is_sited index names sites) all) in
    omega (arith, below, pow-le-pow_right {n = 2} (omega arith) wide)
