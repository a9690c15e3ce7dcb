-- The sites of open expressions are those of their operands.
use Rattle.std.proofs.Common.{◌≡◌, ap, sym, ◌∙◌, refl, ℕ, List, [], ◌∷◌, ◌++◌, true}
use Rattle.std.specs.Prelude.{◌&&◌, nat_le, slice_index}
use Rattle.std.proofs.lemmas.List.Folds.{list_all-append}
use Rattle.v_syntax.specs.declared.expr.UnaryOperator.{UnaryOperator}
use Rattle.v_meaning.specs.declared.names.Entry.{Entry}
use Rattle.v_meaning.specs.Expressions.{number_of_place}
use Rattle.v_core.specs.declared.typed.Typed.{Typed}
use Rattle.v_core.specs.declared.open.Body.{Body}
use Rattle.v_core.specs.declared.open.Body.TheVariants as e
use Rattle.v_core.specs.declared.open.Body.TheOpen as o
use Rattle.v_core.specs.declared.open.Body.TheFolds.{fold-roll-Body}
use Rattle.v_core.specs.Values.{entry_at}
use Rattle.v_core.specs.Formed.{selected_width}
use Rattle.v_core.specs.Sited.{SitedIn, is_sited, are_sited_parts, sited_body_step, is_sited_body}
use Rattle.v_typing.proofs.KeepLaws.{both}

-- both of two
abbrev pub both_sited : SitedIn → SitedIn → SitedIn
both_sited x y names sites = x names sites && y names sites

pub leaf_sited : (width : ℕ) (x : Typed) → is_sited_body (e.Leaf width x) ≡ is_sited x
leaf_sited width x = ap is_sited_body (sym (e.rolls-Leaf width x)) ∙ fold-roll-Body SitedIn sited_body_step (o.Leaf width x)

-- an operator between two operands, as a leaf
pub linked_sited : (t left right : Typed) (o x y : Body) → is_sited_body o ≡ is_sited t → is_sited t ≡ both_sited (is_sited left) (is_sited right) →
    is_sited left ≡ is_sited_body x → is_sited right ≡ is_sited_body y → is_sited_body o ≡ both_sited (is_sited_body x) (is_sited_body y)
linked_sited t left right o x y is p q r = is ∙ p ∙ (λ i. both_sited (q i) (r i))

-- with an operand that determines itself
pub shifted_sited : (t : Typed) (b own x y : Body) → is_sited_body b ≡ both_sited (is_sited_body x) (is_sited_body own) → is_sited_body own ≡ is_sited t → is_sited t ≡ is_sited_body y →
    is_sited_body b ≡ both_sited (is_sited_body x) (is_sited_body y)
shifted_sited t b own x y is p q = is ∙ ap (both_sited (is_sited_body x)) (p ∙ q)

pub through_sited : (op : UnaryOperator) (x a : Body) → a ≡ x → is_sited_body (e.Unary op a) ≡ is_sited_body x
through_sited op x a p = ap is_sited_body (ap (e.Unary op) p ∙ sym (e.rolls-Unary op x)) ∙ fold-roll-Body SitedIn sited_body_step (o.Unary op x)

pub chosen_sited : (t : Typed) (c x y a b : Body) → is_sited t ≡ is_sited_body c → a ≡ x → b ≡ y →
    is_sited_body (e.Choice t a b) ≡ (λ names sites. is_sited_body c names sites && is_sited_body x names sites && is_sited_body y names sites)
chosen_sited t c x y a b q p r =
    ap is_sited_body ((λ i. e.Choice t (p i) (r i)) ∙ sym (e.rolls-Choice t x y)) ∙ fold-roll-Body SitedIn sited_body_step (o.Choice t x y)
    ∙ (λ i names sites. q i names sites && is_sited_body x names sites && is_sited_body y names sites)

-- a select, whose site has no more bits than what is selected
pub selected_sited : (names : List Entry) (widths places : List ℕ) (at : ℕ) (e : Entry) (index o : Body) (t x : Typed) (n site : ℕ) → is_sited_body o ≡ is_sited t →
    is_sited t ≡ (λ names sites. nat_le (slice_index sites site) (selected_width (entry_at names n).kind (entry_at names n).width) && is_sited x names sites) →
    is_sited x ≡ is_sited_body index → entry_at names n ≡ e → site ≡ number_of_place places at →
    nat_le (slice_index widths (number_of_place places at)) (selected_width e.kind e.width) ≡ true → is_sited_body index names widths ≡ true → is_sited_body o names widths ≡ true
selected_sited names widths places at e index o t x n site is p q entry place fits h =
    ap (λ (f : SitedIn). f names widths) (is ∙ p)
    ∙ both ((λ i. nat_le (slice_index widths (place i)) (selected_width (entry i).kind (entry i).width)) ∙ fits) (ap (λ (f : SitedIn). f names widths) q ∙ h)

-- one more beside others
pub next_sited : (names : List Entry) (widths : List ℕ) (typed more : List (ℕ × Typed)) (p : ℕ × Typed) → more ≡ typed ++ p ∷ [] → are_sited_parts typed names widths ≡ true →
    is_sited p.1 names widths ≡ true → are_sited_parts more names widths ≡ true
next_sited names widths typed more p is h k =
    ap (λ (r : List (ℕ × Typed)). are_sited_parts r names widths) is
    ∙ list_all-append (λ (y : ℕ × Typed). is_sited y.1 names widths) typed (p ∷ []) ∙ both h (both k refl)
