-- Assigns that are as wide as their nets.
use Rattle.std.proofs.Common.{◌≡◌, ◌≤◌, ap, sym, ◌∙◌, refl, ℕ, List, [], ◌∷◌, ◌++◌, Bool, true, false, cond}
use Rattle.std.specs.Prelude.{◌&&◌, ◌||◌, ◌==◌, bytes_eq, Option, Some}
use Rattle.std.specs.List.{list_any}
use Rattle.std.proofs.lemmas.Bool.{le-leb, eq-eqb}
use Rattle.v_meaning.specs.declared.names.Kind.{Kind}
use Rattle.v_meaning.specs.declared.names.Kind.TheVariants.{Net}
use Rattle.v_meaning.specs.declared.names.Entry.{Entry}
use Rattle.v_meaning.specs.Names.{entry_of, entry_or, found}
use Rattle.v_core.specs.declared.typed.Typed.{Typed}
use Rattle.v_core.specs.declared.modules.TypedAssign.{TypedAssign}
use Rattle.v_typed.specs.Forms.{are_measured, is_measured_over, is_net_at}
use Rattle.v_typed.proofs.Formed.{both, pushed}

-- a declared net of this number and width
abbrev is_net : ℕ → ℕ → Entry → Bool
is_net n width e = is_net_at n e.kind && e.width == width

either_case : (b rest : Bool) → rest ≡ true → (b || rest) ≡ true
either_case true rest h = refl
either_case false rest h = h

own_net : (e : Entry) (n width : ℕ) → e.kind ≡ Net n → width ≡ e.width → is_net n width e ≡ true
own_net e n width is wide = both (ap (is_net_at n) is ∙ eq-eqb n n refl) (eq-eqb e.width width (sym wide))

-- the entry that a name stands for, where the test at the head passes or not
net_found : (n width : ℕ) (b : Bool) (e : Entry) (names : List Entry) (r : Option Entry) → (entry_or (cond b (Some e) r)).kind ≡ Net n → width ≡ (entry_or (cond b (Some e) r)).width →
    ((entry_or r).kind ≡ Net n → width ≡ (entry_or r).width → list_any (is_net n width) names ≡ true) → list_any (is_net n width) (e ∷ names) ≡ true
net_found n width true e names r is wide more = ap (λ (b : Bool). b || list_any (is_net n width) names) (own_net e n width is wide)
net_found n width false e names r is wide more = either_case (is_net n width e) (list_any (is_net n width) names) (more is wide)

net_among : (names : List Entry) (name : List ℕ) (n width : ℕ) → (entry_of names name).kind ≡ Net n → width ≡ (entry_of names name).width → list_any (is_net n width) names ≡ true
net_among [] name n width is wide = absurd (cc is)
net_among (e ∷ names) name n width is wide = net_found n width (bytes_eq e.name name) e names (found names name) is wide (net_among names name n width)

pub measured_pushed : (names : List Entry) (name : List ℕ) (kind : Kind) (n width : ℕ) (t : Typed) (old new : List TypedAssign) →
    kind ≡ (entry_of names name).kind → kind ≡ Net n → width ≡ (entry_of names name).width → 1 ≤ width → width ≤ 128 →
    new ≡ old ++ record { net = n; width = width; value = t } ∷ [] → are_measured names new ≡ are_measured names old
measured_pushed names name kind n width t old new of_kind is wide least most more =
    pushed (is_measured_over names) old new (record { net = n; width = width; value = t }) more
    (both (both (le-leb 1 width least) (le-leb width 128 most)) (net_among names name n width (sym of_kind ∙ is) wide))
