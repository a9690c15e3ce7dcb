-- The assigns of nets, and what typed ones come to.
use Rattle.std.proofs.Common.{◌≡◌, ◌++◌, ◌%◌, ◌^◌, max, ℕ, List, [], ◌∷◌, map, refl, sym, ap, ◌∙◌}
use Rattle.std.proofs.lemmas.List.{map-append, append-nil}
use Rattle.v_syntax.specs.declared.token.Ident.{Ident}
use Rattle.v_syntax.specs.declared.expr.Expr.{Expr}
use Rattle.v_meaning.specs.Views.{View}
use Rattle.v_meaning.specs.Senses.{Sense, assigned}
use Rattle.v_meaning.specs.declared.names.Kind.{Kind}
use Rattle.v_meaning.specs.declared.names.Kind.TheVariants as k
use Rattle.v_meaning.specs.declared.names.Entry.{Entry}
use Rattle.v_meaning.specs.Names.{entry_of}
use Rattle.v_meaning.specs.Expressions.{sense_of}
use Rattle.v_meaning.specs.Designs.{Assign}
use Rattle.v_meaning.specs.Modules.{net_assign}
use Rattle.v_core.specs.declared.typed.Typed.{Typed}
use Rattle.v_core.specs.declared.open.Open.{Open}
use Rattle.v_core.specs.declared.modules.TypedAssign.{TypedAssign}
use Rattle.v_core.specs.Values.{Value, typed_value}
use Rattle.v_core.specs.Bodies.{body_value, sense_in}
use Rattle.v_core.specs.Cores.{assign_in}

-- a value at the greater one of both widths is, cut, what is assigned
pub right_side_is : (names : List Entry) (side : Open) (t : Typed) (x : Sense) (width wide : ℕ) → sense_in side names ≡ x → wide ≡ max width side.width →
    typed_value t ≡ body_value side.body wide side.signed → (λ (v : View). typed_value t names v % 2 ^ width) ≡ assigned width x
right_side_is names side t x width wide is w p =
    let cut : Value → View → ℕ = λ f v. f names v % 2 ^ width in
    ap cut (p ∙ ap (λ (n : ℕ). body_value side.body n side.signed) w) ∙ ap (assigned width) is

-- the assigns of a name, by its kind
abbrev assigns_of_kind : Kind → ℕ → Sense → List Assign
assigns_of_kind (k.Net n) width x = record { net = n; value = assigned width x } ∷ []
assigns_of_kind _ width x = []

assigns_by_kind : (names : List Entry) (sites : List ℕ) (name : Ident) (x : Expr) (kind : Kind) → (entry_of names name.name).kind ≡ kind →
    net_assign names sites name x ≡ assigns_of_kind kind (entry_of names name.name).width (sense_of names sites x)
assigns_by_kind names sites name x (k.Parameter value) is = rw is refl
assigns_by_kind names sites name x k.Clock is = rw is refl
assigns_by_kind names sites name x (k.Input n) is = rw is refl
assigns_by_kind names sites name x (k.Net n) is = rw is refl
assigns_by_kind names sites name x (k.Combinational n) is = rw is refl
assigns_by_kind names sites name x (k.Variable n) is = rw is refl
assigns_by_kind names sites name x (k.Memory n low count) is = rw is refl

-- one more assign
pub net_assigned : (names : List Entry) (sites : List ℕ) (name : Ident) (x : Expr) (kind : Kind) (n width : ℕ) (t : Typed) (old new : List TypedAssign) →
    kind ≡ (entry_of names name.name).kind → kind ≡ k.Net n → width ≡ (entry_of names name.name).width →
    (λ (v : View). typed_value t names v % 2 ^ width) ≡ assigned width (sense_of names sites x) → new ≡ old ++ record { net = n; width = width; value = t } ∷ [] →
    map (assign_in names) new ≡ map (assign_in names) old ++ net_assign names sites name x
net_assigned names sites name x kind n width t old new of_kind is of_width value more =
    ap (map (assign_in names)) more ∙ map-append (assign_in names) old (record { net = n; width = width; value = t } ∷ [])
    ∙ ap (λ (f : View → ℕ). map (assign_in names) old ++ record { net = n; value = f } ∷ []) (value ∙ ap (λ (w : ℕ). assigned w (sense_of names sites x)) of_width)
    ∙ ap (λ (l : List Assign). map (assign_in names) old ++ l) (sym (assigns_by_kind names sites name x (k.Net n) (sym of_kind ∙ is)))

none_assigned : (kind : Kind) (width : ℕ) (x : Sense) → ((n : ℕ) → kind ≡ k.Net n → ⊥) → assigns_of_kind kind width x ≡ []
none_assigned (k.Parameter value) width x h = refl
none_assigned k.Clock width x h = refl
none_assigned (k.Input n) width x h = refl
none_assigned (k.Net n) width x h = absurd (h n refl)
none_assigned (k.Combinational n) width x h = refl
none_assigned (k.Variable n) width x h = refl
none_assigned (k.Memory n low count) width x h = refl

-- what is no net has none
pub no_net : (names : List Entry) (sites : List ℕ) (name : Ident) (x : Expr) (kind : Kind) (before : List Assign) → kind ≡ (entry_of names name.name).kind →
    ((n : ℕ) → kind ≡ k.Net n → ⊥) → before ≡ before ++ net_assign names sites name x
no_net names sites name x kind before of_kind none =
    sym
    (ap (λ (l : List Assign). before ++ l)
    (assigns_by_kind names sites name x kind (sym of_kind) ∙ none_assigned kind (entry_of names name.name).width (sense_of names sites x) none)
    ∙ append-nil before)
