-- In which order the nets of a design are computed, and what they are then (1364-2005, 6.1.2).
use Rattle.std.specs.Prelude.{◌≡◌, ⊤, ℕ, ◌<◌, List, [], ◌∷◌, length, map, replicate, true, false, nat_lt, Option, None, Some, slice_get, slice_set, slice_index}
use Rattle.v_meaning.specs.Views.{View}
use Rattle.v_meaning.specs.Acts.{Acts, End, Branch, Blocking, Nonblocking}
use Rattle.v_meaning.specs.Designs.{Assign, Design}
use Rattle.v_depends.specs.Nodes.{is_in}

-- ---- what a value looks at

-- two views of the same inputs, store and sites, in which these nets have the same words
pub record AgreeOn (nets : List ℕ) (v w : View) : Type 0 where
  pub inputs : v.inputs ≡ w.inputs
  pub store : v.store ≡ w.store
  pub sites : v.sites ≡ w.sites
  pub words : (net : ℕ) → is_in net nets ≡ true → slice_index v.nets net ≡ slice_index w.nets net

-- it is the same in views that are alike
abbrev pub Respects : {A : Type 0} → (View → View → Type 0) → (View → A) → Type 0
Respects AreAlike f = (v w : View) → AreAlike v w → f v ≡ f w

-- so are all branches that these acts choose, and all writes that they make
abbrev pub ActsRespect : (View → View → Type 0) → Acts → Type 0
ActsRespect AreAlike End = ⊤
ActsRespect AreAlike (Branch f rest) = Respects AreAlike f × ((v : View) → ActsRespect AreAlike (f v)) × ActsRespect AreAlike rest
ActsRespect AreAlike (Blocking f rest) = Respects AreAlike f × ActsRespect AreAlike rest
ActsRespect AreAlike (Nonblocking f rest) = Respects AreAlike f × ActsRespect AreAlike rest

-- of all nets it looks only at these: it is the same in views that differ in other nets alone
abbrev pub LooksOnlyAt : {A : Type 0} → List ℕ → (View → A) → Type 0
LooksOnlyAt nets f = Respects (AgreeOn nets) f

-- so do all branches that these acts choose, and all writes that they make
abbrev pub ActsLookOnlyAt : List ℕ → Acts → Type 0
ActsLookOnlyAt nets acts = ActsRespect (AgreeOn nets) acts

-- ---- orders

-- Assigns one behind another: none is to a net of one before it, and each looks only at nets of those before it.
abbrev pub IsOrdered : List ℕ → List Assign → Type 0
IsOrdered before [] = ⊤
IsOrdered before (a ∷ assigns) = (is_in a.net before ≡ false) × LooksOnlyAt before a.value × IsOrdered (a.net ∷ before) assigns

abbrev pub net_of : Assign → ℕ
net_of a = a.net

abbrev pub with_found : {A : Type 0} → Option A → List A → List A
with_found None more = more
with_found (Some a) more = a ∷ more

-- the elements of these numbers
abbrev pub elements_at : {A : Type 0} → List A → List ℕ → List A
elements_at xs [] = []
elements_at xs (i ∷ numbers) = with_found (slice_get xs i) (elements_at xs numbers)

-- An order, by the numbers of the assigns, in which each net of the design settles: every assign stands in it, each behind
-- those whose nets it looks at; and the design has one assign to each of its nets.
pub record Settles (d : Design) (order : List ℕ) : Type 0 where
  pub within : (i : ℕ) → is_in i order ≡ true → i < length d.assigns
  pub every : (i : ℕ) → i < length d.assigns → is_in i order ≡ true
  pub ordered : IsOrdered [] (elements_at d.assigns order)
  pub nets : (net : ℕ) → is_in net (map net_of d.assigns) ≡ nat_lt net d.nets

-- ---- the nets

abbrev pub with_nets : View → List ℕ → View
with_nets v nets = record v { nets = nets }

-- the net of an assign gets its value
abbrev pub computed : View → Assign → View
computed v a = with_nets v (slice_set v.nets a.net (a.value v))

-- one behind another
abbrev pub all_computed : View → List Assign → View
all_computed v [] = v
all_computed v (a ∷ assigns) = all_computed (computed v a) assigns

-- the nets over the inputs, the store and the sites of a view, where each is computed once, in this order
abbrev pub settled_by : Design → List ℕ → View → List ℕ
settled_by d order v = (all_computed (with_nets v (replicate d.nets 0)) (elements_at d.assigns order)).nets
