-- Nets that are computed one behind another.
use Rattle.std.proofs.Common.{◌≡◌, ◌≤◌, ◌<◌, ◌+◌, ap, sym, ◌∙◌, refl, arith, ℕ, zero, suc, length, get_or, drop, List, [], ◌∷◌, map, true}
use Rattle.std.specs.Prelude.{◌%◌, ◌^◌, ◌==◌, Option, None, Some, slice_get, slice_index, slice_set, nat_le}
use Rattle.std.proofs.lemmas.Bool.{eqb-true, leb-true}
use Rattle.v_meaning.specs.Views.{View}
use Rattle.v_meaning.specs.Designs.{Assign}
use Rattle.v_meaning.specs.declared.names.Entry.{Entry}
use Rattle.v_core.specs.declared.modules.TypedAssign.{TypedAssign}
use Rattle.v_core.specs.Cores.{assign_in}
use Rattle.v_core.specs.Formed.{is_width}
use Rattle.v_core.specs.Values.{typed_value}
use Rattle.v_values.specs.Moments.{Shape}
use Rattle.v_order.specs.Settling.{all_computed, computed, elements_at, with_found, with_nets}
use Rattle.v_machine.specs.Runnable.{is_measured}
use Rattle.v_machine.proofs.Lists.{first_of, second_of, next_at}

pub computed_behind : (v : View) (found : Option Assign) (more : List Assign) → all_computed v (with_found found more) ≡ all_computed (all_computed v (with_found found [])) more
computed_behind v None more = refl
computed_behind v (Some a) more = refl

-- only the nets become others
pub computed_keeps : (v : View) (assigns : List Assign) → all_computed v assigns ≡ with_nets v (all_computed v assigns).nets
computed_keeps v [] = refl
computed_keeps v (a ∷ assigns) = computed_keeps (computed v a) assigns

-- ---- the assign of a number

element_mapped : {X Y : Type 0} (f : X → Y) (xs : List X) (i : ℕ) (d : X) → i < length xs → slice_get (map f xs) i ≡ Some (f (get_or xs i d))
element_mapped f [] i d h = absurd (omega arith)
element_mapped f (x ∷ xs) zero d h = refl
element_mapped f (x ∷ xs) (suc i) d h = element_mapped f xs i d (omega arith)

none_mapped : {X Y : Type 0} (f : X → Y) (xs : List X) (i : ℕ) → length xs ≤ i → slice_get (map f xs) i ≡ None
none_mapped f [] i h = refl
none_mapped f (x ∷ xs) zero h = absurd (omega arith)
none_mapped f (x ∷ xs) (suc i) h = none_mapped f xs i (omega arith)

pub computes : (names : List Entry) (assigns : List TypedAssign) (i : ℕ) (a d : TypedAssign) (v : View) (word bits : ℕ) → i < length assigns → a ≡ get_or assigns i d →
    word ≡ typed_value a.value names v → bits ≡ word % 2 ^ a.width →
    with_nets v (slice_set v.nets a.net bits) ≡ all_computed v (with_found (slice_get (map (assign_in names) assigns) i) [])
computes names assigns i a d v word bits h at is cut =
    ap (λ (n : ℕ). with_nets v (slice_set v.nets a.net n)) (cut ∙ ap (λ (n : ℕ). n % 2 ^ a.width) is)
    ∙ ap (λ (b : TypedAssign). all_computed v (assign_in names b ∷ [])) at
    ∙ sym (ap (λ (o : Option Assign). all_computed v (with_found o [])) (element_mapped (assign_in names) assigns i d h))

pub computes_nothing : (names : List Entry) (assigns : List TypedAssign) (i : ℕ) (v : View) → length assigns ≤ i →
    v ≡ all_computed v (with_found (slice_get (map (assign_in names) assigns) i) [])
computes_nothing names assigns i v h = sym (ap (λ (o : Option Assign). all_computed v (with_found o [])) (none_mapped (assign_in names) assigns i h))

pub measured_within : (s : Shape) (a : TypedAssign) → is_measured s a ≡ true → a.width ≤ 128
measured_within s a h =
    leb-true a.width 128 (second_of (nat_le 1 a.width) (nat_le a.width 128) (first_of (is_width a.width) (slice_index s.nets a.net == a.width) h))

pub measured_same : (s : Shape) (a : TypedAssign) → is_measured s a ≡ true → slice_index s.nets a.net ≡ a.width
measured_same s a h = eqb-true (slice_index s.nets a.net) a.width (second_of (is_width a.width) (slice_index s.nets a.net == a.width) h)

-- what is left of an order computes what all of it computes
pub settles_next : (xs : List Assign) (order : List ℕ) (i d : ℕ) (v next whole : View) → i < length order → next ≡ all_computed v (with_found (slice_get xs (get_or order i d)) []) →
    all_computed v (elements_at xs (drop i order)) ≡ whole → all_computed next (elements_at xs (drop (i + 1) order)) ≡ whole
settles_next xs order i d v next whole h e before =
    let rest : List Assign = elements_at xs (drop (i + 1) order) in
    ap (λ (u : View). all_computed u rest) e ∙ sym (computed_behind v (slice_get xs (get_or order i d)) rest)
    ∙ sym (ap (λ (ns : List ℕ). all_computed v (elements_at xs ns)) (next_at order i d h)) ∙ before
