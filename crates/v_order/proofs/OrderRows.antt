-- Two nets worked out by hand: w0 = w1 + 1 and w1 = in, of which only the order of the second before the first settles them.
use Rattle.std.proofs.Common.{◌≡◌, ◌+◌, ℕ, List, [], ◌∷◌, None, refl, ap}
use Rattle.std.specs.Prelude.{slice_index}
use Rattle.v_meaning.specs.Views.{View}
use Rattle.v_meaning.specs.Designs.{Assign, Design, IsSettled}
use Rattle.v_order.specs.Settling.{IsOrdered, elements_at, settled_by, with_nets}

abbrev behind_one : Assign
behind_one = record { net = 0; value = λ v. slice_index v.nets 1 + 1 }

abbrev of_input : Assign
of_input = record { net = 1; value = λ v. slice_index v.inputs 0 }

abbrev two : Design
two = record {
  name = [];
  clock = None;
  inputs = [];
  outputs = [];
  shows = λ v. [];
  nets = 2;
  assigns = behind_one ∷ of_input ∷ [];
  combinational = [];
  clocked = [];
  firsts = [];
  sites = [];
}

abbrev at_five : View
at_five = record { inputs = 5 ∷ []; nets = []; store = record { variables = []; memories = [] }; sites = [] }

right_order : settled_by two (1 ∷ 0 ∷ []) at_five ≡ 6 ∷ 5 ∷ []
right_order = refl

wrong_order : settled_by two (0 ∷ 1 ∷ []) at_five ≡ 1 ∷ 5 ∷ []
wrong_order = refl

is_settled : IsSettled two (with_nets at_five (6 ∷ 5 ∷ []))
is_settled = record { number = refl; held = (refl, (refl, tt)); kept = tt }

is_ordered : IsOrdered [] (elements_at two.assigns (1 ∷ 0 ∷ []))
is_ordered = (refl, λ v w a. ap (λ (words : List ℕ). slice_index words 0) a.inputs, (refl, λ v w a. ap (λ (n : ℕ). n + 1) (a.words 1 refl), tt))

-- the first looks at a net that does not stand before it
is_not_ordered : IsOrdered [] (elements_at two.assigns (0 ∷ 1 ∷ [])) → ⊥
is_not_ordered h =
    let same : 1 ≡ 2 = h.1 (with_nets at_five (0 ∷ 0 ∷ [])) (with_nets at_five (0 ∷ 1 ∷ [])) (record { inputs = refl; store = refl; sites = refl; words = λ net there. absurd (cc there) }) in
    cc same
