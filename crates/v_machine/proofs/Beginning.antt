-- The view of a cycle once its nets have settled, and how many bits words have.
use Rattle.std.proofs.Common.{◌≡◌, ◌+◌, ap, ◌∙◌, refl, arith, ℕ, suc, length, List, [], ◌∷◌, map, Bool, true, false, cond}
use Rattle.std.specs.Prelude.{if◌then◌else◌, replicate}
use Rattle.std.proofs.lemmas.List.Recursion.{is_count_by}
use Rattle.v_meaning.specs.Views.{View}
use Rattle.v_meaning.specs.Declarations.{count_of, is_input, is_settled}
use Rattle.v_meaning.specs.Designs.{words_from}
use Rattle.v_meaning.specs.Modules.{inputs_among, port_of}
use Rattle.v_meaning.specs.declared.names.Kind.{Kind}
use Rattle.v_meaning.specs.declared.names.Kind.TheVariants as k
use Rattle.v_meaning.specs.declared.names.Entry.{Entry}
use Rattle.v_core.specs.declared.modules.TypedAssign.{TypedAssign}
use Rattle.v_core.specs.declared.modules.Core.{Core}
use Rattle.v_core.specs.Cores.{assign_in, design_in}
use Rattle.v_core.specs.Values.{entry_at}
use Rattle.v_values.specs.Moments.{Shape}
use Rattle.v_order.specs.Settling.{all_computed, elements_at}
use Rattle.v_order.specs.Stepping.{view_by}
use Rattle.v_machine.specs.Runnable.{port_widths, shape_of, widths_where}
use Rattle.v_machine.proofs.Computing.{computed_keeps}

-- ---- widths

one_more : (n : ℕ) → suc n ≡ 1 + n
one_more n = omega arith

length_if : (b : Bool) (w : ℕ) (ws : List ℕ) → length (if b then w ∷ ws else ws) ≡ cond b (1 + length ws) (length ws)
length_if true w ws = one_more (length ws)
length_if false w ws = refl

pub count_is : (test : Kind → Bool) (names : List Entry) → length (widths_where test names) ≡ count_of test names
count_is test names =
    is_count_by (λ (es : List Entry). length (widths_where test es)) (λ (e : Entry). test e.kind) refl
    (λ (e : Entry) (es : List Entry). length_if (test e.kind) e.width (widths_where test es)) names

of_kind : (kind : Kind) (e : Entry) (names : List Entry) → port_widths (inputs_among names) ≡ widths_where is_input names →
    port_widths (inputs_among (record e { kind = kind } ∷ names)) ≡ widths_where is_input (record e { kind = kind } ∷ names)
of_kind (k.Parameter value) e names same = same
of_kind k.Clock e names same = same
of_kind (k.Input n) e names same = ap (λ (ws : List ℕ). e.width ∷ ws) same
of_kind (k.Net n) e names same = same
of_kind (k.Combinational n) e names same = same
of_kind (k.Variable n) e names same = same
of_kind (k.Memory n low count) e names same = same

pub inputs_are : (names : List Entry) → port_widths (inputs_among names) ≡ widths_where is_input names
inputs_are [] = refl
inputs_are (e ∷ names) = of_kind e.kind e names (inputs_are names)

pub outputs_are : (names : List Entry) (outputs : List ℕ) → port_widths (map (λ (n : ℕ). port_of (entry_at names n)) outputs) ≡ map (λ (n : ℕ). (entry_at names n).width) outputs
outputs_are names [] = refl
outputs_are names (n ∷ ns) = ap (λ (ws : List ℕ). (entry_at names n).width ∷ ws) (outputs_are names ns)

-- ---- the view

abbrev start_of : Core → List ℕ → List Bool → View → View
start_of c inputs choice v = record {
  inputs = inputs;
  nets = replicate (design_in c).nets 0;
  store = v.store;
  sites = words_from (design_in c).sites choice;
}

pub begins : (c : Core) (order inputs : List ℕ) (choice : List Bool) (v one two three last : View) (s t : Shape) (assigns : List TypedAssign) (names : List Entry) →
    one ≡ record v { inputs = inputs } → two ≡ record one { sites = words_from s.sites choice } → three ≡ record two { nets = replicate (length t.nets) 0 } →
    s ≡ shape_of c → t ≡ shape_of c → assigns ≡ c.assigns → names ≡ c.names → last ≡ all_computed three (elements_at (map (assign_in names) assigns) order) →
    last ≡ view_by (design_in c) order inputs (words_from (design_in c).sites choice) v.store
begins c order inputs choice v one two three last s t assigns names first second third p q same_assigns same_names is =
    let counted : length t.nets ≡ (design_in c).nets = ap (λ (x : Shape). length x.nets) q ∙ count_is is_settled c.names in
    let started : three ≡ start_of c inputs choice v =
    third ∙ (λ i. record (second i) { nets = replicate (counted i) 0 })
    ∙ (λ i. record (record (first i) { sites = words_from (p i).sites choice }) { nets = replicate (design_in c).nets 0 }) in
    is ∙ (λ i. all_computed (started i) (elements_at (map (assign_in (same_names i)) (same_assigns i)) order))
    ∙ computed_keeps (start_of c inputs choice v) (elements_at (map (assign_in c.names) c.assigns) order)
