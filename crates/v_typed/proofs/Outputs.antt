-- The outputs of groups of ports.
use Rattle.std.proofs.Common.{◌≡◌, ◌<◌, ◌+◌, ◌++◌, ℕ, suc, List, [], ◌∷◌, map, length, drop, drop-cons, get_or, add-one, append_assoc, Result, OnOk, ◌⊎◌, inl, inr, sym, ap, ◌∙◌}
use Rattle.std.proofs.lemmas.List.{map-append, append-nil}
use Rattle.std.proofs.lemmas.Simd.{map-map}
use Rattle.std.proofs.lemmas.Result.{on_ok_weaker}
use Rattle.v_syntax.specs.declared.module.Declared.{Declared}
use Rattle.v_syntax.specs.declared.module.PortGroup.{PortGroup}
use Rattle.v_syntax.specs.declared.module.PortKind.TheVariants as p
use Rattle.v_meaning.specs.declared.names.Entry.{Entry}
use Rattle.v_meaning.specs.Names.{entry_of}
use Rattle.v_meaning.specs.Modules.{output_names}

-- inputs are no outputs
pub no_outputs : (names before : List Entry) (g : PortGroup) → g.kind ≡ p.Input → before ≡ before ++ map (entry_of names) (output_names (g ∷ []))
no_outputs names before g is = rw is (sym (append-nil before))

abbrev group_names : PortGroup → List (List ℕ)
group_names g = map (λ (d : Declared). d.name.name) g.ports

abbrev pub IsOutputs : PortGroup → Type 0
IsOutputs g = (g.kind ≡ p.Output) ⊎ (g.kind ≡ p.OutputReg)

all_outputs : (g : PortGroup) → IsOutputs g → output_names (g ∷ []) ≡ group_names g
all_outputs g (inl is) = rw is (append-nil (group_names g))
all_outputs g (inr is) = rw is (append-nil (group_names g))

-- the outputs of a group
pub outputs_added : {T E : Type 0} (answer : Result T E) (names before after : List Entry) (g : PortGroup) (ports : List Declared) → ports ≡ g.ports → IsOutputs g →
    OnOk answer (after ≡ before ++ map (λ (d : Declared). entry_of names d.name.name) ports) → OnOk answer (after ≡ before ++ map (entry_of names) (output_names (g ∷ [])))
outputs_added answer names before after g ports of_group is =
    on_ok_weaker answer
    (λ e. e ∙ ap (λ (l : List Declared). before ++ map (λ (d : Declared). entry_of names d.name.name) l) of_group
    ∙ ap (λ (l : List Entry). before ++ l) (sym (ap (map (entry_of names)) (all_outputs g is) ∙ map-map (entry_of names) (λ (d : Declared). d.name.name) g.ports)))

-- ---- groups one behind another

split_outputs : (g : PortGroup) (groups : List PortGroup) → output_names (g ∷ groups) ≡ output_names (g ∷ []) ++ output_names groups
split_outputs g groups = ap (λ (l : List (List ℕ)). l ++ output_names groups) (sym (append-nil _))

pub next_group : (names : List Entry) (groups : List PortGroup) (i : ℕ) (g : PortGroup) (now after all : List Entry) → i < length groups → g ≡ get_or groups i g →
    after ≡ now ++ map (entry_of names) (output_names (g ∷ [])) → now ++ map (entry_of names) (output_names (drop i groups)) ≡ all →
    after ++ map (entry_of names) (output_names (drop (i + 1) groups)) ≡ all
next_group names groups i g now after all h is more before =
    let rest : List (List ℕ) = output_names (drop (i + 1) groups) in
    let here : drop i groups ≡ g ∷ drop (i + 1) groups = rw (add-one i) (drop-cons groups i g h ∙ ap (λ y. y ∷ drop (suc i) groups) (sym is)) in
    ap (λ (l : List Entry). l ++ map (entry_of names) rest) more ∙ append_assoc now (map (entry_of names) (output_names (g ∷ []))) (map (entry_of names) rest)
    ∙ ap (λ (l : List Entry). now ++ l) (sym (map-append (entry_of names) (output_names (g ∷ [])) rest))
    ∙ ap (λ (l : List (List ℕ)). now ++ map (entry_of names) l) (sym (ap output_names here ∙ split_outputs g (drop (i + 1) groups)))
    ∙ before
