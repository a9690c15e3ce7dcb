-- Whether one of a module's items is a combinational process.
use Rattle.std.proofs.Common.{◌≡◌, ◌<◌, ◌≤◌, ◌+◌, ◌↔◌, ℕ, List, [], ◌∷◌, ◌++◌, flat_map, filter, length, drop, get_or, Bool, true, false, not, IsTrue, refl, sym, ap, ◌∙◌}
use Rattle.std.proofs.lemmas.List.{drop_all}
use Rattle.std.proofs.lemmas.List.Elements.{filter-append}
use Rattle.v_syntax.specs.declared.module.Event.TheVariants as w
use Rattle.v_syntax.specs.declared.module.Item.{Item}
use Rattle.v_syntax.specs.declared.module.Item.TheVariants as i
use Rattle.v_syntax.specs.declared.module.Module.{Module}
use Rattle.v_meaning.specs.declared.names.Entry.{Entry}
use Rattle.v_meaning.specs.Uses.{ProcessUse, uses_of, item_process_uses}
use Rattle.v_meaning.specs.ProcessRules.{is_clocked, combinational_of}
use Rattle.v_rules.specs.Places.{is_combinational}
use Rattle.v_rules.proofs.Rounds.{next_is}

abbrev pub combinational_in : List Entry → List Item → List ProcessUse
combinational_in names items = filter (λ (p : ProcessUse). not (is_clocked p)) (flat_map (item_process_uses names) items)

combinational_step : (names : List Entry) (item : Item) (items : List Item) → combinational_in names (item ∷ items) ≡ filter (λ (p : ProcessUse). not (is_clocked p)) (item_process_uses names item) ++ combinational_in names items
combinational_step names item items = filter-append (λ (p : ProcessUse). not (is_clocked p)) (item_process_uses names item) (flat_map (item_process_uses names) items)

none_in : (names : List Entry) (item : Item) → is_combinational item ≡ false → filter (λ (p : ProcessUse). not (is_clocked p)) (item_process_uses names item) ≡ []
none_in names (i.Parameters group) not_one = refl
none_in names (i.LocalParameters group) not_one = refl
none_in names (i.Wires signed range nets) not_one = refl
none_in names (i.Regs signed range variables) not_one = refl
none_in names (i.Assigns settings) not_one = refl
none_in names (i.Always (w.Posedge name) body) not_one = refl
none_in names (i.Always w.Any body) not_one = absurd (cc not_one)

some_in : (names : List Entry) (item : Item) (items : List Item) → is_combinational item ≡ true → combinational_in names (item ∷ items) ≡ [] → ⊥
some_in names (i.Parameters group) items one none = absurd (cc one)
some_in names (i.LocalParameters group) items one none = absurd (cc one)
some_in names (i.Wires signed range nets) items one none = absurd (cc one)
some_in names (i.Regs signed range variables) items one none = absurd (cc one)
some_in names (i.Assigns settings) items one none = absurd (cc one)
some_in names (i.Always (w.Posedge name) body) items one none = absurd (cc one)
some_in names (i.Always w.Any body) items one none = cc none

-- The combinational processes from this item on are all.
pub record AllFrom (names : List Entry) (items : List Item) (index : ℕ) : Type 0 where
  pub same : combinational_in names (drop index items) ≡ combinational_in names items

pub none_next : (names : List Entry) (items : List Item) (index : ℕ) (item other : Item) (test : Bool) → index < length items → item ≡ get_or items index other → test ≡ is_combinational item → test ≡ false → AllFrom names items index →
    AllFrom names items (index + 1)
none_next names items index item other test h is t not_one g = record {
  same = sym (ap (λ l. l ++ combinational_in names (drop (index + 1) items)) (none_in names item (sym t ∙ not_one)))
      ∙ sym (combinational_step names item (drop (index + 1) items)) ∙ sym (ap (combinational_in names) (next_is items index item other h is)) ∙ g.same;
}

pub some_found : (names : List Entry) (m : Module) (items : List Item) (index : ℕ) (item other : Item) (test : Bool) → items ≡ m.items → index < length items → item ≡ get_or items index other → test ≡ is_combinational item → test ≡ true →
    AllFrom names items index → IsTrue false ↔ (combinational_of (uses_of names m) ≡ [])
some_found names m items index item other test sliced h is t one g = (
  λ t. absurd (cc t),
  λ none. absurd (some_in names item (drop (index + 1) items) (sym t ∙ one) (sym (ap (combinational_in names) (next_is items index item other h is)) ∙ g.same ∙ ap (combinational_in names) sliced ∙ none)),
)

pub none_found : (names : List Entry) (m : Module) (items : List Item) (index : ℕ) → items ≡ m.items → length items ≤ index → AllFrom names items index → IsTrue true ↔ (combinational_of (uses_of names m) ≡ [])
none_found names m items index sliced h g =
    (λ t. sym (sym (ap (combinational_in names) (drop_all index items h)) ∙ g.same ∙ ap (combinational_in names) sliced), λ none. refl)
