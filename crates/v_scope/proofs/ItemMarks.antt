-- The marks of the items of a module, and of the module.
use Rattle.std.proofs.Common.{◌≡◌, List, [], ◌++◌, flat_map, Bool, Option, refl, sym, ap, ◌∙◌}
use Rattle.v_syntax.specs.declared.expr.Range.{Range}
use Rattle.v_syntax.specs.declared.module.Setting.{Setting}
use Rattle.v_syntax.specs.declared.module.Declared.{Declared}
use Rattle.v_syntax.specs.declared.module.Variable.{Variable}
use Rattle.v_syntax.specs.declared.module.ParameterGroup.{ParameterGroup}
use Rattle.v_syntax.specs.declared.module.PortGroup.{PortGroup}
use Rattle.v_syntax.specs.declared.module.Item.{Item}
use Rattle.v_syntax.specs.declared.module.Item.TheVariants as i
use Rattle.v_syntax.specs.declared.module.Module.{Module}
use Rattle.v_meaning.specs.declared.names.Entry.{Entry}
use Rattle.v_meaning.specs.Marks.{range_marks, declared_marks, variable_marks, assign_marks, parameter_marks, port_marks, module_item_marks, module_marks}
use Rattle.v_scope.specs.declared.occurrence.Occurrence.{Occurrence}
use Rattle.v_scope.specs.Occurrences.{marks_in, Adds}
use Rattle.v_scope.proofs.Adding.{then_more}

pub when_wires : (x : Item) (signed : Bool) (range : Option Range) (nets ys : List Declared) → x ≡ i.Wires signed range nets → ys ≡ nets →
    (names : List Entry) → module_item_marks names x ≡ range_marks names range ++ flat_map (declared_marks names) ys
when_wires x signed range nets ys is p names = ap (module_item_marks names) is ∙ ap (λ (zs : List Declared). range_marks names range ++ flat_map (declared_marks names) zs) (sym p)

pub when_regs : (x : Item) (signed : Bool) (range : Option Range) (variables ys : List Variable) → x ≡ i.Regs signed range variables → ys ≡ variables →
    (names : List Entry) → module_item_marks names x ≡ range_marks names range ++ flat_map (variable_marks names) ys
when_regs x signed range variables ys is p names = ap (module_item_marks names) is ∙ ap (λ (zs : List Variable). range_marks names range ++ flat_map (variable_marks names) zs) (sym p)

pub when_assigns : (x : Item) (settings ys : List Setting) → x ≡ i.Assigns settings → ys ≡ settings → (names : List Entry) → module_item_marks names x ≡ flat_map (assign_marks names) ys
when_assigns x settings ys is p names = ap (module_item_marks names) is ∙ ap (λ (zs : List Setting). flat_map (assign_marks names) zs) (sym p)

pub module_is : (m : Module) (z a b c : List Occurrence) (ps : List ParameterGroup) (qs : List PortGroup) (items : List Item) → z ≡ [] → ps ≡ m.parameters → qs ≡ m.ports → items ≡ m.items →
    Adds z a (λ names. flat_map (parameter_marks names) ps) → Adds a b (λ names. flat_map (port_marks names) qs) → Adds b c (λ names. flat_map (module_item_marks names) items) →
    (names : List Entry) → marks_in names c ≡ module_marks names m
module_is m z a b c ps qs items none p q r one two three names =
    (then_more z b c (λ ns. flat_map (parameter_marks ns) ps ++ flat_map (port_marks ns) qs) (λ ns. flat_map (module_item_marks ns) items)
    (λ ns. flat_map (parameter_marks ns) ps ++ flat_map (port_marks ns) qs ++ flat_map (module_item_marks ns) items) (λ ns. refl)
    (then_more z a b (λ ns. flat_map (parameter_marks ns) ps) (λ ns. flat_map (port_marks ns) qs) (λ ns. flat_map (parameter_marks ns) ps ++ flat_map (port_marks ns) qs) (λ ns. refl) one two) three).added names
    ∙ ap (λ (l : List Occurrence). marks_in names l ++ (flat_map (parameter_marks names) ps ++ flat_map (port_marks names) qs ++ flat_map (module_item_marks names) items)) none
    ∙ ap (λ (l : List ParameterGroup). flat_map (parameter_marks names) l ++ flat_map (port_marks names) qs ++ flat_map (module_item_marks names) items) p
    ∙ ap (λ (l : List PortGroup). flat_map (parameter_marks names) m.parameters ++ flat_map (port_marks names) l ++ flat_map (module_item_marks names) items) q
    ∙ ap (λ (l : List Item). flat_map (parameter_marks names) m.parameters ++ flat_map (port_marks names) m.ports ++ flat_map (module_item_marks names) l) r
