-- The faults and the names of a module, from those of its parameters, ports and items.
use Rattle.std.proofs.Common.{◌≡◌, ℕ, List, [], ◌∷◌, ◌++◌, Result, Err, refl, sym, ap, ◌∙◌, subst}
use Rattle.std.specs.Prelude.{fold}
use Rattle.std.specs.Result.{IsErrAnd}
use Rattle.std.proofs.lemmas.Result.{err_from_is_err_and}
use Rattle.lz_base.specs.Answers.{IfFault}
use Rattle.lz_base.specs.declared.rule.Rule.TheVariants as r
use Rattle.lz_base.specs.declared.fault.Stop.{Stop}
use Rattle.lz_base.specs.declared.fault.Stop.TheVariants as stop
use Rattle.v_syntax.specs.declared.module.ParameterGroup.{ParameterGroup}
use Rattle.v_syntax.specs.declared.module.PortGroup.{PortGroup}
use Rattle.v_syntax.specs.declared.module.Item.{Item}
use Rattle.v_syntax.specs.declared.module.Module.{Module}
use Rattle.v_meaning.specs.declared.names.Entry.{Entry}
use Rattle.v_meaning.specs.Declarations.{Roles, roles_of, behind_parameters, behind_ports, behind_item, names_of}
use Rattle.v_meaning.specs.ConstantRules.{parameter_faults, port_faults, item_faults, header_faults, improper}
use Rattle.v_declare.specs.Walks.{first_of, StopsAt, along}
use Rattle.v_declare.proofs.Walking.{stops_first, stops_behind, behind_none}
use Rattle.v_declare.proofs.GroupFaults.{header_then}

-- what is walked is the module
pub record Walks (m : Module) (roles : Roles) (none : List Entry) (ps : List ParameterGroup) (qs : List PortGroup) (items : List Item) : Type 0 where
  pub roles_are : roles ≡ roles_of m.items
  pub starts : none ≡ []
  pub parameters : ps ≡ m.parameters
  pub ports : qs ≡ m.ports
  pub rest : items ≡ m.items

pub walked : (m : Module) (roles : Roles) (none : List Entry) (ps : List ParameterGroup) (qs : List PortGroup) (items : List Item) →
    roles ≡ roles_of items → none ≡ [] → ps ≡ m.parameters → qs ≡ m.ports → items ≡ m.items → Walks m roles none ps qs items
walked m roles none ps qs items r n p q s = record { roles_are = r ∙ ap roles_of s; starts = n; parameters = p; ports = q; rest = s }

abbrev parameters_part : List Entry → List ParameterGroup → List ℕ
parameters_part names ps = along parameter_faults behind_parameters names ps

abbrev ports_part : Roles → List Entry → List PortGroup → List ℕ
ports_part roles names qs = along port_faults (behind_ports roles) names qs

abbrev items_part : Roles → List Entry → List Item → List ℕ
items_part roles names items = along item_faults (behind_item roles) names items

parts : (m : Module) (roles : Roles) (none n1 n2 : List Entry) (ps : List ParameterGroup) (qs : List PortGroup) (items : List Item) → Walks m roles none ps qs items →
    n1 ≡ fold behind_parameters none ps → n2 ≡ fold (behind_ports roles) n1 qs →
    header_faults (roles_of m.items) [] m.parameters m ≡ parameters_part none ps ++ (ports_part roles n1 qs ++ items_part roles n2 items)
parts m roles none n1 n2 ps qs items w p q = rw (q, p, w.roles_are, w.starts, w.parameters, w.ports, w.rest) (header_then (roles_of m.items) [] m.parameters m)

pub refused : {T : Type 0} (m : Module) (answer : Result T Stop) (e : Stop) → IsErrAnd answer (λ d. d ≡ e) → StopsAt (header_faults (roles_of m.items) [] m.parameters m) e →
    IfFault answer (λ fault. (fault.rule ≡ r.E7) × (improper m ≡ fault.at ∷ []))
refused {T = T} m answer e is h = let p = err_from_is_err_and answer is in
    subst (λ (a : Result T Stop). IfFault a (λ fault. (fault.rule ≡ r.E7) × (improper m ≡ fault.at ∷ []))) (sym (p.1 ∙ ap Err p.2)) (stop_case e h) where
      stop_case : (e : Stop) → StopsAt (header_faults (roles_of m.items) [] m.parameters m) e → IfFault {X = T} (Err e) (λ fault. (fault.rule ≡ r.E7) × (improper m ≡ fault.at ∷ []))
      stop_case (stop.Fault fault) h = h
      stop_case stop.OutOfMemory h = tt

pub parameters_stop : (m : Module) (roles : Roles) (none : List Entry) (ps : List ParameterGroup) (qs : List PortGroup) (items : List Item) (e : Stop) → Walks m roles none ps qs items →
    StopsAt (parameters_part none ps) e → StopsAt (header_faults (roles_of m.items) [] m.parameters m) e
parameters_stop m roles none ps qs items e w h =
    let n1 : List Entry = fold behind_parameters none ps in
    let n2 : List Entry = fold (behind_ports roles) n1 qs in
    stops_first e (parameters_part none ps) (ports_part roles n1 qs ++ items_part roles n2 items) (header_faults (roles_of m.items) [] m.parameters m) (parts m roles none n1 n2 ps qs items w refl refl) h

pub ports_stop : (m : Module) (roles : Roles) (none n1 : List Entry) (ps : List ParameterGroup) (qs : List PortGroup) (items : List Item) (e : Stop) → Walks m roles none ps qs items →
    first_of (parameters_part none ps) ≡ [] → n1 ≡ fold behind_parameters none ps → StopsAt (ports_part roles n1 qs) e → StopsAt (header_faults (roles_of m.items) [] m.parameters m) e
ports_stop m roles none n1 ps qs items e w free p h =
    let n2 : List Entry = fold (behind_ports roles) n1 qs in
    stops_behind e (parameters_part none ps) (ports_part roles n1 qs ++ items_part roles n2 items) (header_faults (roles_of m.items) [] m.parameters m) (parts m roles none n1 n2 ps qs items w p refl) free
    (stops_first e (ports_part roles n1 qs) (items_part roles n2 items) (ports_part roles n1 qs ++ items_part roles n2 items) refl h)

items_first : (m : Module) (roles : Roles) (none n1 n2 : List Entry) (ps : List ParameterGroup) (qs : List PortGroup) (items : List Item) → Walks m roles none ps qs items →
    first_of (parameters_part none ps) ≡ [] → n1 ≡ fold behind_parameters none ps → first_of (ports_part roles n1 qs) ≡ [] → n2 ≡ fold (behind_ports roles) n1 qs →
    first_of (header_faults (roles_of m.items) [] m.parameters m) ≡ first_of (items_part roles n2 items)
items_first m roles none n1 n2 ps qs items w free p clear q =
    behind_none (parameters_part none ps) (ports_part roles n1 qs ++ items_part roles n2 items) (header_faults (roles_of m.items) [] m.parameters m) (parts m roles none n1 n2 ps qs items w p q) free
    ∙ behind_none (ports_part roles n1 qs) (items_part roles n2 items) (ports_part roles n1 qs ++ items_part roles n2 items) refl clear

pub items_stop : (m : Module) (roles : Roles) (none n1 n2 : List Entry) (ps : List ParameterGroup) (qs : List PortGroup) (items : List Item) (e : Stop) → Walks m roles none ps qs items →
    first_of (parameters_part none ps) ≡ [] → n1 ≡ fold behind_parameters none ps → first_of (ports_part roles n1 qs) ≡ [] → n2 ≡ fold (behind_ports roles) n1 qs →
    StopsAt (items_part roles n2 items) e → StopsAt (header_faults (roles_of m.items) [] m.parameters m) e
items_stop m roles none n1 n2 ps qs items e w free p clear q h =
    stops_behind e (parameters_part none ps) (ports_part roles n1 qs ++ items_part roles n2 items) (header_faults (roles_of m.items) [] m.parameters m) (parts m roles none n1 n2 ps qs items w p q) free
    (stops_behind e (ports_part roles n1 qs) (items_part roles n2 items) (ports_part roles n1 qs ++ items_part roles n2 items) refl clear h)

pub no_fault_in : (m : Module) (roles : Roles) (none n1 n2 : List Entry) (ps : List ParameterGroup) (qs : List PortGroup) (items : List Item) → Walks m roles none ps qs items →
    first_of (parameters_part none ps) ≡ [] → n1 ≡ fold behind_parameters none ps → first_of (ports_part roles n1 qs) ≡ [] → n2 ≡ fold (behind_ports roles) n1 qs →
    first_of (items_part roles n2 items) ≡ [] → improper m ≡ []
no_fault_in m roles none n1 n2 ps qs items w free p clear q last = items_first m roles none n1 n2 ps qs items w free p clear q ∙ last

pub names_are : (m : Module) (roles : Roles) (none n1 n2 n3 : List Entry) (ps : List ParameterGroup) (qs : List PortGroup) (items : List Item) → Walks m roles none ps qs items →
    n1 ≡ fold behind_parameters none ps → n2 ≡ fold (behind_ports roles) n1 qs → n3 ≡ fold (behind_item roles) n2 items → n3 ≡ names_of m
names_are m roles none n1 n2 n3 ps qs items w p q s = rw (s, q, p, w.roles_are, w.starts, w.parameters, w.ports, w.rest) refl
