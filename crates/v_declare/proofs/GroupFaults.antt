-- The faults of groups: names that are no parameters change nothing of those behind them.
use Rattle.std.proofs.Common.{◌≡◌, ℕ, List, [], ◌∷◌, ◌++◌, flat_map, Bool, true, false, not, Option, None, Some, refl, sym, ap, ◌∙◌, append_assoc}
use Rattle.std.specs.Prelude.{◌&&◌, ◌==◌, if◌then◌else◌, fold}
use Rattle.std.proofs.lemmas.List.{append-nil}
use Rattle.std.proofs.lemmas.List.Concat.{flat_map-cons}
use Rattle.lz_base.specs.Names.{is_among}
use Rattle.v_syntax.specs.declared.expr.Placed.{Placed}
use Rattle.v_syntax.specs.declared.expr.Range.{Range}
use Rattle.v_syntax.specs.declared.module.Setting.{Setting}
use Rattle.v_syntax.specs.declared.module.Declared.{Declared}
use Rattle.v_syntax.specs.declared.module.Variable.{Variable}
use Rattle.v_syntax.specs.declared.module.Variable.TheVariants as v
use Rattle.v_syntax.specs.declared.module.ParameterGroup.{ParameterGroup}
use Rattle.v_syntax.specs.declared.module.PortGroup.{PortGroup}
use Rattle.v_syntax.specs.declared.module.PortKind.{PortKind}
use Rattle.v_syntax.specs.declared.module.PortKind.TheVariants as p
use Rattle.v_syntax.specs.declared.module.Item.{Item}
use Rattle.v_syntax.specs.declared.module.Module.{Module}
use Rattle.v_meaning.specs.declared.names.Kind.{Kind}
use Rattle.v_meaning.specs.declared.names.Kind.TheVariants as k
use Rattle.v_meaning.specs.declared.names.Entry.{Entry}
use Rattle.v_meaning.specs.Expressions.{is_parameter}
use Rattle.v_meaning.specs.MarkRules.{place_if}
use Rattle.v_meaning.specs.Proper.{is_proper}
use Rattle.v_meaning.specs.Declarations.{Roles, constant_value, range_width, is_event, is_input, is_settled, is_variable, count_of, variable_kind, port_kind, parameter_entry, port_entry, wire_entry, variable_entry, behind_parameters, behind_ports, behind_item}
use Rattle.v_meaning.specs.ConstantRules.{value_fault, optional_fault, is_address_range, range_faults, vector_faults, settings_faults, parameter_faults, port_faults, variable_faults, item_faults, items_faults, ports_faults, header_faults}
use Rattle.v_declare.specs.Walks.{first_of, along}
use Rattle.v_declare.specs.Groups.{regs_faults}
use Rattle.v_declare.proofs.Staying.{proper_stays, proper_same, more_agree, ArePlain, plain_agree}

-- ---- parameters

abbrev pub setting_fault : List Entry → Setting → List ℕ
setting_fault names s = value_fault names s.value

abbrev pub behind_setting : ParameterGroup → List Entry → Setting → List Entry
behind_setting group names s = names ++ parameter_entry names group s ∷ []

settings_along : (names : List Entry) (group : ParameterGroup) (settings : List Setting) → settings_faults names group settings ≡ along setting_fault (behind_setting group) names settings
settings_along names group [] = refl
settings_along names group (s ∷ more) = ap (λ (l : List ℕ). value_fault names s.value ++ l) (settings_along (behind_setting group names s) group more)

pub parameters_along : (names : List Entry) (group : ParameterGroup) (settings : List Setting) → settings ≡ group.settings →
    first_of (parameter_faults names group) ≡ first_of (vector_faults names group.range ++ along setting_fault (behind_setting group) names settings)
parameters_along names group settings is =
    ap (λ (l : List ℕ). first_of (vector_faults names group.range ++ l))
    (settings_along names group group.settings ∙ ap (λ (l : List Setting). along setting_fault (behind_setting group) names l) (sym is))

-- ---- faults over more names

optional_plain : (names more : List Entry) (x : Option Placed) → ArePlain more → optional_fault (names ++ more) x ≡ optional_fault names x
optional_plain names more None plain = refl
optional_plain names more (Some x) plain = ap (λ (b : Bool). place_if (not b) x.at) (proper_same names (names ++ more) (more_agree names more) (plain_agree names more plain) x.expr)

range_case : (p q s t : Bool) (a b c : ℕ) → (p ≡ true → q ≡ true → s ≡ t) →
    first_of (place_if (not p) a ++ place_if (not q) b ++ place_if (not s) c) ≡ first_of (place_if (not p) a ++ place_if (not q) b ++ place_if (not t) c)
range_case true true s t a b c f = ap (λ (u : Bool). first_of (place_if (not u) c)) (f refl refl)
range_case true false s t a b c f = refl
range_case false q s t a b c f = refl

-- a range whose bounds are no constants has its fault there
range_plain : (is_range : Option ℕ → Option ℕ → Bool) (names more : List Entry) (r : Range) → ArePlain more → first_of (range_faults is_range (names ++ more) r) ≡ first_of (range_faults is_range names r)
range_plain is_range names more r plain =
    let msb = proper_same names (names ++ more) (more_agree names more) (plain_agree names more plain) r.msb.expr in
    let lsb = proper_same names (names ++ more) (more_agree names more) (plain_agree names more plain) r.lsb.expr in
    (λ i. first_of (place_if (not (msb i)) r.msb.at ++ place_if (not (lsb i)) r.lsb.at
    ++ place_if (not (is_range (constant_value (names ++ more) r.msb.expr) (constant_value (names ++ more) r.lsb.expr))) r.bracket))
    ∙ range_case (is_proper names r.msb.expr) (is_proper names r.lsb.expr)
    (is_range (constant_value (names ++ more) r.msb.expr) (constant_value (names ++ more) r.lsb.expr))
    (is_range (constant_value names r.msb.expr) (constant_value names r.lsb.expr)) r.msb.at r.lsb.at r.bracket
    (λ m l. let a = proper_stays names (names ++ more) (more_agree names more) r.msb.expr m in
    let b = proper_stays names (names ++ more) (more_agree names more) r.lsb.expr l in
    λ i. is_range (a.value i) (b.value i))

-- ---- groups of names that are no parameters

first_both : (a b c d : List ℕ) → first_of a ≡ first_of b → first_of c ≡ first_of d → first_of (a ++ c) ≡ first_of (b ++ d)
first_both [] [] c d h k = k
first_both [] (y ∷ b) c d h k = absurd (cc h)
first_both (x ∷ a) [] c d h k = absurd (cc h)
first_both (x ∷ a) (y ∷ b) c d h k = h

plain_push : (es : List Entry) (e : Entry) → ArePlain es → is_parameter e.kind ≡ false → ArePlain (es ++ e ∷ [])
plain_push [] e h p = (p, tt)
plain_push (x ∷ es) e h p = (h.0, plain_push es e h.1 p)

-- What stands behind names that are no parameters has the faults that it has over the names before them.
record Plainly {A : Type 0} (faults : List Entry → A → List ℕ) (made : List Entry → A → Entry) : Type 0 where
  same : (names more : List Entry) (x : A) → ArePlain more → first_of (faults (names ++ more) x) ≡ first_of (faults names x)
  plain : (names : List Entry) (x : A) → is_parameter (made names x).kind ≡ false

abbrev pub behind_one : {A : Type 0} → (List Entry → A → Entry) → List Entry → A → List Entry
behind_one made names x = names ++ made names x ∷ []

along_more : {A : Type 0} (faults : List Entry → A → List ℕ) (made : List Entry → A → Entry) → Plainly faults made → (names more : List Entry) → ArePlain more → (xs : List A) →
    first_of (along faults (behind_one made) (names ++ more) xs) ≡ first_of (flat_map (faults names) xs)
along_more faults made p names more plain [] = refl
along_more {A = A} faults made p names more plain (x ∷ xs) =
    let e : Entry = made (names ++ more) x in
    first_both (faults (names ++ more) x) (faults names x) (along faults (behind_one made) ((names ++ more) ++ e ∷ []) xs) (flat_map (faults names) xs) (p.same names more x plain)
    (ap (λ (ns : List Entry). first_of (along faults (behind_one made) ns xs)) (append_assoc names more (e ∷ []))
    ∙ along_more faults made p names (more ++ e ∷ []) (plain_push more e plain (p.plain (names ++ more) x)) xs)
    ∙ sym (ap first_of (flat_map-cons (faults names) x xs))

flat_along : {A : Type 0} (faults : List Entry → A → List ℕ) (made : List Entry → A → Entry) → Plainly faults made → (names : List Entry) (xs : List A) →
    first_of (flat_map (faults names) xs) ≡ first_of (along faults (behind_one made) names xs)
flat_along {A = A} faults made p names xs =
    sym (along_more faults made p names [] tt xs) ∙ ap (λ (ns : List Entry). first_of (along faults (behind_one made) ns xs)) (append-nil names)

-- the range of a group comes first
range_first : (front a b : List ℕ) → first_of a ≡ first_of b → first_of (front ++ a) ≡ first_of (front ++ b)
range_first front a b is = first_both front front a b refl is

-- ---- ports

no_parameter : (b : Bool) (x y : Kind) → is_parameter x ≡ false → is_parameter y ≡ false → is_parameter (if b then x else y) ≡ false
no_parameter true x y p q = p
no_parameter false x y p q = q

variable_plain : (roles : Roles) (names : List Entry) (name : List ℕ) → is_parameter (variable_kind roles names name) ≡ false
variable_plain roles names name = no_parameter (is_among name roles.combinational) (k.Combinational (count_of is_settled names)) (k.Variable (count_of is_variable names)) refl refl

port_plain : (roles : Roles) (names : List Entry) (kind : PortKind) (range : Option Range) (name : List ℕ) → is_parameter (port_kind roles names kind range name) ≡ false
port_plain roles names p.Input range name = no_parameter (is_event roles.event name && range_width names range == 1) k.Clock (k.Input (count_of is_input names)) refl refl
port_plain roles names p.Output range name = refl
port_plain roles names p.OutputReg range name = variable_plain roles names name

abbrev pub port_fault : List Entry → Declared → List ℕ
port_fault names d = optional_fault names d.value

abbrev pub made_port : Roles → PortGroup → List Entry → Declared → Entry
made_port roles group names d = port_entry roles names group d

pub ports_along : (roles : Roles) (names : List Entry) (group : PortGroup) (ports : List Declared) → ports ≡ group.ports →
    first_of (port_faults names group) ≡ first_of (vector_faults names group.range ++ along port_fault (behind_one (made_port roles group)) names ports)
ports_along roles names group ports is =
    range_first (vector_faults names group.range) (flat_map (port_fault names) group.ports) (along port_fault (behind_one (made_port roles group)) names ports)
    (ap (λ (l : List Declared). first_of (flat_map (port_fault names) l)) (sym is)
    ∙ flat_along port_fault (made_port roles group)
    (record {
      same = λ ns more d plain. ap first_of (optional_plain ns more d.value plain);
      plain = λ ns d. port_plain roles ns group.kind group.range d.name.name;
    }) names ports)

-- ---- variables

abbrev pub made_variable : Roles → Bool → Option Range → List Entry → Variable → Entry
made_variable roles signed range names x = variable_entry roles names signed range x

variable_same : (names more : List Entry) (x : Variable) → ArePlain more → first_of (variable_faults (names ++ more) x) ≡ first_of (variable_faults names x)
variable_same names more (v.Plain d) plain = ap first_of (optional_plain names more d.value plain)
variable_same names more (v.Memory name addresses) plain = range_plain is_address_range names more addresses plain

made_plain : (roles : Roles) (signed : Bool) (range : Option Range) (names : List Entry) (x : Variable) → is_parameter (made_variable roles signed range names x).kind ≡ false
made_plain roles signed range names (v.Plain d) = variable_plain roles names d.name.name
made_plain roles signed range names (v.Memory name addresses) = refl

pub regs_along : (roles : Roles) (names : List Entry) (signed : Bool) (range : Option Range) (variables : List Variable) →
    first_of (regs_faults names range variables) ≡ first_of (vector_faults names range ++ along variable_faults (behind_one (made_variable roles signed range)) names variables)
regs_along roles names signed range variables =
    range_first (vector_faults names range) (flat_map (variable_faults names) variables) (along variable_faults (behind_one (made_variable roles signed range)) names variables)
    (flat_along variable_faults (made_variable roles signed range) (record { same = variable_same; plain = made_plain roles signed range }) names variables)

-- ---- the module

items_along : (roles : Roles) (names : List Entry) (items : List Item) → items_faults roles names items ≡ along item_faults (behind_item roles) names items
items_along roles names [] = refl
items_along roles names (x ∷ items) = ap (λ (l : List ℕ). item_faults names x ++ l) (items_along roles (behind_item roles names x) items)

ports_then : (roles : Roles) (names : List Entry) (groups : List PortGroup) (items : List Item) →
    ports_faults roles names groups items ≡ along port_faults (behind_ports roles) names groups ++ along item_faults (behind_item roles) (fold (behind_ports roles) names groups) items
ports_then roles names [] items = items_along roles names items
ports_then roles names (g ∷ groups) items =
    ap (λ (l : List ℕ). port_faults names g ++ l) (ports_then roles (behind_ports roles names g) groups items)
    ∙ sym (append_assoc (port_faults names g) (along port_faults (behind_ports roles) (behind_ports roles names g) groups)
    (along item_faults (behind_item roles) (fold (behind_ports roles) (behind_ports roles names g) groups) items))

pub header_then : (roles : Roles) (names : List Entry) (groups : List ParameterGroup) (m : Module) →
    header_faults roles names groups m
    ≡ along parameter_faults behind_parameters names groups
    ++ (along port_faults (behind_ports roles) (fold behind_parameters names groups) m.ports
    ++ along item_faults (behind_item roles) (fold (behind_ports roles) (fold behind_parameters names groups) m.ports) m.items)
header_then roles names [] m = ports_then roles names m.ports m.items
header_then roles names (g ∷ groups) m =
    ap (λ (l : List ℕ). parameter_faults names g ++ l) (header_then roles (behind_parameters names g) groups m)
    ∙ sym (append_assoc (parameter_faults names g) (along parameter_faults behind_parameters (behind_parameters names g) groups)
    (along port_faults (behind_ports roles) (fold behind_parameters (behind_parameters names g) groups) m.ports
    ++ along item_faults (behind_item roles) (fold (behind_ports roles) (fold behind_parameters (behind_parameters names g) groups) m.ports) m.items))

-- ---- wires, whose values are judged before

abbrev pub no_fault : List Entry → Declared → List ℕ
no_fault names d = []

abbrev pub made_wire : Bool → Option Range → List Entry → Declared → Entry
made_wire signed range names d = wire_entry names signed range d
