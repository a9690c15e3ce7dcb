-- The design of a module of the source (1364-2005, 4, 6, 9 and 12).
use Rattle.std.specs.Prelude.{ℕ, List, [], ◌∷◌, ◌++◌, map, flat_map, Option, None, Some}
use Rattle.lz_base.specs.declared.name.Port.{Port}
use Rattle.lz_machine.specs.Machine.{Machine}
use Rattle.v_syntax.specs.declared.token.Ident.{Ident}
use Rattle.v_syntax.specs.declared.expr.Expr.{Expr}
use Rattle.v_syntax.specs.declared.expr.Placed.{Placed}
use Rattle.v_syntax.specs.declared.module.Setting.{Setting}
use Rattle.v_syntax.specs.declared.module.PortGroup.{PortGroup}
use Rattle.v_syntax.specs.declared.module.PortKind.{PortKind}
use Rattle.v_syntax.specs.declared.module.PortKind.TheVariants as p
use Rattle.v_syntax.specs.declared.module.Event.TheVariants as w
use Rattle.v_syntax.specs.declared.module.Item.{Item}
use Rattle.v_syntax.specs.declared.module.Item.TheVariants as i
use Rattle.v_syntax.specs.declared.module.Module.{Module}
use Rattle.v_meaning.specs.Senses.{assigned}
use Rattle.v_meaning.specs.declared.names.Kind.{Kind}
use Rattle.v_meaning.specs.declared.names.Entry.{Entry}
use Rattle.v_meaning.specs.Names.{entry_of, word_of}
use Rattle.v_meaning.specs.declared.names.Kind.TheVariants as k
use Rattle.v_meaning.specs.Expressions.{sense_of}
use Rattle.v_meaning.specs.Acts.{Acts}
use Rattle.v_meaning.specs.Statements.{acts_of}
use Rattle.v_meaning.specs.Declarations.{names_of, count_of, is_settled}
use Rattle.v_meaning.specs.Sites.{Site, module_sites}
use Rattle.v_meaning.specs.Designs.{First, Given, Open, Words, Assign, Design, machine_of}

-- ---- ports and first values

abbrev pub port_of : Entry → Port
port_of e = record { name = e.name; width = e.width }

-- the inputs but the clock
abbrev pub inputs_among : List Entry → List Port
inputs_among [] = []
inputs_among (e ∷ names) = input_ports e.kind e ++ inputs_among names
  where
    input_ports : Kind → Entry → List Port
    input_ports (k.Input n) e = port_of e ∷ []
    input_ports _ e = []

abbrev pub clock_among : List Entry → Option (List ℕ)
clock_among [] = None
clock_among (e ∷ names) = clock_or e.kind e (clock_among names)
  where
    clock_or : Kind → Entry → Option (List ℕ) → Option (List ℕ)
    clock_or k.Clock e more = Some e.name
    clock_or _ e more = more

abbrev pub output_names : List PortGroup → List (List ℕ)
output_names [] = []
output_names (group ∷ groups) = of_kind group.kind (map (λ d. d.name.name) group.ports) ++ output_names groups
  where
    of_kind : PortKind → List (List ℕ) → List (List ℕ)
    of_kind p.Input names = []
    of_kind p.Output names = names
    of_kind p.OutputReg names = names

-- A variable that is not combinational begins with its declared value, or with open bits, as a memory does.
abbrev pub firsts_among : List Entry → List First
firsts_among [] = []
firsts_among (e ∷ names) = of_kind e.kind e ++ firsts_among names
  where
    variable_first : ℕ → Option ℕ → First
    variable_first width None = Open width
    variable_first width (Some value) = Given value

    of_kind : Kind → Entry → List First
    of_kind (k.Variable n) e = variable_first e.width e.first ∷ []
    of_kind (k.Memory n low count) e = Words count e.width ∷ []
    of_kind _ e = []

-- ---- assigns and processes

-- a net is assigned as in an assignment of a process (6.1)
abbrev pub net_assign : List Entry → List ℕ → Ident → Expr → List Assign
net_assign names sites name x = of_kind (entry_of names name.name).kind
  where
    of_kind : Kind → List Assign
    of_kind (k.Net n) = record { net = n; value = assigned (entry_of names name.name).width (sense_of names sites x) } ∷ []
    of_kind _ = []

abbrev pub wire_assign : List Entry → List ℕ → Ident → Option Placed → List Assign
wire_assign names sites name None = []
wire_assign names sites name (Some x) = net_assign names sites name x.expr

abbrev pub item_assigns : List Entry → List ℕ → Item → List Assign
item_assigns names sites (i.Wires signed range nets) = flat_map (λ d. wire_assign names sites d.name d.value) nets
item_assigns names sites (i.Assigns settings) = flat_map (λ (s : Setting). net_assign names sites s.name s.value.expr) settings
item_assigns names sites _ = []

abbrev pub item_clocked : List Entry → List ℕ → Item → List Acts
item_clocked names sites (i.Always (w.Posedge event) body) = acts_of names sites body ∷ []
item_clocked names sites _ = []

abbrev pub item_combinational : List Entry → List ℕ → Item → List Acts
item_combinational names sites (i.Always w.Any body) = acts_of names sites body ∷ []
item_combinational names sites _ = []

-- ---- the design

-- over the declared names, the sites, and the names of the outputs
abbrev pub design_over : Module → List Entry → List Site → List (List ℕ) → Design
design_over m names sites outputs = record {
  name = m.name.name;
  clock = clock_among names;
  inputs = inputs_among names;
  outputs = map (λ name. port_of (entry_of names name)) outputs;
  shows = λ v. map (λ name. word_of (entry_of names name).kind v) outputs;
  nets = count_of is_settled names;
  assigns = flat_map (item_assigns names (map (λ (s : Site). s.at) sites)) m.items;
  combinational = flat_map (item_combinational names (map (λ (s : Site). s.at) sites)) m.items;
  clocked = flat_map (item_clocked names (map (λ (s : Site). s.at) sites)) m.items;
  firsts = firsts_among names;
  sites = map (λ (s : Site). s.width) sites;
}

abbrev pub design_of : Module → Design
design_of m = design_over m (names_of m) (module_sites (names_of m) m.items) (output_names m.ports)

-- the machine of a module under these schedules
abbrev pub module_machine : (List ℕ → Type 0) → Module → Machine
module_machine Allowed m = machine_of Allowed (design_of m)
