-- Modules that a machine can be made of.
use Rattle.std.specs.Prelude.{◌≡◌, ℕ, ◌^◌, ◌+◌, ◌==◌, List, [], ◌∷◌, ◌++◌, map, Bool, true, ◌&&◌, if◌then◌else◌, nat_lt, slice_index}
use Rattle.std.specs.List.{list_all}
use Rattle.lz_base.specs.declared.name.Port.{Port}
use Rattle.v_meaning.specs.Declarations.{is_input, is_settled, is_variable, is_memory}
use Rattle.v_meaning.specs.declared.names.Kind.{Kind}
use Rattle.v_meaning.specs.declared.names.Kind.TheVariants.{Parameter, Memory}
use Rattle.v_meaning.specs.declared.names.Entry.{Entry}
use Rattle.v_core.specs.SitedCores.{is_sited_core}
use Rattle.v_core.specs.declared.modules.TypedAssign.{TypedAssign}
use Rattle.v_core.specs.declared.modules.TypedProcess.{TypedProcess}
use Rattle.v_core.specs.declared.modules.Core.{Core}
use Rattle.v_core.specs.Cores.{design_in}
use Rattle.v_core.specs.Formed.{is_width}
use Rattle.v_core.specs.FormedCores.{is_formed_core}
use Rattle.v_values.specs.Moments.{Shape, fit}
use Rattle.v_order.specs.Firsts.{keeps_first}
use Rattle.v_order.specs.Apart.{AreApart, Owners}
use Rattle.v_order.specs.Settling.{Settles}
use Rattle.v_order.specs.Steady.{AtOnce, IsSteady}
use Rattle.v_machine.specs.Executed.{write_count}

-- ---- how many bits the words of a module have

-- of the declared names of some kinds, in their order
abbrev pub widths_where : (Kind → Bool) → List Entry → List ℕ
widths_where test [] = []
widths_where test (e ∷ names) = if test e.kind then e.width ∷ widths_where test names else widths_where test names

-- how many words a memory has, and each of those among names in their order
abbrev pub count_of_kind : Kind → List ℕ
count_of_kind (Memory n low count) = count ∷ []
count_of_kind _ = []

abbrev pub memory_counts : List Entry → List ℕ
memory_counts [] = []
memory_counts (e ∷ names) = count_of_kind e.kind ++ memory_counts names

abbrev pub shape_of : Core → Shape
shape_of c = record {
  inputs = widths_where is_input c.names;
  nets = widths_where is_settled c.names;
  variables = widths_where is_variable c.names;
  memories = widths_where is_memory c.names;
  counts = memory_counts c.names;
  sites = (design_in c).sites;
}

abbrev pub port_widths : List Port → List ℕ
port_widths ports = map (λ (p : Port). p.width) ports

-- a parameter keeps to its width
abbrev pub keeps_value : Kind → ℕ → Bool
keeps_value (Parameter value) width = nat_lt value (2 ^ width)
keeps_value _ width = true

abbrev pub keeps_parameter : Entry → Bool
keeps_parameter e = keeps_value e.kind e.width

-- ---- what is evaluated

-- an assign that has as many bits as its net
abbrev pub is_measured : Shape → TypedAssign → Bool
is_measured s a = is_width a.width && slice_index s.nets a.net == a.width

-- how many writes all processes make at most
abbrev pub process_counts : List TypedProcess → ℕ
process_counts [] = 0
process_counts (p ∷ processes) = write_count p.body + process_counts processes

-- ---- first values

-- a name of 1 to 128 bits, to which its first value keeps
abbrev pub is_word : Entry → Bool
is_word e = is_width e.width && keeps_first e

-- ---- modules

-- A module that breaks no rule, whose processes are all clocked, and an order in which its nets settle. All that is evaluated
-- keeps to its widths, each name and each site has a word of its own, and each assign as many bits as its net. Each variable
-- and each memory belongs to one process, and no other one looks at it where it is written at once.
pub record CanRun (c : Core) (order : List ℕ) : Type 0 where
  pub formed : is_formed_core c ≡ true
  pub sited : is_sited_core c ≡ true
  pub named : fit (shape_of c) c.names ≡ true
  pub words : list_all is_word c.names ≡ true
  pub places : list_all is_width (design_in c).sites ≡ true
  pub measured : list_all (is_measured (shape_of c)) c.assigns ≡ true
  pub clocked : (design_in c).combinational ≡ []
  pub settles : Settles (design_in c) order
  pub apart : (b : AtOnce) × (o : Owners) × IsSteady (design_in c) order b × AreApart (design_in c) b o

-- A typed module all of whose values, statements and names keep to words of 1 to 128 bits.
pub record KeepsWords (c : Core) : Type 0 where
  pub formed : is_formed_core c ≡ true
  pub sited : is_sited_core c ≡ true
  pub words : list_all is_word c.names ≡ true
  pub parameters : list_all keeps_parameter c.names ≡ true
  pub places : list_all is_width (design_in c).sites ≡ true
  pub measured : list_all (is_measured (shape_of c)) c.assigns ≡ true
