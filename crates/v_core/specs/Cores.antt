-- The design of a typed module (1364-2005, 4, 6, 9 and 12).
use Rattle.std.specs.Prelude.{ℕ, ◌%◌, ◌^◌, List, [], ◌∷◌, map, filter, Bool, not}
use Rattle.v_meaning.specs.Designs.{Assign, Design}
use Rattle.v_meaning.specs.Declarations.{count_of, is_settled}
use Rattle.v_meaning.specs.Modules.{port_of, inputs_among, clock_among, firsts_among}
use Rattle.v_meaning.specs.Names.{word_of}
use Rattle.v_meaning.specs.Acts.{Acts}
use Rattle.v_meaning.specs.declared.names.Entry.{Entry}
use Rattle.v_core.specs.declared.modules.TypedAssign.{TypedAssign}
use Rattle.v_core.specs.declared.modules.TypedProcess.{TypedProcess}
use Rattle.v_core.specs.declared.modules.TypedSite.{TypedSite}
use Rattle.v_core.specs.declared.modules.Core.{Core}
use Rattle.v_core.specs.Values.{entry_at, typed_value}
use Rattle.v_core.specs.Statements.{acts_in}

abbrev pub assign_in : List Entry → TypedAssign → Assign
assign_in names a = record { net = a.net; value = λ v. typed_value a.value names v % 2 ^ a.width }

-- the acts of the processes that pass
abbrev pub acts_where : (TypedProcess → Bool) → List Entry → List TypedProcess → List Acts
acts_where test names processes = map (λ (p : TypedProcess). acts_in p.body names) (filter test processes)

abbrev pub design_in : Core → Design
design_in c = record {
  name = c.name;
  clock = clock_among c.names;
  inputs = inputs_among c.names;
  outputs = map (λ n. port_of (entry_at c.names n)) c.outputs;
  shows = λ v. map (λ n. word_of (entry_at c.names n).kind v) c.outputs;
  nets = count_of is_settled c.names;
  assigns = map (assign_in c.names) c.assigns;
  combinational = acts_where (λ p. not p.clocked) c.names c.processes;
  clocked = acts_where (λ p. p.clocked) c.names c.processes;
  firsts = firsts_among c.names;
  sites = map (λ (s : TypedSite). s.width) c.sites;
}
