-- What the rules of processes look at where no bit counts: which names each assign and each process reads and writes, each
-- at its place, in the order of the definition of uses.
use Rattle.std.specs.Prelude.{List, map}
use Rattle.v_syntax.specs.declared.token.Ident.{Ident}
use Rattle.v_syntax.specs.declared.module.Event.{Event}
use Rattle.v_meaning.specs.Uses.{AssignUse, ProcessUse, Uses}
use Rattle.v_meaning.specs.ProcessRules.{Written, reads_in, reads_of_process, writes_of_process}

pub record AssignSeen : Type 0 where
  pub target : Ident
  pub reads : List Ident

pub record ProcessSeen : Type 0 where
  pub event : Event
  pub reads : List Ident
  pub writes : List Written

pub record Seen : Type 0 where
  pub assigns : List AssignSeen
  pub processes : List ProcessSeen

abbrev pub assign_seen : AssignUse → AssignSeen
assign_seen x = record { target = x.target; reads = reads_in x.reads }

abbrev pub process_seen : ProcessUse → ProcessSeen
process_seen p = record { event = p.event; reads = reads_of_process p; writes = writes_of_process p }

abbrev pub seen_of : Uses → Seen
seen_of u = record { assigns = map assign_seen u.assigns; processes = map process_seen u.processes }
