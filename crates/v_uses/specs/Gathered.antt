-- The uses that were gathered, without the references through which they are held.
use Rattle.std.specs.Prelude.{map}
use Rattle.v_meaning.specs.ProcessRules.{Written}
use Rattle.v_uses.specs.declared.gathered.Write.{Write}
use Rattle.v_uses.specs.declared.gathered.AssignUses.{AssignUses}
use Rattle.v_uses.specs.declared.gathered.ProcessUses.{ProcessUses}
use Rattle.v_uses.specs.declared.gathered.Uses.{Uses}
use Rattle.v_uses.specs.Seen.{AssignSeen, ProcessSeen, Seen}

abbrev pub written_in : Write → Written
written_in w = record { name = w.name.now; kind = w.kind }

abbrev pub assign_in : AssignUses → AssignSeen
assign_in x = record { target = x.target.now; reads = map (λ n. n.now) x.reads }

abbrev pub process_in : ProcessUses → ProcessSeen
process_in p = record { event = p.event.now; reads = map (λ n. n.now) p.reads; writes = map written_in p.writes }

abbrev pub uses_in : Uses → Seen
uses_in u = record { assigns = map assign_in u.assigns; processes = map process_in u.processes }
