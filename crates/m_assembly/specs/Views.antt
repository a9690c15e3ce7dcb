-- A draft as what is assembled.
use Rattle.m_valid.specs.Assembly.{Assembled}
use Rattle.m_assembly.specs.declared.draft.Draft.TheInside as draft

abbrev pub draft_value : draft.Inside → Assembled
draft_value d = record { nets = d.nets; cells = d.cells; next = d.next }
