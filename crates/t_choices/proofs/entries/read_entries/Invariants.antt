use Rattle.std.proofs.Common.{◌≡◌, ◌+◌, length, flat_map}
use Rattle.lz_lines.specs.Fields.{number}
use Rattle.lz_lines.proofs.Forms.{After}
use Rattle.t_choices.specs.Places.{number_places}
use Rattle.t_choices.specs.ScheduleTexts.{BeforeEnd}
use Rattle.t_choices.proofs.EntryFields.{Entries, MoreEntries}
use Rattle.t_choices.proofs.entries.read_entries.Given as goal

abbrev pub invariant-numbers : goal.invariant-numbers
invariant-numbers l = record {
  sum : l.at + length l.left ≡ l.fn.start + length l.fn.bytes;
  here : l.at ≡ l.fn.start + length (flat_map number l.entries.items);
  places : l.places.items ≡ number_places l.fn.start l.entries.items;
  after : After (Entries l.fn.processes) BeforeEnd l.fn.bytes (MoreEntries l.fn.processes l.entries.items) l.left;
}

abbrev pub decreases-numbers : goal.decreases-numbers
decreases-numbers l = length l.left
