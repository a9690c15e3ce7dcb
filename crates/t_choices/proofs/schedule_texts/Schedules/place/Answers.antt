use Rattle.std.proofs.Common.{◌∙◌}
use Rattle.t_choices.proofs.EntryPlaces.{rows_are, row_there, place_there, place_is, kept_within}
use Rattle.t_choices.proofs.schedule_texts.Schedules.place.Goals as goal

pub place_at-requires-clause-cycle : goal.place_at-requires-clause-cycle
place_at-requires-clause-cycle c = row_there c.args.self.now (rows_are c.self.inside.cycles c.as_slice.ensures c.self.invariant c.self.view_is) c.requires.cycle

pub place_at-requires-clause-index : goal.place_at-requires-clause-index
place_at-requires-clause-index c = place_there c.args.self.now c.args.cycle c.args.index (rows_are c.self.inside.cycles c.as_slice.ensures c.self.invariant c.self.view_is) c.requires.cycle c.requires.index

pub returns-clause-place : goal.returns-clause-place
returns-clause-place c = c.place_at.ensures ∙ place_is c.args.self.now c.args.cycle c.args.index (rows_are c.self.inside.cycles c.as_slice.ensures c.self.invariant c.self.view_is) c.requires.cycle c.requires.index

pub returns-clause-within : goal.returns-clause-within
returns-clause-within c =
    rw c.place_at.ensures (kept_within c.args.self.now c.args.cycle c.args.index (rows_are c.self.inside.cycles c.as_slice.ensures c.self.invariant c.self.view_is) c.requires.cycle c.requires.index)
