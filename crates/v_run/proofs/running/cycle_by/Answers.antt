use Rattle.std.proofs.Common.{◌≡◌, ◌∙◌, ap, subst, List, [], length, get_or}
use Rattle.std.proofs.lemmas.Option.{get_or_from_slice_get}
use Rattle.lz_base.specs.WordValue.{WordValue}
use Rattle.v_core.specs.Cores.{design_in}
use Rattle.v_meaning.specs.Designs.{InAnyOrder, IsCycle, IsIncompleteAt, IsOutcome}
use Rattle.v_values.specs.Seen.{values_of, widths_of}
use Rattle.v_run.specs.Turns.{Shows}
use Rattle.v_run.proofs.Words.{halts_in, line_of, shows_words, widths_there}
use Rattle.v_run.proofs.running.cycle_by.Goals as goal

pub cycle_by-requires-clause-inputs : goal.cycle_by-requires-clause-inputs
cycle_by-requires-clause-inputs c =
    rw c.requires.same (widths_there _ c.args.stimulus.now.cycles c.args.number c.words_of-input.result.now c.requires.stimulus c.requires.number c.words_of-input.ensures)

pub place-requires-clause-index : goal.place-requires-clause-index
place-requires-clause-index c =
    rw (get_or_from_slice_get c.args.schedules.now c.args.number c.entries-entries.result.now [] c.entries-entries.ensures) c.in-Err.ensures.incomplete.within

pub returns-in-Ok : goal.returns-in-Ok
returns-in-Ok c =
    let kept : widths_of c.cycle_by.new.out ≡ widths_of c.in_ok-out.out.items = c.in-Ok.ensures.widths ∙ ap widths_of c.as_mut_slice.ensures.value in
    let many : length c.in_ok-out.out.items ≡ c.in_ok-out.out.len = subst (λ (ws : List WordValue). length ws ≡ c.in_ok-out.out.len) c.as_mut_slice.ensures.value c.as_mut_slice.ensures.len in
    let line = line_of _ c.cycle_by.new.out c.in_ok-out.out.items c.line.result c.in_ok-out.out.len c.in_ok-out.ensures kept many c.line.ensures.same c.line.ensures.fits in
    let entries = get_or_from_slice_get c.args.schedules.now c.args.number c.entries-entries.result.now [] c.entries-entries.ensures in
    let cycle : IsCycle (design_in c.args.core.now) c.args.machine.now.store (values_of c.words_of-input.result.now) c.bits_of-choice.result.now (get_or c.args.schedules.now c.args.number [])
    (values_of c.cycle_by.new.out) c.cycle_by.new.self.store =
    rw (← c.requires.same, entries) c.in-Ok.ensures.cycle in
    let every : IsOutcome InAnyOrder (design_in c.args.core.now) c.args.machine.now.store (values_of c.words_of-input.result.now) c.bits_of-choice.result.now (values_of c.cycle_by.new.out) c.cycle_by.new.self.store =
    rw (← c.requires.same) c.in-Ok.ensures.every in
    let shows : Shows (get_or c.args.schedules.now c.args.number []) (design_in c.args.core.now) c.args.machine.now.store c.words_of-input.result.now c.bits_of-choice.result.now c.line.result c.cycle_by.new.self.store =
    shows_words (get_or c.args.schedules.now c.args.number []) (design_in c.args.core.now) c.args.machine.now.store c.cycle_by.new.self.store c.words_of-input.result.now c.line.result c.cycle_by.new.out
    c.bits_of-choice.result.now line.0 (kept ∙ c.in_ok-out.ensures) cycle (λ schedule other next. every.every schedule other next tt) in
    record {
      same = c.in-Ok.ensures.core ∙ c.requires.same;
      fits = line.1;
      shows = rw (← c.words_of-input.ensures, ← c.bits_of-choice.ensures) shows;
      halts = tt;
    }

pub returns-in-Err-clause-halts : goal.returns-in-Err-clause-halts
returns-in-Err-clause-halts c =
    let entries = get_or_from_slice_get c.args.schedules.now c.args.number c.entries-entries.result.now [] c.entries-entries.ensures in
    let incomplete : IsIncompleteAt (design_in c.args.core.now) c.args.machine.now.store (values_of c.words_of-input.result.now) c.bits_of-choice.result.now c.entries-entries.result.now c.in-Err.incomplete.index =
    rw (← c.requires.same) c.in-Err.ensures.incomplete in
    rw (← c.words_of-input.ensures, ← c.bits_of-choice.ensures)
    (halts_in (design_in c.args.core.now) c.args.machine.now.store c.args.schedules.now c.args.number c.entries-entries.result.now c.words_of-input.result.now c.bits_of-choice.result.now c.in-Err.incomplete.index
    c.place.result entries incomplete (λ shown after cycle. c.in-Err.ensures.refused shown after (rw c.requires.same cycle)) c.place.ensures.place)
