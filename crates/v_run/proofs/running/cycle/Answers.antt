use Rattle.std.proofs.Common.{◌≡◌, ◌∙◌, ap, subst, List, length}
use Rattle.lz_base.specs.WordValue.{WordValue}
use Rattle.v_core.specs.Cores.{design_in}
use Rattle.v_meaning.specs.Designs.{InAnyOrder, InTextOrder, IsOutcome}
use Rattle.v_values.specs.Seen.{values_of, widths_of}
use Rattle.v_run.specs.Turns.{ShowsInTextOrder}
use Rattle.v_run.proofs.Words.{line_of, shows_words, widths_there}
use Rattle.v_run.proofs.running.cycle.Goals as goal

pub cycle-requires-clause-inputs : goal.cycle-requires-clause-inputs
cycle-requires-clause-inputs c =
    rw c.requires.same (widths_there _ c.args.stimulus.now.cycles c.args.number c.words_of-input.result.now c.requires.stimulus c.requires.number c.words_of-input.ensures)

pub returns : goal.returns
returns c =
    let kept : widths_of c.cycle.new.out ≡ widths_of c.in_ok-out.out.items = c.cycle.ensures.widths ∙ ap widths_of c.as_mut_slice.ensures.value in
    let many : length c.in_ok-out.out.items ≡ c.in_ok-out.out.len = subst (λ (ws : List WordValue). length ws ≡ c.in_ok-out.out.len) c.as_mut_slice.ensures.value c.as_mut_slice.ensures.len in
    let line = line_of _ c.cycle.new.out c.in_ok-out.out.items c.line.result c.in_ok-out.out.len c.in_ok-out.ensures kept many c.line.ensures.same c.line.ensures.fits in
    let outcome : IsOutcome InTextOrder (design_in c.args.core.now) c.args.machine.now.store (values_of c.words_of-input.result.now) c.bits_of-choice.result.now (values_of c.cycle.new.out) c.cycle.new.self.store =
    rw (← c.requires.same) c.cycle.ensures.outcome in
    let every : IsOutcome InAnyOrder (design_in c.args.core.now) c.args.machine.now.store (values_of c.words_of-input.result.now) c.bits_of-choice.result.now (values_of c.cycle.new.out) c.cycle.new.self.store =
    rw (← c.requires.same) c.cycle.ensures.every in
    let shows : ShowsInTextOrder (design_in c.args.core.now) c.args.machine.now.store c.words_of-input.result.now c.bits_of-choice.result.now c.line.result c.cycle.new.self.store = (
      outcome.some.0,
      outcome.some.1,
      shows_words outcome.some.0 (design_in c.args.core.now) c.args.machine.now.store c.cycle.new.self.store c.words_of-input.result.now c.line.result c.cycle.new.out
          c.bits_of-choice.result.now line.0 (kept ∙ c.in_ok-out.ensures) outcome.some.2 (λ schedule other next. every.every schedule other next tt),
    ) in
    record {
      same = c.cycle.ensures.core ∙ c.requires.same;
      fits = line.1;
      shows = rw (← c.words_of-input.ensures, ← c.bits_of-choice.ensures) shows;
    }
