use Rattle.std.proofs.Common.{◌≡◌, ◌+◌, ◌∷◌, ◌++◌, [], ◌∙◌, List, ℕ, length, flat_map, arith, ap, sym, subst}
use Rattle.std.proofs.lemmas.List.{length-append}
use Rattle.lz_lines.specs.Fields.{IsNumber, number}
use Rattle.lz_lines.specs.Forms.{Breaks, Parted, Takes}
use Rattle.lz_lines.proofs.Forms.{After}
use Rattle.lz_lines.proofs.Listed.{flat_more}
use Rattle.lz_lines.proofs.Standing.{hand_broken}
use Rattle.t_choices.specs.Places.{number_places}
use Rattle.t_choices.specs.ScheduleTexts.{BeforeEnd}
use Rattle.t_choices.proofs.EntryFields.{Entries, MoreEntries, entry_read, entry_broken, entries_end}
use Rattle.t_choices.proofs.EntryPlaces.{number_places_more}
use Rattle.t_choices.proofs.entries.read_entries.Goals as goal

pub returns-in_err-number-clause-reads : goal.returns-in_err-number-clause-reads
returns-in_err-number-clause-reads c =
    let wants = c.wants_entry.ensures.some c.numbers-test.true in
    hand_broken _ _ _ _ _ c.from_residual.result _ c.from_residual.ensures.1 (entry_broken c.args.processes c.numbers.entries.items wants c.numbers.invariant.after (subst (λ most. Breaks (IsNumber 0 most) Parted c.numbers.left.now c.in_err-number.field-0.0.left) c.from.ensures c.in_err-number.ensures.reads))

pub numbers-preserved : goal.numbers-preserved
numbers-preserved c =
    let read = c.numbers.entries.items in
    let n = c.in_ok-number.number in
    let wants = c.wants_entry.ensures.some c.numbers-test.true in
    let pushed = c.in_ok-push.ensures.items in
    let size : length c.numbers.left.now ≡ length (number n) + length c.in_ok-number.rest.now = ap (λ (l : List ℕ). length l) c.in_ok-number.ensures.found.2 ∙ length-append (number n) c.in_ok-number.rest.now in
    let grown : length (flat_map number (read ++ n ∷ [])) ≡ length (flat_map number read) + length (number n) = ap (λ (l : List ℕ). length l) (flat_more number read n) ∙ length-append (flat_map number read) (number n) in
    record {
      sum = omega (arith, size, c.numbers.invariant.sum);
      here = rw pushed (omega (arith, size, c.numbers.invariant.here, grown));
      places = c.in_ok-push-2.ensures.items ∙ ap (λ (l : List ℕ). l ++ (c.numbers.at + 1) ∷ []) c.numbers.invariant.places ∙ ap (λ k. number_places c.args.start read ++ (k + 1) ∷ []) c.numbers.invariant.here
          ∙ sym (number_places_more c.args.start read n) ∙ ap (number_places c.args.start) (sym pushed);
      after = subst (λ (l : List ℕ). After (Entries c.args.processes) BeforeEnd c.args.bytes.now (MoreEntries c.args.processes l) c.in_ok-number.rest.now) (sym pushed)
          (entry_read c.args.processes read n wants c.numbers.invariant.after (subst (λ most. Takes (IsNumber 0 most) Parted c.numbers.left.now n c.in_ok-number.rest.now) c.from.ensures c.in_ok-number.ensures.reads));
    }

pub returns-clause-reads : goal.returns-clause-reads
returns-clause-reads c =
    let wants = c.wants_entry.ensures.none c.numbers-test.false in
    rw c.from_vec.ensures (entries_end c.args.processes c.numbers.entries.items wants c.numbers.invariant.after)
