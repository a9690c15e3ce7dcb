use Rattle.std.proofs.Common.{◌≡◌, ◌<◌, ◌+◌, ◌∷◌, ◌++◌, [], ◌∙◌, List, ℕ, length, flat_map, arith, ap, sym, subst}
use Rattle.std.proofs.lemmas.List.{length-append}
use Rattle.lz_lines.specs.Forms.{Anything}
use Rattle.lz_lines.proofs.Forms.{After}
use Rattle.lz_lines.proofs.Listed.{flat_more}
use Rattle.lz_lines.proofs.Standing.{hand_on}
use Rattle.t_choices.specs.Places.{cycle_places, entry_places}
use Rattle.t_choices.specs.ScheduleTexts.{AreProcesses, cycle_line}
use Rattle.t_choices.proofs.EntryPlaces.{cycle_places_more}
use Rattle.t_choices.proofs.Repeated.{StillCome, come_read, come_broken, come_end}
use Rattle.t_choices.proofs.WholeSchedules.{Cycles}
use Rattle.t_choices.proofs.schedule_texts.read_cycles.Goals as goal

pub returns-in_err-line : goal.returns-in_err-line
returns-in_err-line c =
    let room : length c.cycles.cycles.items < c.args.count = omega arith in
    hand_on _ _ _ _ _ _ _ _ _ _ c.from_residual.result c.read_cycle.result _ c.from_residual.ensures.1 c.in_err-line.was c.read_cycle.ensures.reads
    (λ l b. come_broken cycle_line (AreProcesses c.args.processes) c.args.count c.cycles.cycles.items room c.cycles.invariant.after b)

pub cycles-preserved : goal.cycles-preserved
cycles-preserved c =
    let read = c.cycles.cycles.items in
    let entries = c.in_ok-line.line.entries in
    let room : length read < c.args.count = omega arith in
    let pushed = c.in_ok-push.ensures.items in
    let took = c.in_ok-line.ensures.reads in
    let size : length c.cycles.left.now ≡ length (cycle_line entries) + length c.in_ok-line.rest.now =
    ap (λ (l : List ℕ). length l) took.split ∙ length-append took.front c.in_ok-line.rest.now ∙ ap (λ (l : List ℕ). length l + length c.in_ok-line.rest.now) took.is.1 in
    let grown : length (flat_map cycle_line (read ++ entries ∷ [])) ≡ length (flat_map cycle_line read) + length (cycle_line entries) =
    ap (λ (l : List ℕ). length l) (flat_more cycle_line read entries) ∙ length-append (flat_map cycle_line read) (cycle_line entries) in
    record {
      few = omega (arith, room, ap (λ (l : List (List ℕ)). length l) pushed, length-append read (entries ∷ []));
      sum = omega (arith, size, c.cycles.invariant.sum);
      here = rw pushed (omega (arith, size, c.cycles.invariant.here, grown));
      places = c.in_ok-push-2.ensures.items ∙ ap (λ (l : List (List ℕ)). l ++ c.in_ok-line.line.places ∷ []) c.cycles.invariant.places
          ∙ ap (λ (l : List ℕ). cycle_places 11 read ++ l ∷ []) (c.in_ok-line.ensures.places ∙ ap (λ k. entry_places (k + 5) entries) c.cycles.invariant.here)
          ∙ sym (cycle_places_more 11 read entries) ∙ ap (cycle_places 11) (sym pushed);
      after = subst (λ (l : List (List ℕ)). After (Cycles c.args.processes c.args.count) Anything c.args.bytes.now (StillCome cycle_line (AreProcesses c.args.processes) c.args.count l) c.in_ok-line.rest.now) (sym pushed)
          (come_read cycle_line (AreProcesses c.args.processes) c.args.count read entries room c.cycles.invariant.after took);
    }

pub returns : goal.returns
returns c =
    let full : length c.cycles.cycles.items ≡ c.args.count = omega (arith, c.cycles.invariant.few) in
    rw c.from_vec.ensures (come_end cycle_line (AreProcesses c.args.processes) c.args.count c.cycles.cycles.items full c.cycles.invariant.after)
