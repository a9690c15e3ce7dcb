-- What is read of the text of schedules.
use Rattle.std.proofs.Common.{◌≡◌, ℕ, List, [], ◌++◌, flat_map, refl, ap, sym, subst, ◌∙◌, append_assoc}
use Rattle.lz_lines.specs.Fields.{IsWord}
use Rattle.lz_lines.specs.Forms.{Takes, Breaks, Anything, Nothing, Then}
use Rattle.lz_lines.proofs.Forms.{After, after_start, after_same, after_then, after_breaks, then_broken}
use Rattle.t_choices.specs.ScheduleTexts.{AreProcesses, IsSchedule, cycle_line, first_line, schedule_text}
use Rattle.t_choices.specs.Repeated.{Exactly, Last, last_line}
use Rattle.t_choices.proofs.Repeated.{times, times_there}

abbrev pub Cycles : ℕ → ℕ → List (List ℕ) → List ℕ → Type 0
Cycles processes count = Exactly cycle_line (AreProcesses processes) count

-- what stands behind the first line
abbrev pub AfterHead : ℕ → ℕ → List (List ℕ) → List ℕ → Type 0
AfterHead processes count = Then (Cycles processes count) Last

whole_apart : (cycles : List (List ℕ)) → schedule_text cycles ≡ first_line ++ (flat_map cycle_line cycles ++ last_line)
whole_apart cycles = append_assoc first_line (flat_map cycle_line cycles) last_line

schedule_parts : (processes count : ℕ) (bytes : List ℕ) → After (IsSchedule processes count) Nothing bytes (Then (IsWord first_line) (λ u. AfterHead processes count)) bytes
schedule_parts processes count bytes = after_same (Then (IsWord first_line) (λ u. AfterHead processes count)) (after_start (IsSchedule processes count) Nothing bytes) to from
  where
    to : (s : List (List ℕ)) (text : List ℕ) → Then (IsWord first_line) (λ u. AfterHead processes count) s text → IsSchedule processes count s text
    to s text (u, head, tail, is, (cycles, middle, end, all, last, e), f) =
        subst (λ (x : List (List ℕ)). IsSchedule processes count x text) (sym last.0)
        (record {
          fit = all.0;
          many = all.1;
          spelled = f ∙ ap (λ l. l ++ tail) is ∙ ap (λ l. first_line ++ l) (e ∙ ap (λ l. l ++ end) all.2 ∙ ap (λ l. flat_map cycle_line cycles ++ l) last.1) ∙ sym (whole_apart cycles);
        })

    from : (s : List (List ℕ)) (text : List ℕ) → IsSchedule processes count s text → Then (IsWord first_line) (λ u. AfterHead processes count) s text
    from s text is = (
      tt,
      first_line,
      flat_map cycle_line s ++ last_line,
      refl,
      (s, flat_map cycle_line s, last_line, (is.fit, is.many, refl), (refl, refl), refl),
      is.spelled ∙ whole_apart s,
    )

-- the first line was read
pub head_read : (processes count : ℕ) {bytes rest : List ℕ} → Takes (IsWord first_line) Anything bytes tt rest → After (IsSchedule processes count) Nothing bytes (AfterHead processes count) rest
head_read processes count {bytes = bytes} t = after_then (IsWord first_line) Anything (λ u. AfterHead processes count) (schedule_parts processes count bytes) (λ a v text behind is b. tt) t

pub head_broken : (processes count : ℕ) {bytes : List ℕ} {k : ℕ} → Breaks (IsWord first_line) Anything bytes k → Breaks (IsSchedule processes count) Nothing bytes k
head_broken processes count {bytes = bytes} b =
    let cycles = times [] count in
    after_breaks (schedule_parts processes count bytes)
    (then_broken (IsWord first_line) Anything (λ u. AfterHead processes count) Nothing
    (λ u text is. (cycles, flat_map cycle_line cycles ++ last_line, (cycles, flat_map cycle_line cycles, last_line, times_there cycle_line (AreProcesses processes) count [] tt, (refl, refl), refl))) (λ a v text behind is b. tt) b)

-- the cycles were read
pub cycles_read : (processes count : ℕ) (cycles : List (List ℕ)) {bytes rest left : List ℕ} → After (IsSchedule processes count) Nothing bytes (AfterHead processes count) rest → Takes (Cycles processes count) Anything rest cycles left
    → After (IsSchedule processes count) Nothing bytes (Last cycles) left
cycles_read processes count cycles h t = after_then (Cycles processes count) Anything Last h (λ a v text behind is b. tt) t

pub cycles_broken : (processes count : ℕ) {bytes rest : List ℕ} {k : ℕ} → After (IsSchedule processes count) Nothing bytes (AfterHead processes count) rest → Breaks (Cycles processes count) Anything rest k → Breaks (IsSchedule processes count) Nothing bytes k
cycles_broken processes count h b = after_breaks h (then_broken (Cycles processes count) Anything Last Nothing (λ cycles text is. (cycles, last_line, (refl, refl))) (λ a v text behind is b. tt) b)
