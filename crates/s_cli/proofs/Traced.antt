-- The status that a source, a stimulus, choices and schedules call for.
use Rattle.std.proofs.Common.{◌≡◌, ◌≤◌, ℕ, List, length, Option, Some, Result, Ok, Err, Vec, refl, sym, subst, arith, inl, inr}
use Rattle.std.specs.Prelude.{IfOk}
use Rattle.std.specs.declared.alloc.Global.{Global}
use Rattle.lz_base.specs.Answers.{Answers, IfFault}
use Rattle.lz_base.specs.Limits.{source_limit, text_limit}
use Rattle.lz_base.specs.WordValue.{WordValue}
use Rattle.lz_base.specs.declared.fault.Fault.{Fault}
use Rattle.lz_base.specs.declared.fault.Stop.{Stop}
use Rattle.lz_base.specs.declared.fault.Stop.TheVariants as stop
use Rattle.lz_base.specs.declared.rule.Rule.TheVariants.{C1, S1}
use Rattle.lz_lines.specs.Places.{IsUnreadable}
use Rattle.t_choices.specs.ChoiceTexts.{IsChoices}
use Rattle.t_choices.specs.ScheduleTexts.{IsSchedule}
use Rattle.t_choices.specs.declared.choice_texts.Choices.{Choices}
use Rattle.t_trace.specs.Texts.{trace_text}
use Rattle.t_trace.specs.declared.texts.Stimulus.{Stimulus}
use Rattle.t_trace.specs.declared.texts.Trace.{Trace}
use Rattle.v_syntax.specs.declared.module.Module.{Module}
use Rattle.v_core.specs.Cores.{design_in}
use Rattle.v_meaning.specs.Designs.{Design, cycle_bits, first_bits}
use Rattle.v_meaning.specs.Modules.{design_of}
use Rattle.v_run.specs.Inputs.{process_count}
use Rattle.v_run.specs.Runs.{IsHalted, RunsBy, RunsInAnyOrder}
use Rattle.s_flow.specs.Running.{IsRunnable}
use Rattle.s_flow.specs.declared.readying.Prepared.{Prepared}
use Rattle.s_cli.specs.declared.status.Status.{Status}
use Rattle.s_cli.specs.declared.status.Status.TheVariants as status
use Rattle.s_cli.specs.Reading.{Chooses, Drives, DrivesBoth, IsDriven, IsReady, Prepares, ReadsSchedules, Readies, Simulates, StepsBy, never}
use Rattle.s_cli.specs.SourceRun.{AreRunJudged, IsChosenBy, IsHaltedRun, IsRun, IsRunJudged, IsScheduledBy, IsUnchosen, IsUndriven, IsUnrun, IsUnscheduled, Stepped, by_schedules, taken_widths}
use Rattle.s_cli.specs.Sources.{IsSource, IsSourceBroken}
use Rattle.s_cli.specs.Texts.{IsWhole}
use Rattle.s_cli.proofs.Judged.{OneReading, no_source, source_judged_broken, source_judged_good, source_judged_long}
use Rattle.s_cli.proofs.Simulated.{no_stimulus_fault}

-- ---- what the readers answer of the bytes that were read

pub chooses_whole : (d : Design) (count : ℕ) (v : Vec ℕ Global) (result : Result Choices Stop) → length v.items ≤ text_limit → IfOk result (λ c. IsChoices (first_bits d) (cycle_bits d) count c v.items)
    → ((other : Choices) → IsChoices (first_bits d) (cycle_bits d) count other v.items → Answers {X = Choices} {A = Choices} (λ c. c) result other)
    → IfFault result (IsUnreadable (IsChoices (first_bits d) (cycle_bits d) count) C1 v.items) → Chooses d count (Some v) result
chooses_whole d count v (Ok c) short is only unread = λ bytes whole. rw (← whole.0) (record { within = short; spelled = is }, λ other spelled. only other spelled.spelled)
chooses_whole d count v (Err (stop.Fault fault)) short is only unread = λ bytes whole. rw (← whole.0) (inr (short, unread))
chooses_whole d count v (Err stop.OutOfMemory) short is only unread = tt

pub schedules_whole : (d : Design) (count : ℕ) (v : Vec ℕ Global) (result : Result (List (List ℕ)) Stop) → length v.items ≤ text_limit → IfOk result (λ s. IsSchedule (process_count d) count s v.items)
    → ((other : List (List ℕ)) → IsSchedule (process_count d) count other v.items → Answers {X = List (List ℕ)} {A = List (List ℕ)} (λ s. s) result other)
    → IfFault result (IsUnreadable (IsSchedule (process_count d) count) S1 v.items) → ReadsSchedules d count (Some v) result
schedules_whole d count v (Ok s) short is only unread = λ bytes whole. rw (← whole.0) (record { within = short; spelled = is }, λ other spelled. only other spelled.spelled)
schedules_whole d count v (Err (stop.Fault fault)) short is only unread = λ bytes whole. rw (← whole.0) (inr (short, unread))
schedules_whole d count v (Err stop.OutOfMemory) short is only unread = tt

pub prepares_whole : (v : Vec ℕ Global) (result : Result Prepared Stop) → length v.items ≤ source_limit → IsRunnable v.items result → Prepares (Some v) result
prepares_whole v (Ok r) short is = λ bytes whole. rw (← whole.0)
    (is.holds.typed.module_, record { tokens = is.tokens; within = short; lexed = is.lexed; derived = is.holds.typed.derived; kept = is.holds.typed.kept }, is.holds.typed.design)
prepares_whole v (Err (stop.Fault fault)) short is = λ bytes whole. rw (← whole.0) (inr (short, is))
prepares_whole v (Err stop.OutOfMemory) short is = tt

-- ---- a design over a stimulus and choices

no_choices : (d : Design) (count : ℕ) (b : List ℕ) (fault : Fault) (chosen : Choices) → IsUnchosen d count b fault → IsChosenBy d count b chosen → ⊥
no_choices d count b fault chosen (inl longer) is = absurd (omega (arith, longer.0, is.within))
no_choices d count b fault chosen (inr faulty) is = (faulty.1).none chosen is.spelled

-- a stimulus that is refused
pub undriven : (d : Design) (text : Option (Vec ℕ Global)) (e : Stop) → Drives (taken_widths d) text (Err e) → (a b : List ℕ) → IsWhole text_limit text a → DrivesBoth d a b (Err e)
undriven d text (stop.Fault fault) drives a b is =
    let faulty = drives a is in (
      inl faulty,
      record {
        bad_stimulus = λ _. inl (fault, faulty, refl);
        bad_choices = λ cycles driven _. absurd (no_stimulus_fault (taken_widths d) a fault cycles faulty driven);
        good = λ cycles _ driven _. no_stimulus_fault (taken_widths d) a fault cycles faulty driven;
      },
    )
undriven d text stop.OutOfMemory drives a b is = tt

-- choices that are refused, for the cycles of a stimulus that is not
pub unchosen : (d : Design) (text more : Option (Vec ℕ Global)) (s : Stimulus) (count : ℕ) (e : Stop) → count ≡ length s.cycles → Drives (taken_widths d) text (Ok s) → Chooses d count more (Err e)
    → (a b : List ℕ) → IsWhole text_limit text a → IsWhole text_limit more b → DrivesBoth d a b (Err e)
unchosen d text more s count (stop.Fault fault) many drives chooses a b is other =
    let driven = drives a is in
    let faulty : IsUnchosen d (length s.cycles) b fault = rw (← many) (chooses b other) in (
      inr (inl (s.cycles, driven.0, faulty)),
      record {
        bad_stimulus = λ none. absurd (none s.cycles driven.0);
        bad_choices = λ cycles read _. inl (fault, rw (← driven.1 cycles read) faulty, refl);
        good = λ cycles chosen read spelled. no_choices d (length s.cycles) b fault chosen faulty (rw (← driven.1 cycles read) at spelled);
      },
    )
unchosen d text more s count stop.OutOfMemory many drives chooses a b is other = tt

-- both
pub driven : (d : Design) (text more : Option (Vec ℕ Global)) (s : Stimulus) (chosen : Choices) (count : ℕ) → count ≡ length s.cycles → Drives (taken_widths d) text (Ok s) → Chooses d count more (Ok chosen)
    → (a b : List ℕ) → IsWhole text_limit text a → IsWhole text_limit more b → IsDriven d a b s.cycles chosen
driven d text more s chosen count many drives chooses a b is other =
    let chose = rw many at (chooses b other) in
    let drove = drives a is in
    record { driven = drove.0; spelled = chose.0; one_stimulus = drove.1; one_choice = chose.1 }

-- what is refused before any step is refused however the steps are taken
before_steps : (by : Stepped) (d : Design) (a b : List ℕ) (fault : Fault) → IsUndriven never d a b fault → IsUndriven by d a b fault
before_steps by d a b fault (inl faulty) = inl faulty
before_steps by d a b fault (inr (inl faulty)) = inr (inl faulty)
before_steps by d a b fault (inr (inr halted)) = absurd halted.halts

judged_before : (by : Stepped) (d : Design) (a b : List ℕ) (result : Status) → IsRunJudged never d a b result → IsRunJudged by d a b result
judged_before by d a b result judged = record {
  bad_stimulus = judged.bad_stimulus;
  bad_choices = judged.bad_choices;
  good = λ cycles chosen read spelled. absurd (judged.good cycles chosen read spelled);
}

-- the status of steps, where the stimulus and the choices are not refused
judged_behind : (by : Stepped) (d : Design) (a b : List ℕ) (cycles : List (List WordValue)) (chosen : Choices) (result : Status) → IsDriven d a b cycles chosen → by.judged d chosen cycles result
    → IsRunJudged by d a b result
judged_behind by d a b cycles chosen result is judged = record {
  bad_stimulus = λ none. absurd (none cycles is.driven);
  bad_choices = λ others read none. absurd (none chosen (rw (← is.one_stimulus others read) is.spelled));
  good = λ others other read spelled.
      let same = is.one_stimulus others read in
      let one : chosen ≡ other = is.one_choice other (subst (λ (cs : List (List WordValue)). IsChosenBy d (length cs) b other) (sym same) spelled) in
      subst (λ (cs : List (List WordValue)). by.judged d other cs result) same (subst (λ (c : Choices). by.judged d c cycles result) one judged);
}

-- ---- a source over both

one_source : OneReading → (source : List ℕ) (m n : Module) → IsSource source m → IsSource source n → m ≡ n
one_source one source m n is other = one.modules other.tokens m n (rw (one.tokens source is.tokens other.tokens is.lexed other.lexed) at is.derived) other.derived

judged_run : OneReading → (by : Stepped) (a b c : List ℕ) (m : Module) (result : Status) → IsSource a m → IsRunJudged by (design_of m) b c result → AreRunJudged by a b c result
judged_run one by a b c m result is judged = record { broken = source_judged_good one a m result is; run = λ n other. rw (one_source one a n m other is) judged }

judged_broken_run : OneReading → (by : Stepped) (a b c : List ℕ) (fault : Fault) → IsSourceBroken a fault → AreRunJudged by a b c (status.Refused fault)
judged_broken_run one by a b c fault (inl long) = record {
  broken = rw long.fault_is (source_judged_long a long.longer);
  run = λ m read. absurd (omega (arith, long.longer, read.within));
}
judged_broken_run one by a b c fault (inr broken) = record { broken = source_judged_broken one a fault broken.0 broken.1; run = λ m read. absurd (no_source one a fault m broken.1 read) }

-- a source that is refused
pub unready : OneReading → (text : Option (Vec ℕ Global)) (e : Stop) → Prepares text (Err e) → (a b c : List ℕ) → IsWhole source_limit text a → Readies a b c (Err e)
unready one text (stop.Fault fault) prepares a b c is = let broken = prepares a is in (inl broken, judged_broken_run one never a b c fault broken)
unready one text stop.OutOfMemory prepares a b c is = tt

-- one that is not, and what it is driven by is
unready_behind : OneReading → (a b c : List ℕ) (m : Module) (e : Stop) → IsSource a m → DrivesBoth (design_of m) b c (Err e) → Readies a b c (Err e)
unready_behind one a b c m (stop.Fault fault) is drives = (inr (m, is, drives.0), judged_run one never a b c m (status.Refused fault) is drives.1)
unready_behind one a b c m stop.OutOfMemory is drives = tt

pub undriven_source : OneReading → (text : Option (Vec ℕ Global)) (r : Prepared) (e : Stop) → Prepares text (Ok r) → (a b c : List ℕ) → IsWhole source_limit text a
    → DrivesBoth (design_in r.core) b c (Err e) → Readies a b c (Err e)
undriven_source one text r e prepares a b c is drives = let p = prepares a is in unready_behind one a b c p.0 e p.1 (subst (λ (d : Design). DrivesBoth d b c (Err e)) p.2 drives)

-- and neither is
pub readied : OneReading → (text : Option (Vec ℕ Global)) (r : Prepared) (cycles : List (List WordValue)) (chosen : Choices) → Prepares text (Ok r) → (a b c : List ℕ) → IsWhole source_limit text a
    → IsDriven (design_in r.core) b c cycles chosen → IsReady a b c (design_in r.core) cycles chosen
readied one text r cycles chosen prepares a b c is driven =
    let p = prepares a is in
    record { module_ = p.0; read = p.1; design = p.2; kept = λ result. source_judged_good one a p.0 result p.1; one_module = λ other read. one_source one a p.0 other p.1 read; driven = driven }

-- what is refused before any step
pub unrun : (by : Stepped) (a b c : List ℕ) (e : Stop) → Readies a b c (Err e) → Simulates by a b c (Err e)
unrun by a b c (stop.Fault fault) (broken, judged) = (unrun_before broken, record { broken = judged.broken; run = λ m read. judged_before by (design_of m) b c (status.Refused fault) (judged.run m read) }) where
  unrun_before : IsUnrun never a b c fault → IsUnrun by a b c fault
  unrun_before (inl source) = inl source
  unrun_before (inr faulty) = inr (faulty.0, faulty.1, before_steps by (design_of faulty.0) b c fault faulty.2)
unrun by a b c stop.OutOfMemory readies = tt

-- what calls for a status behind that
judged_source : (by : Stepped) (a b c : List ℕ) (d : Design) (cycles : List (List WordValue)) (chosen : Choices) (result : Status) → IsReady a b c d cycles chosen → by.judged d chosen cycles result → AreRunJudged by a b c result
judged_source by a b c d cycles chosen result is judged = record {
  broken = is.kept result;
  run = λ m read. subst (λ (n : Module). IsRunJudged by (design_of n) b c result) (is.one_module m read)
      (subst (λ (e : Design). IsRunJudged by e b c result) is.design (judged_behind by d b c cycles chosen result is.driven judged));
}

-- the steps, and their trace
pub run_traced : (by : Stepped) (a b c : List ℕ) (d : Design) (cycles shown : List (List WordValue)) (chosen : Choices) (v : Vec ℕ Global) → IsReady a b c d cycles chosen
    → by.shows d chosen cycles shown → by.judged d chosen cycles status.Ok → v.items ≡ trace_text shown → Simulates by a b c (Ok v)
run_traced by a b c d cycles shown chosen v is shows judged printed =
    let run : IsRun by d b c v.items = record { cycles = cycles; chosen = chosen; shown = shown; driven = is.driven.driven; spelled = is.driven.spelled; run = shows; printed = printed } in (
      record { module_ = is.module_; read = is.read; run = subst (λ (e : Design). IsRun by e b c v.items) is.design run },
      judged_source by a b c d cycles chosen status.Ok is judged,
    )

-- steps that are refused
pub run_halted : (by : Stepped) (a b c : List ℕ) (d : Design) (cycles : List (List WordValue)) (chosen : Choices) (fault : Fault) → IsReady a b c d cycles chosen
    → by.halts d chosen cycles fault → by.judged d chosen cycles (status.Refused fault) → Simulates by a b c (Err (stop.Fault fault))
run_halted by a b c d cycles chosen fault is halts judged =
    let halted : IsHaltedRun by d b c fault = record { cycles = cycles; chosen = chosen; driven = is.driven.driven; spelled = is.driven.spelled; halts = halts } in (
      inr (is.module_, is.read, inr (inr (subst (λ (e : Design). IsHaltedRun by e b c fault) is.design halted))),
      judged_source by a b c d cycles chosen (status.Refused fault) is judged,
    )

-- ---- steps under schedules

no_schedules : (d : Design) (count : ℕ) (bytes : List ℕ) (fault : Fault) (schedules : List (List ℕ)) → IsUnscheduled d count bytes fault → IsScheduledBy d count bytes schedules → ⊥
no_schedules d count bytes fault schedules (inl longer) is = absurd (omega (arith, longer.0, is.within))
no_schedules d count bytes fault schedules (inr faulty) is = (faulty.1).none schedules is.spelled

-- a text that is refused
pub unscheduled : (d : Design) (chosen : Choices) (cycles : List (List WordValue)) (count : ℕ) (text : Option (Vec ℕ Global)) (e : Stop) → count ≡ length cycles → ReadsSchedules d count text (Err e)
    → (bytes : List ℕ) → IsWhole text_limit text bytes → StepsBy bytes d chosen cycles (Err e)
unscheduled d chosen cycles count text (stop.Fault fault) many reads bytes is =
    let faulty : IsUnscheduled d (length cycles) bytes fault = rw (← many) (reads bytes is) in (
      inl faulty,
      record {
        bad_schedules = λ _. inl (fault, faulty, refl);
        incomplete = λ schedules read _. absurd (no_schedules d (length cycles) bytes fault schedules faulty read);
        good = λ schedules _ read _. absurd (no_schedules d (length cycles) bytes fault schedules faulty read);
      },
    )
unscheduled d chosen cycles count text stop.OutOfMemory many reads bytes is = tt

-- one that is not: each schedule is complete, or one is not
pub stepped : (d : Design) (chosen : Choices) (cycles : List (List WordValue)) (count : ℕ) (text : Option (Vec ℕ Global)) (schedules : List (List ℕ)) (result : Result Trace Stop) → count ≡ length cycles
    → ReadsSchedules d count text (Ok schedules) → IfOk result (λ t. RunsBy schedules d chosen cycles t.cycles) → IfOk result (λ t. RunsInAnyOrder d chosen cycles t.cycles)
    → IfFault result (IsHalted schedules d chosen cycles) → IfFault result (λ _. (shown : List (List WordValue)) → RunsBy schedules d chosen cycles shown → ⊥)
    → (bytes : List ℕ) → IsWhole text_limit text bytes → StepsBy bytes d chosen cycles result
stepped d chosen cycles count text schedules (Ok t) many reads runs every halts refused bytes is =
    let read = rw many at (reads bytes is) in (
      record { schedules = schedules; scheduled = read.0; runs = runs; every = every },
      record {
        bad_schedules = λ none. absurd (none schedules read.0);
        incomplete = λ others other none. absurd (none t.cycles (subst (λ (s : List (List ℕ)). RunsBy s d chosen cycles t.cycles) (read.1 others other) runs));
        good = λ _ _ _ _. inl refl;
      },
    )
stepped d chosen cycles count text schedules (Err (stop.Fault fault)) many reads runs every halts refused bytes is =
    let read = rw many at (reads bytes is) in (
      inr (schedules, read.0, halts),
      record {
        bad_schedules = λ none. absurd (none schedules read.0);
        incomplete = λ others other _. inl (fault, subst (λ (s : List (List ℕ)). IsHalted s d chosen cycles fault) (read.1 others other) halts, refl);
        good = λ others shown other complete. absurd (refused shown (subst (λ (s : List (List ℕ)). RunsBy s d chosen cycles shown) (sym (read.1 others other)) complete));
      },
    )
stepped d chosen cycles count text schedules (Err stop.OutOfMemory) many reads runs every halts refused bytes is = tt

-- so a source is refused for its schedules
pub run_stopped : (a b c bytes : List ℕ) (d : Design) (cycles : List (List WordValue)) (chosen : Choices) (e : Stop) → IsReady a b c d cycles chosen → StepsBy bytes d chosen cycles (Err e)
    → Simulates (by_schedules bytes) a b c (Err e)
run_stopped a b c bytes d cycles chosen (stop.Fault fault) is steps = run_halted (by_schedules bytes) a b c d cycles chosen fault is steps.0 steps.1
run_stopped a b c bytes d cycles chosen stop.OutOfMemory is steps = tt
