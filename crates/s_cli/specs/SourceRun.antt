-- What the run of a source answers.
use Rattle.std.specs.Prelude.{◌≡◌, ◌⊎◌, ℕ, ◌<◌, ◌≤◌, List, length}
use Rattle.lz_base.specs.Limits.{text_limit}
use Rattle.lz_base.specs.WordValue.{WordValue}
use Rattle.lz_base.specs.declared.fault.Fault.{Fault}
use Rattle.lz_base.specs.declared.rule.Rule.TheVariants.{C1, S1}
use Rattle.lz_lines.specs.Places.{IsUnreadable}
use Rattle.t_choices.specs.ChoiceTexts.{IsChoices}
use Rattle.t_choices.specs.ScheduleTexts.{IsSchedule}
use Rattle.t_choices.specs.declared.choice_texts.Choices.{Choices}
use Rattle.t_trace.specs.Texts.{trace_text}
use Rattle.v_syntax.specs.declared.module.Module.{Module}
use Rattle.v_machine.specs.Runnable.{port_widths}
use Rattle.v_meaning.specs.Designs.{Design, cycle_bits, first_bits}
use Rattle.v_meaning.specs.Modules.{design_of}
use Rattle.v_run.specs.Inputs.{process_count}
use Rattle.v_run.specs.Runs.{IsHalted, RunsBy, RunsInAnyOrder, RunsInTextOrder}
use Rattle.s_cli.specs.declared.status.Status.{Status}
use Rattle.s_cli.specs.declared.status.Status.TheVariants as status
use Rattle.s_cli.specs.Status.{IsUnlessMemory, IsRefusedUnlessMemory}
use Rattle.s_cli.specs.Simulation.{IsStimulus, IsStimulusFault}
use Rattle.s_cli.specs.Sources.{IsSource, IsSourceBroken, IsSourceJudged}

-- ---- the texts of choices and of schedules

-- the bytes are the text of these choices for the bits that a design leaves open and so many cycles
pub record IsChosenBy (d : Design) (count : ℕ) (bytes : List ℕ) (choices : Choices) : Type 0 where
  pub within : length bytes ≤ text_limit
  pub spelled : IsChoices (first_bits d) (cycle_bits d) count choices bytes

-- The choices are refused with this fault: they are too long, or their bytes are no text for the open bits of the design
-- and so many cycles.
abbrev pub IsUnchosen : Design → ℕ → List ℕ → Fault → Type 0
IsUnchosen d count bytes fault =
    ((text_limit < length bytes) × (fault ≡ record { rule = C1; at = text_limit }))
    ⊎ ((length bytes ≤ text_limit) × IsUnreadable (IsChoices (first_bits d) (cycle_bits d) count) C1 bytes fault)

-- the bytes are the text of these schedules for the processes of a design and so many cycles
pub record IsScheduledBy (d : Design) (count : ℕ) (bytes : List ℕ) (schedules : List (List ℕ)) : Type 0 where
  pub within : length bytes ≤ text_limit
  pub spelled : IsSchedule (process_count d) count schedules bytes

-- The schedules are refused with this fault: they are too long, or their bytes are no text for the processes of the design
-- and so many cycles.
abbrev pub IsUnscheduled : Design → ℕ → List ℕ → Fault → Type 0
IsUnscheduled d count bytes fault =
    ((text_limit < length bytes) × (fault ≡ record { rule = S1; at = text_limit }))
    ⊎ ((length bytes ≤ text_limit) × IsUnreadable (IsSchedule (process_count d) count) S1 bytes fault)

-- ---- the steps of processes

-- How the processes take their steps over a stimulus and under choices: what is shown then, with which fault it is refused,
-- and which status it calls for.
pub record Stepped : Type 1 where
  pub shows : Design → Choices → List (List WordValue) → List (List WordValue) → Type 0
  pub halts : Design → Choices → List (List WordValue) → Fault → Type 0
  pub judged : Design → Choices → List (List WordValue) → Status → Type 0

-- in text order, which shows what all schedules show that are complete in their cycles; nothing is refused
abbrev pub in_text_order : Stepped
in_text_order = record {
  shows = λ d choices cycles shown. RunsInTextOrder d choices cycles shown × RunsInAnyOrder d choices cycles shown;
  halts = λ d choices cycles fault. ⊥;
  judged = λ d choices cycles result. IsUnlessMemory result status.Ok;
}

-- Under the schedules of a text, each complete in its cycle; all others that are complete show the same.
pub record ShowsBy (bytes : List ℕ) (d : Design) (choices : Choices) (cycles shown : List (List WordValue)) : Type 0 where
  pub schedules : List (List ℕ)
  pub scheduled : IsScheduledBy d (length cycles) bytes schedules
  pub runs : RunsBy schedules d choices cycles shown
  pub every : RunsInAnyOrder d choices cycles shown

-- The bytes are no text of schedules, or some schedule is not complete: S1 at the entry of the first one.
abbrev pub HaltsBy : List ℕ → Design → Choices → List (List WordValue) → Fault → Type 0
HaltsBy bytes d choices cycles fault =
    IsUnscheduled d (length cycles) bytes fault
    ⊎ ((schedules : List (List ℕ)) × IsScheduledBy d (length cycles) bytes schedules × IsHalted schedules d choices cycles fault)

-- What the status is, each unless memory was wanting: the text is judged first, and then whether the schedules are complete.
pub record AreSchedulesJudged (bytes : List ℕ) (d : Design) (choices : Choices) (cycles : List (List WordValue)) (result : Status) : Type 0 where
  pub bad_schedules : ((schedules : List (List ℕ)) → IsScheduledBy d (length cycles) bytes schedules → ⊥)
      → IsRefusedUnlessMemory result (IsUnscheduled d (length cycles) bytes)
  pub incomplete : (schedules : List (List ℕ)) → IsScheduledBy d (length cycles) bytes schedules
      → ((shown : List (List WordValue)) → RunsBy schedules d choices cycles shown → ⊥)
      → IsRefusedUnlessMemory result (IsHalted schedules d choices cycles)
  pub good : (schedules : List (List ℕ)) (shown : List (List WordValue)) → IsScheduledBy d (length cycles) bytes schedules
      → RunsBy schedules d choices cycles shown → IsUnlessMemory result status.Ok

abbrev pub by_schedules : List ℕ → Stepped
by_schedules bytes = record { shows = ShowsBy bytes; halts = HaltsBy bytes; judged = AreSchedulesJudged bytes }

-- ---- the run of a design

-- the widths of the words that a design takes in a cycle
abbrev pub taken_widths : Design → List ℕ
taken_widths d = port_widths d.inputs

-- the output for a stimulus and choices: the trace of what the design shows
pub record IsRun (by : Stepped) (d : Design) (stimulus choices output : List ℕ) : Type 0 where
  pub cycles : List (List WordValue)
  pub chosen : Choices
  pub shown : List (List WordValue)
  pub driven : IsStimulus (taken_widths d) stimulus cycles
  pub spelled : IsChosenBy d (length cycles) choices chosen
  pub run : by.shows d chosen cycles shown
  pub printed : output ≡ trace_text shown

-- The steps are refused with this fault over a stimulus and under choices that are not.
pub record IsHaltedRun (by : Stepped) (d : Design) (stimulus choices : List ℕ) (fault : Fault) : Type 0 where
  pub cycles : List (List WordValue)
  pub chosen : Choices
  pub driven : IsStimulus (taken_widths d) stimulus cycles
  pub spelled : IsChosenBy d (length cycles) choices chosen
  pub halts : by.halts d chosen cycles fault

-- the stimulus is refused; or it is not, and the choices are; or neither is, and the steps are
abbrev pub IsUndriven : Stepped → Design → List ℕ → List ℕ → Fault → Type 0
IsUndriven by d stimulus choices fault =
    IsStimulusFault (taken_widths d) stimulus fault
    ⊎ (((cycles : List (List WordValue)) × IsStimulus (taken_widths d) stimulus cycles × IsUnchosen d (length cycles) choices fault)
    ⊎ IsHaltedRun by d stimulus choices fault)

-- What the status is, each unless memory was wanting: the stimulus is judged first, then the choices by its cycles, and then
-- the steps.
pub record IsRunJudged (by : Stepped) (d : Design) (stimulus choices : List ℕ) (result : Status) : Type 0 where
  pub bad_stimulus : ((cycles : List (List WordValue)) → IsStimulus (taken_widths d) stimulus cycles → ⊥)
      → IsRefusedUnlessMemory result (IsStimulusFault (taken_widths d) stimulus)
  pub bad_choices : (cycles : List (List WordValue)) → IsStimulus (taken_widths d) stimulus cycles
      → ((chosen : Choices) → IsChosenBy d (length cycles) choices chosen → ⊥)
      → IsRefusedUnlessMemory result (IsUnchosen d (length cycles) choices)
  pub good : (cycles : List (List WordValue)) (chosen : Choices) → IsStimulus (taken_widths d) stimulus cycles
      → IsChosenBy d (length cycles) choices chosen → by.judged d chosen cycles result

-- ---- the run of a source

-- The output for a source, a stimulus and choices: the trace of what the design of its module shows.
pub record IsSourceRun (by : Stepped) (source stimulus choices output : List ℕ) : Type 0 where
  pub module_ : Module
  pub read : IsSource source module_
  pub run : IsRun by (design_of module_) stimulus choices output

-- The source is refused, or it is not, and the stimulus, the choices or the steps are.
abbrev pub IsUnrun : Stepped → List ℕ → List ℕ → List ℕ → Fault → Type 0
IsUnrun by source stimulus choices fault =
    IsSourceBroken source fault ⊎ ((m : Module) × IsSource source m × IsUndriven by (design_of m) stimulus choices fault)

-- What the status is where no call on the files and on the output failed: the source is judged first, then the others.
pub record AreRunJudged (by : Stepped) (source stimulus choices : List ℕ) (result : Status) : Type 0 where
  pub broken : IsSourceJudged source result
  pub run : (m : Module) → IsSource source m → IsRunJudged by (design_of m) stimulus choices result
