-- What the readers of named files answer.
use Rattle.std.specs.Prelude.{◌≡◌, ℕ, List, length, Option, Result, Ok, Err, Vec, ⊤}
use Rattle.std.specs.declared.alloc.Global.{Global}
use Rattle.lz_base.specs.Limits.{source_limit, text_limit}
use Rattle.lz_base.specs.WordValue.{WordValue}
use Rattle.lz_base.specs.declared.fault.Stop.{Stop}
use Rattle.lz_base.specs.declared.fault.Stop.TheVariants as stop
use Rattle.n_cells.specs.Netlist.{NetlistValue}
use Rattle.n_cells.specs.declared.format.Format.{Format}
use Rattle.t_choices.specs.declared.choice_texts.Choices.{Choices}
use Rattle.t_trace.specs.declared.texts.Stimulus.{Stimulus}
use Rattle.t_trace.specs.declared.texts.Trace.{Trace}
use Rattle.v_syntax.specs.declared.module.Module.{Module}
use Rattle.v_core.specs.Cores.{design_in}
use Rattle.v_meaning.specs.Designs.{Design}
use Rattle.v_meaning.specs.Modules.{design_of}
use Rattle.s_flow.specs.declared.readying.Prepared.{Prepared}
use Rattle.s_cli.specs.declared.status.Status.{Status}
use Rattle.s_cli.specs.declared.status.Status.TheVariants as status
use Rattle.s_cli.specs.Simulation.{IsNetlist, IsNetlistFault, IsStimulus, IsStimulusFault}
use Rattle.s_cli.specs.SourceRun.{AreRunJudged, AreSchedulesJudged, HaltsBy, IsChosenBy, IsRunJudged, IsScheduledBy, IsSourceRun, IsUnchosen, IsUndriven, IsUnrun, IsUnscheduled, ShowsBy, Stepped, taken_widths}
use Rattle.s_cli.specs.Sources.{IsSource, IsSourceBroken, IsSourceJudged}
use Rattle.s_cli.specs.declared.source_run.Driven.{Driven}
use Rattle.s_cli.specs.declared.source_run.Inputs.{Inputs}
use Rattle.s_cli.specs.Texts.{IsWhole}

-- the bytes are the text of this netlist alone
abbrev pub IsAlone : Format → List ℕ → NetlistValue → Type 0
IsAlone format bytes n = (m : NetlistValue) → IsNetlist format bytes m → m ≡ n

-- the netlist of the bytes, or the fault for which they are refused
abbrev pub Reads : Format → Option (Vec ℕ Global) → Result NetlistValue Stop → Type 0
Reads format text (Ok n) = (bytes : List ℕ) → IsWhole text_limit text bytes → IsNetlist format bytes n × IsAlone format bytes n
Reads format text (Err (stop.Fault fault)) = (bytes : List ℕ) → IsWhole text_limit text bytes → IsNetlistFault format bytes fault × ((m : NetlistValue) → IsNetlist format bytes m → ⊥)
Reads format text (Err stop.OutOfMemory) = ⊤

-- the stimulus of the bytes, or the fault for which they are refused
abbrev pub Drives : List ℕ → Option (Vec ℕ Global) → Result Stimulus Stop → Type 0
Drives widths text (Ok s) = (bytes : List ℕ) → IsWhole text_limit text bytes → IsStimulus widths bytes s.cycles × ((cycles : List (List WordValue)) → IsStimulus widths bytes cycles → s.cycles ≡ cycles)
Drives widths text (Err (stop.Fault fault)) = (bytes : List ℕ) → IsWhole text_limit text bytes → IsStimulusFault widths bytes fault
Drives widths text (Err stop.OutOfMemory) = ⊤

-- the choices of the bytes, or the fault for which they are refused
abbrev pub Chooses : Design → ℕ → Option (Vec ℕ Global) → Result Choices Stop → Type 0
Chooses d count text (Ok c) = (bytes : List ℕ) → IsWhole text_limit text bytes → IsChosenBy d count bytes c × ((other : Choices) → IsChosenBy d count bytes other → c ≡ other)
Chooses d count text (Err (stop.Fault fault)) = (bytes : List ℕ) → IsWhole text_limit text bytes → IsUnchosen d count bytes fault
Chooses d count text (Err stop.OutOfMemory) = ⊤

-- the schedules of the bytes, or the fault for which they are refused
abbrev pub ReadsSchedules : Design → ℕ → Option (Vec ℕ Global) → Result (List (List ℕ)) Stop → Type 0
ReadsSchedules d count text (Ok s) = (bytes : List ℕ) → IsWhole text_limit text bytes → IsScheduledBy d count bytes s × ((other : List (List ℕ)) → IsScheduledBy d count bytes other → s ≡ other)
ReadsSchedules d count text (Err (stop.Fault fault)) = (bytes : List ℕ) → IsWhole text_limit text bytes → IsUnscheduled d count bytes fault
ReadsSchedules d count text (Err stop.OutOfMemory) = ⊤

-- what a machine is made of for the module of the bytes, or the fault for which they are refused
abbrev pub Prepares : Option (Vec ℕ Global) → Result Prepared Stop → Type 0
Prepares text (Ok r) = (bytes : List ℕ) → IsWhole source_limit text bytes → (m : Module) × IsSource bytes m × (design_in r.core ≡ design_of m)
Prepares text (Err (stop.Fault fault)) = (bytes : List ℕ) → IsWhole source_limit text bytes → IsSourceBroken bytes fault
Prepares text (Err stop.OutOfMemory) = ⊤

-- no steps at all: what is refused before any is taken
abbrev pub never : Stepped
never = record { shows = λ _ _ _ _. ⊥; halts = λ _ _ _ _. ⊥; judged = λ _ _ _ _. ⊥ }

-- the bytes are the texts of this stimulus and of these choices for a design, and of no others
pub record IsDriven (d : Design) (stimulus choices : List ℕ) (cycles : List (List WordValue)) (chosen : Choices) : Type 0 where
  pub driven : IsStimulus (taken_widths d) stimulus cycles
  pub spelled : IsChosenBy d (length cycles) choices chosen
  pub one_stimulus : (other : List (List WordValue)) → IsStimulus (taken_widths d) stimulus other → cycles ≡ other
  pub one_choice : (other : Choices) → IsChosenBy d (length cycles) choices other → chosen ≡ other

-- the stimulus and the choices of the bytes, or the fault for which they are refused
abbrev pub DrivesBoth : Design → List ℕ → List ℕ → Result Driven Stop → Type 0
DrivesBoth d stimulus choices (Ok r) = IsDriven d stimulus choices r.stimulus.cycles r.choices
DrivesBoth d stimulus choices (Err (stop.Fault fault)) = IsUndriven never d stimulus choices fault × IsRunJudged never d stimulus choices (status.Refused fault)
DrivesBoth d stimulus choices (Err stop.OutOfMemory) = ⊤

-- The bytes are the text of one module, of this design, which breaks no rule, and of one stimulus and one choice for it.
pub record IsReady (source stimulus choices : List ℕ) (d : Design) (cycles : List (List WordValue)) (chosen : Choices) : Type 0 where
  pub module_ : Module
  pub read : IsSource source module_
  pub design : d ≡ design_of module_
  pub kept : (result : Status) → IsSourceJudged source result
  pub one_module : (other : Module) → IsSource source other → module_ ≡ other
  pub driven : IsDriven d stimulus choices cycles chosen

-- what a module is run with, or the fault for which the bytes are refused
abbrev pub Readies : List ℕ → List ℕ → List ℕ → Result Inputs Stop → Type 0
Readies source stimulus choices (Ok r) = IsReady source stimulus choices (design_in r.core) r.stimulus.cycles r.choices
Readies source stimulus choices (Err (stop.Fault fault)) = IsUnrun never source stimulus choices fault × AreRunJudged never source stimulus choices (status.Refused fault)
Readies source stimulus choices (Err stop.OutOfMemory) = ⊤

-- what is shown under the schedules of the bytes, or the fault for which they are refused; and that it is what they call for
abbrev pub StepsBy : List ℕ → Design → Choices → List (List WordValue) → Result Trace Stop → Type 0
StepsBy bytes d chosen cycles (Ok t) = ShowsBy bytes d chosen cycles t.cycles × AreSchedulesJudged bytes d chosen cycles status.Ok
StepsBy bytes d chosen cycles (Err (stop.Fault fault)) = HaltsBy bytes d chosen cycles fault × AreSchedulesJudged bytes d chosen cycles (status.Refused fault)
StepsBy bytes d chosen cycles (Err stop.OutOfMemory) = ⊤

-- the trace of the module of a source over a stimulus and choices, or the fault for which they are refused; and that it is
-- what they call for
abbrev pub Simulates : Stepped → List ℕ → List ℕ → List ℕ → Result (Vec ℕ Global) Stop → Type 0
Simulates by source stimulus choices (Ok v) = IsSourceRun by source stimulus choices v.items × AreRunJudged by source stimulus choices status.Ok
Simulates by source stimulus choices (Err (stop.Fault fault)) = IsUnrun by source stimulus choices fault × AreRunJudged by source stimulus choices (status.Refused fault)
Simulates by source stimulus choices (Err stop.OutOfMemory) = ⊤
