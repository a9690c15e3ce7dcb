-- What the simulation of a netlist answers.
use Rattle.std.specs.Prelude.{◌≡◌, ◌⊎◌, ℕ, ◌<◌, ◌≤◌, List, length}
use Rattle.lz_base.specs.Limits.{text_limit}
use Rattle.lz_base.specs.WordValue.{WordValue}
use Rattle.lz_base.specs.declared.fault.Fault.{Fault}
use Rattle.lz_base.specs.declared.rule.Rule.TheVariants.{N1, T1}
use Rattle.n_cells.specs.Netlist.{NetlistValue, IsWellFormed}
use Rattle.n_cells.specs.Form.{HasForm}
use Rattle.n_cells.specs.Run.{Runs, first_state}
use Rattle.n_cells.specs.Text.{text}
use Rattle.n_cells.specs.declared.format.Format.{Format}
use Rattle.n_cells.specs.declared.format.Format.TheVariants.{Two}
use Rattle.n_text.specs.Answers.{IsRefusal}
use Rattle.lz_lines.specs.Places.{IsUnreadable}
use Rattle.t_trace.specs.Texts.{IsText, stimulus_text, trace_text}
use Rattle.t_trace.specs.Texts as trace
use Rattle.s_flow.specs.Simulation.{widths_of, RunsInTurn}
use Rattle.s_cli.specs.declared.status.Status.{Status}
use Rattle.s_cli.specs.declared.status.Status.TheVariants as status
use Rattle.s_cli.specs.Status.{IsUnlessMemory, IsRefusedUnlessMemory}

-- the bytes are the text of this netlist in a format
pub record IsNetlist (format : Format) (bytes : List ℕ) (n : NetlistValue) : Type 0 where
  pub within : length bytes ≤ text_limit
  pub form : HasForm format n
  pub formed : IsWellFormed n
  pub printed : bytes ≡ text format n

-- the bytes are the text of this stimulus for inputs of these widths
pub record IsStimulus (widths : List ℕ) (bytes : List ℕ) (cycles : List (List WordValue)) : Type 0 where
  pub within : length bytes ≤ text_limit
  pub printed : IsText stimulus_text widths bytes cycles

-- The netlist is refused with this fault: it is too long, or its bytes are no text, or a reference is wrong.
abbrev pub IsNetlistFault : Format → List ℕ → Fault → Type 0
IsNetlistFault format bytes fault =
    ((text_limit < length bytes) × (fault ≡ record { rule = N1; at = text_limit }))
    ⊎ ((length bytes ≤ text_limit) × IsRefusal format bytes fault)

-- The stimulus is refused with this fault: it is too long, or its bytes are no text for inputs of these widths.
abbrev pub IsStimulusFault : List ℕ → List ℕ → Fault → Type 0
IsStimulusFault widths bytes fault =
    ((text_limit < length bytes) × (fault ≡ record { rule = T1; at = text_limit }))
    ⊎ ((length bytes ≤ text_limit) × IsUnreadable (trace.IsStimulus widths) T1 bytes fault)

-- The netlist is refused, or it is not and the stimulus is.
abbrev pub IsUnsimulated : List ℕ → List ℕ → Fault → Type 0
IsUnsimulated netlist stimulus fault = IsNetlistFault Two netlist fault ⊎ ((n : NetlistValue) × IsNetlist Two netlist n × IsStimulusFault (widths_of n.inputs) stimulus fault)

-- what one simulation of a netlist shows
abbrev pub ShowsRun : NetlistValue → List (List WordValue) → List (List WordValue) → Type 0
ShowsRun n cycles shown = Runs n (first_state n) cycles shown

-- what so many simulations show, which take the lines of the stimulus in turn
abbrev pub ShowsStreams : ℕ → NetlistValue → List (List WordValue) → List (List WordValue) → Type 0
ShowsStreams count n cycles shown = RunsInTurn n count cycles shown

-- The output for a netlist and a stimulus: the trace of what the netlist shows over the stimulus, where `Shows` says
-- what that is.
pub record IsSimulation (Shows : NetlistValue → List (List WordValue) → List (List WordValue) → Type 0) (netlist stimulus output : List ℕ) : Type 0 where
  pub simulated : NetlistValue
  pub cycles : List (List WordValue)
  pub shown : List (List WordValue)
  pub read : IsNetlist Two netlist simulated
  pub driven : IsStimulus (widths_of simulated.inputs) stimulus cycles
  pub run : Shows simulated cycles shown
  pub printed : output ≡ trace_text shown

-- What the status is where no call on the files and on the output failed, each unless memory was wanting: the netlist is
-- judged first, then the stimulus by the netlist's inputs.
pub record AreJudged (netlist stimulus : List ℕ) (result : Status) : Type 0 where
  pub bad_netlist : ((n : NetlistValue) → IsNetlist Two netlist n → ⊥) → IsRefusedUnlessMemory result (IsNetlistFault Two netlist)
  pub bad_stimulus : (n : NetlistValue) → IsNetlist Two netlist n → ((cycles : List (List WordValue)) → IsStimulus (widths_of n.inputs) stimulus cycles → ⊥)
      → IsRefusedUnlessMemory result (IsStimulusFault (widths_of n.inputs) stimulus)
  pub good : (n : NetlistValue) (cycles : List (List WordValue)) → IsNetlist Two netlist n → IsStimulus (widths_of n.inputs) stimulus cycles → IsUnlessMemory result status.Ok
