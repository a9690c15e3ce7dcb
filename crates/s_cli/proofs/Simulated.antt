-- The status that a netlist and a stimulus call for.
use Rattle.std.proofs.Common.{◌≡◌, ◌≤◌, ℕ, List, [], ◌∷◌, length, Option, Some, Result, Ok, Err, Vec, refl, arith, inl, inr, ◌∙◌}
use Rattle.std.specs.Prelude.{⊤, IfOk}
use Rattle.std.specs.declared.alloc.Global.{Global}
use Rattle.lz_base.specs.Answers.{Answers, IfFault}
use Rattle.lz_base.specs.Limits.{text_limit}
use Rattle.lz_base.specs.WordValue.{WordValue}
use Rattle.lz_base.specs.declared.fault.Fault.{Fault}
use Rattle.lz_base.specs.declared.fault.Stop.{Stop}
use Rattle.lz_base.specs.declared.fault.Stop.TheVariants as stop
use Rattle.lz_base.specs.declared.rule.Rule.TheVariants.{T1}
use Rattle.lz_lines.specs.Places.{IsUnreadable}
use Rattle.n_cells.specs.Form.{HasForm}
use Rattle.n_cells.specs.Netlist.{NetlistValue, IsWellFormed}
use Rattle.n_cells.specs.Text.{text}
use Rattle.n_cells.specs.declared.format.Format.{Format}
use Rattle.n_cells.specs.declared.format.Format.TheVariants.{Two}
use Rattle.n_text.specs.Answers.{IsTextOf, IsRefusal}
use Rattle.t_trace.specs.Texts.{IsText, stimulus_text, trace_text}
use Rattle.t_trace.specs.Texts as trace
use Rattle.t_trace.specs.declared.texts.Stimulus.{Stimulus}
use Rattle.s_flow.specs.Simulation.{widths_of}
use Rattle.s_cli.specs.declared.forms.Command.TheVariants as command
use Rattle.s_cli.specs.declared.status.Status.TheVariants as status
use Rattle.s_cli.specs.Answers.{Decides}
use Rattle.s_cli.specs.Reading.{Reads, Drives}
use Rattle.s_cli.specs.Simulation.{IsStimulus, IsSimulation, IsStimulusFault, IsUnsimulated, AreJudged}
use Rattle.s_cli.specs.Texts.{IsWhole}

pub are_judged_memory : (a b : List ℕ) → AreJudged a b status.OutOfMemory
are_judged_memory a b = record { bad_netlist = λ _. inr refl; bad_stimulus = λ _ _ _. inr refl; good = λ _ _ _ _. inr refl }

pub no_stimulus_fault : (widths b : List ℕ) (fault : Fault) (cycles : List (List WordValue)) → IsStimulusFault widths b fault → IsStimulus widths b cycles → ⊥
no_stimulus_fault widths b fault cycles (inl longer) is = absurd (omega (arith, longer.0, is.within))
no_stimulus_fault widths b fault cycles (inr faulty) is = (faulty.1).none cycles is.printed

-- two texts are refused for this, and it is what they call for
abbrev pub AreRefused : List ℕ → List ℕ → Stop → Type 0
AreRefused a b (stop.Fault fault) = IsUnsimulated a b fault × AreJudged a b (status.Refused fault)
AreRefused a b stop.OutOfMemory = ⊤

-- a netlist that is refused is the first text that is
pub refused_first : (whole : Option (Vec ℕ Global)) (e : Stop) → Reads Two whole (Err e) → (a b : List ℕ) → IsWhole text_limit whole a → AreRefused a b e
refused_first whole (stop.Fault fault) reads a b is =
    let r = reads a is in
    (inl r.0, record { bad_netlist = λ _. inl (fault, r.0, refl); bad_stimulus = λ n read _. absurd (r.1 n read); good = λ n _ read _. absurd (r.1 n read) })
refused_first whole stop.OutOfMemory reads a b is = tt

-- and else a stimulus is
pub refused_second : (whole more : Option (Vec ℕ Global)) (n : NetlistValue) (e : Stop) → Reads Two whole (Ok n) → Drives (widths_of n.inputs) more (Err e) → (a b : List ℕ) → IsWhole text_limit whole a
    → IsWhole text_limit more b → AreRefused a b e
refused_second whole more n (stop.Fault fault) reads drives a b is other =
    let r = reads a is in
    let faulty = drives b other in (
      inr (n, r.0, faulty),
      record {
        bad_netlist = λ none. absurd (none n r.0);
        bad_stimulus = λ m read _. inl (fault, rw (r.1 m read) faulty, refl);
        good = λ m cycles read driven. absurd (no_stimulus_fault (widths_of n.inputs) b fault cycles faulty (rw (r.1 m read) at driven));
      },
    )
refused_second whole more n stop.OutOfMemory reads drives a b is other = tt

pub simn_refused : (IsRight : Vec ℕ Global → Type 0) (a b : List ℕ) (e : Stop) → AreRefused a b e → Decides IsRight command.Simn (a ∷ b ∷ []) (Err e)
simn_refused IsRight a b (stop.Fault fault) h = h
simn_refused IsRight a b stop.OutOfMemory h = tt

pub lanes_refused : (IsRight : Vec ℕ Global → Type 0) (count : ℕ) (a b : List ℕ) (e : Stop) → AreRefused a b e → Decides IsRight (command.Lanes count) (a ∷ b ∷ []) (Err e)
lanes_refused IsRight count a b (stop.Fault fault) h = h
lanes_refused IsRight count a b stop.OutOfMemory h = tt

-- the trace of both, from what was read and what was shown
pub simulated : (shows : NetlistValue → List (List WordValue) → List (List WordValue) → Type 0) (whole more : Option (Vec ℕ Global)) (n : NetlistValue) (s : Stimulus) (shown : List (List WordValue)) (bytes : List ℕ)
    → Reads Two whole (Ok n) → Drives (widths_of n.inputs) more (Ok s) → shows n s.cycles shown → bytes ≡ trace_text shown → (a b : List ℕ) → IsWhole text_limit whole a → IsWhole text_limit more b
    → IsSimulation shows a b bytes × AreJudged a b status.Ok
simulated shows whole more n s shown bytes reads drives run printed a b is other =
    let r = reads a is in
    let driven = (drives b other).0 in (
      record { simulated = n; cycles = s.cycles; shown = shown; read = r.0; driven = driven; run = run; printed = printed },
      record {
        bad_netlist = λ none. absurd (none n r.0);
        bad_stimulus = λ m read none. absurd (none s.cycles (rw (r.1 m read) driven));
        good = λ _ _ _ _. inl refl;
      },
    )

-- what the reader of netlists answers of the bytes that were read

pub reads_ok : (format : Format) (v : Vec ℕ Global) (n : NetlistValue) → length v.items ≤ text_limit → IsWellFormed n → IsTextOf format v.items n → Reads format (Some v) (Ok n)
reads_ok format v n short formed is = λ bytes whole. rw (← whole.0)
    (record { within = short; form = is.form; formed = formed; printed = is.spelled }, λ m other. is.alone m other.form other.printed)

pub reads_err : (format : Format) (v : Vec ℕ Global) (e : Stop) → length v.items ≤ text_limit → IfFault {X = NetlistValue} (Err e) (IsRefusal format v.items)
    → ((n : NetlistValue) → HasForm format n → IsWellFormed n → v.items ≡ text format n → Answers {X = NetlistValue} {A = NetlistValue} (λ r. r) (Err e) n) → Reads format (Some v) (Err e)
reads_err format v (stop.Fault fault) short refused only = λ bytes whole.
    (rw (← whole.0) (inr (short, refused)), λ m other. only m other.form other.formed (whole.0 ∙ other.printed))
reads_err format v stop.OutOfMemory short refused only = tt

-- the same of either answer
pub reads_whole : (format : Format) (v : Vec ℕ Global) (result : Result NetlistValue Stop) → length v.items ≤ text_limit → IfOk result (IsTextOf format v.items) → IfOk result IsWellFormed
    → ((n : NetlistValue) → HasForm format n → IsWellFormed n → v.items ≡ text format n → Answers {X = NetlistValue} {A = NetlistValue} (λ r. r) result n) → IfFault result (IsRefusal format v.items) → Reads format (Some v) result
reads_whole format v (Ok n) short is formed only fault = reads_ok format v n short formed is
reads_whole format v (Err e) short is formed only fault = reads_err format v e short fault only

-- what the reader of stimuli answers of them
pub drives_whole : (widths : List ℕ) (v : Vec ℕ Global) (result : Result Stimulus Stop) → length v.items ≤ text_limit → IfOk result (λ s. IsText stimulus_text widths v.items s.cycles)
    → ((cycles : List (List WordValue)) → IsText stimulus_text widths v.items cycles → Answers {X = Stimulus} {A = List (List WordValue)} (λ s. s.cycles) result cycles)
    → IfFault result (IsUnreadable (trace.IsStimulus widths) T1 v.items) → Drives widths (Some v) result
drives_whole widths v (Ok s) short is only unread = λ bytes whole. rw (← whole.0) (record { within = short; printed = is }, λ cycles other. only cycles other.printed)
drives_whole widths v (Err (stop.Fault fault)) short is only unread = λ bytes whole. rw (← whole.0) (inr (short, unread))
drives_whole widths v (Err stop.OutOfMemory) short is only unread = tt
