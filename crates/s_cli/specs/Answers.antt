-- What the top call answers to each form of words, by what stands in the named files.
use Rattle.std.specs.Prelude.{◌≡◌, ℕ, List, [], ◌∷◌, Option, None, Some, Result, Ok, Err, ⊤}
use Rattle.lz_base.specs.Outside.{Told}
use Rattle.lz_base.specs.declared.fault.Fault.{Fault}
use Rattle.lz_base.specs.declared.fault.Stop.{Stop}
use Rattle.lz_base.specs.declared.fault.Stop.TheVariants as stop
use Rattle.s_cli.specs.declared.answering.Output.{Output}
use Rattle.s_cli.specs.declared.forms.Command.{Command}
use Rattle.s_cli.specs.declared.forms.Command.TheVariants as command
use Rattle.s_cli.specs.declared.status.Status.{Status}
use Rattle.s_cli.specs.declared.status.Status.TheVariants as status
use Rattle.s_cli.specs.Mapping.{Answering, IsMappedBy, IsMappedWith, IsNetworkFault, IsNetworkJudged}
use Rattle.s_cli.specs.Simulation.{ShowsRun, ShowsStreams, IsSimulation, IsUnsimulated, AreJudged, IsNetlistFault}
use Rattle.s_cli.specs.SourceRun.{IsSourceRun, IsUnrun, AreRunJudged, by_schedules, in_text_order}
use Rattle.s_cli.specs.Synthesis.{IsTranslation, IsSourceFault, IsJudged}
use Rattle.s_cli.specs.Texts.{AreUnder}
use Rattle.s_cli.specs.Upgrade.{IsUpgrade, IsOldJudged}
use Rattle.n_cells.specs.declared.format.Format.TheVariants.{One}

-- what holds of the bytes under some names, where bytes are told
abbrev pub IfTold : Told → List (List ℕ) → (List (List ℕ) → Type 0) → Type 0
IfTold told names P = (contents : List (List ℕ)) → AreUnder told names contents → P contents

-- a fact of one file, of two, of three, and of four
abbrev pub OfOne : List (List ℕ) → (List ℕ → Type 0) → Type 0
OfOne [] P = ⊤
OfOne (a ∷ []) P = P a
OfOne (a ∷ b ∷ more) P = ⊤

abbrev pub OfTwo : List (List ℕ) → (List ℕ → List ℕ → Type 0) → Type 0
OfTwo [] P = ⊤
OfTwo (a ∷ []) P = ⊤
OfTwo (a ∷ b ∷ []) P = P a b
OfTwo (a ∷ b ∷ c ∷ more) P = ⊤

abbrev pub OfThree : List (List ℕ) → (List ℕ → List ℕ → List ℕ → Type 0) → Type 0
OfThree [] P = ⊤
OfThree (a ∷ []) P = ⊤
OfThree (a ∷ b ∷ []) P = ⊤
OfThree (a ∷ b ∷ c ∷ []) P = P a b c
OfThree (a ∷ b ∷ c ∷ d ∷ more) P = ⊤

abbrev pub OfFour : List (List ℕ) → (List ℕ → List ℕ → List ℕ → List ℕ → Type 0) → Type 0
OfFour [] P = ⊤
OfFour (a ∷ []) P = ⊤
OfFour (a ∷ b ∷ []) P = ⊤
OfFour (a ∷ b ∷ c ∷ []) P = ⊤
OfFour (a ∷ b ∷ c ∷ d ∷ []) P = P a b c d
OfFour (a ∷ b ∷ c ∷ d ∷ e ∷ more) P = ⊤

-- what holds of an output with which nothing is noted
abbrev pub Unnoted : List ℕ → Type 0 → Type 0
Unnoted note P = (note ≡ []) × P

-- The output text of a form, and what is noted of what was proposed. `may_answer` says what the mapper may answer.
abbrev pub IsOutputBy : Command → Answering → List (List ℕ) → List ℕ → List ℕ → Type 0
IsOutputBy command.Synth may_answer files output note = Unnoted note (OfOne files (λ source. IsTranslation source output))
IsOutputBy command.Map may_answer files output note = OfOne files (λ network. IsMappedBy may_answer network output note)
IsOutputBy command.MapFile may_answer files output note = OfTwo files (λ network proposal. IsMappedWith network proposal output note)
IsOutputBy command.Simv may_answer files output note = Unnoted note (OfThree files (λ source stimulus choices. IsSourceRun in_text_order source stimulus choices output))
IsOutputBy command.SimvBy may_answer files output note = Unnoted note (OfFour files (λ source stimulus choices schedules. IsSourceRun (by_schedules schedules) source stimulus choices output))
IsOutputBy command.Simn may_answer files output note = Unnoted note (OfTwo files (λ netlist stimulus. IsSimulation ShowsRun netlist stimulus output))
IsOutputBy (command.Lanes count) may_answer files output note = Unnoted note (OfTwo files (λ netlist stimulus. IsSimulation (ShowsStreams count) netlist stimulus output))
IsOutputBy command.Upgrade may_answer files output note = Unnoted note (OfOne files (λ old. IsUpgrade old output))

-- a form is refused with this fault
abbrev pub IsRefusalBy : Command → List (List ℕ) → Fault → Type 0
IsRefusalBy command.Synth files fault = OfOne files (λ source. IsSourceFault source fault)
IsRefusalBy command.Map files fault = OfOne files (λ network. IsNetworkFault network fault)
IsRefusalBy command.MapFile files fault = OfTwo files (λ network _. IsNetworkFault network fault)
IsRefusalBy command.Simv files fault = OfThree files (λ source stimulus choices. IsUnrun in_text_order source stimulus choices fault)
IsRefusalBy command.SimvBy files fault = OfFour files (λ source stimulus choices schedules. IsUnrun (by_schedules schedules) source stimulus choices fault)
IsRefusalBy command.Simn files fault = OfTwo files (λ netlist stimulus. IsUnsimulated netlist stimulus fault)
IsRefusalBy (command.Lanes count) files fault = OfTwo files (λ netlist stimulus. IsUnsimulated netlist stimulus fault)
IsRefusalBy command.Upgrade files fault = OfOne files (λ old. IsNetlistFault One old fault)

-- the status is the one that the files call for, unless memory was wanting
abbrev pub IsJudgedBy : Command → List (List ℕ) → Status → Type 0
IsJudgedBy command.Synth files result = OfOne files (λ source. IsJudged source result)
IsJudgedBy command.Map files result = OfOne files (λ network. IsNetworkJudged network result)
IsJudgedBy command.MapFile files result = OfTwo files (λ network _. IsNetworkJudged network result)
IsJudgedBy command.Simv files result = OfThree files (λ source stimulus choices. AreRunJudged in_text_order source stimulus choices result)
IsJudgedBy command.SimvBy files result = OfFour files (λ source stimulus choices schedules. AreRunJudged (by_schedules schedules) source stimulus choices result)
IsJudgedBy command.Simn files result = OfTwo files (λ netlist stimulus. AreJudged netlist stimulus result)
IsJudgedBy (command.Lanes count) files result = OfTwo files (λ netlist stimulus. AreJudged netlist stimulus result)
IsJudgedBy command.Upgrade files result = OfOne files (λ old. IsOldJudged old result)

-- the same of words, which may be of no form

abbrev pub IsOutput : Option Command → Answering → List (List ℕ) → List ℕ → List ℕ → Type 0
IsOutput None may_answer files output note = ⊥
IsOutput (Some c) may_answer files output note = IsOutputBy c may_answer files output note

abbrev pub IsRefusal : Option Command → List (List ℕ) → Fault → Type 0
IsRefusal None files fault = ⊥
IsRefusal (Some c) files fault = IsRefusalBy c files fault

abbrev pub IsCalledFor : Option Command → List (List ℕ) → Status → Type 0
IsCalledFor None files result = ⊤
IsCalledFor (Some c) files result = IsJudgedBy c files result

-- this holds of an output of a form, and of its note, where bytes are told
abbrev pub ForOutput : Option Command → Answering → Told → List (List ℕ) → (List ℕ → List ℕ → Type 0) → Type 0
ForOutput c may_answer told names P = (output : List ℕ) × (note : List ℕ) × IfTold told names (λ contents. IsOutput c may_answer contents output note) × P output note

-- the fault for which a file is refused, and that it is the one called for
abbrev pub Stops : Command → List (List ℕ) → Stop → Type 0
Stops c files (stop.Fault fault) = IsRefusalBy c files fault × IsJudgedBy c files (status.Refused fault)
Stops c files stop.OutOfMemory = ⊤

-- what is answered is right, and is called for; or what stops
abbrev pub Decides : {X : Type 0} → (X → Type 0) → Command → List (List ℕ) → Result X Stop → Type 0
Decides IsRight c files (Ok x) = IsRight x × IsJudgedBy c files status.Ok
Decides IsRight c files (Err e) = Stops c files e

-- the output of a form with its note, or what stops
abbrev pub Answers : Command → Answering → List (List ℕ) → Result Output Stop → Type 0
Answers c may_answer files result = Decides (λ (o : Output). IsOutputBy c may_answer files o.text.items o.note.items) c files result
