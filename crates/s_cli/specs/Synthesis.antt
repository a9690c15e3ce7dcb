-- What the synthesis of a source answers.
use Rattle.std.specs.Prelude.{◌≡◌, ◌⊎◌, ℕ, ◌≤◌, List, length, None}
use Rattle.lz_base.specs.Limits.{source_limit}
use Rattle.lz_base.specs.declared.fault.Fault.{Fault}
use Rattle.lz_base.specs.declared.rule.Rule.TheVariants.{U1}
use Rattle.lz_machine.specs.Machine.{Realises}
use Rattle.n_cells.specs.Netlist.{NetlistValue, IsWellFormed}
use Rattle.n_cells.specs.AsMachine.{netlist_machine}
use Rattle.n_cells.specs.Form.{HasForm}
use Rattle.n_cells.specs.Text.{text}
use Rattle.n_cells.specs.declared.format.Format.TheVariants.{Two}
use Rattle.v_syntax.specs.declared.small.SmallModule.{SmallModule}
use Rattle.v_syntax.specs.declared.module.Module.{Module}
use Rattle.v_syntax.specs.declared.token.Token.{Token}
use Rattle.v_syntax.specs.ModuleGrammar.{Derives}
use Rattle.v_syntax.specs.Tokens.{Lexes}
use Rattle.v_syntax.specs.Small.{IsSmall}
use Rattle.v_meaning.specs.SmallMachine.{module_machine, EverySchedule}
use Rattle.s_flow.specs.FirstBroken.{first_broken}
use Rattle.s_flow.specs.SmallText.{IsSmallText}
use Rattle.s_flow.specs.Front.{IsUnmade}
use Rattle.s_cli.specs.declared.status.Status.{Status}
use Rattle.s_cli.specs.declared.status.Status.TheVariants as status
use Rattle.s_cli.specs.Status.{IsUnlessMemory}
use Rattle.s_cli.specs.Sources.{IsSourceJudged, IsTooLong}

-- The output for a source: the text of a netlist that is well formed and realises the module of the source under every
-- schedule of its processes. It has the form that the reader of netlists asks for, so that the text is read back as this
-- netlist.
pub record IsTranslation (source output : List ℕ) : Type 0 where
  pub module_ : SmallModule
  pub netlist : NetlistValue
  pub within : length source ≤ source_limit
  pub spelled : IsSmallText source module_
  pub form : HasForm Two netlist
  pub formed : IsWellFormed netlist
  pub realised : Realises (module_machine EverySchedule module_) (netlist_machine netlist)
  pub printed : output ≡ text Two netlist

-- The source is refused with this fault: it is too long, or this is the first rule that it breaks; or it breaks none and is
-- a text of no small module, which is U1 too.
abbrev pub IsSourceFault : List ℕ → Fault → Type 0
IsSourceFault source fault = IsTooLong source fault ⊎ ((length source ≤ source_limit) × IsUnmade source fault)

-- What the status is where no call on the files and on the output failed, each unless memory was wanting: the first
-- rule that is broken, U1 for a module that breaks none and is no small one, and Ok for a small one that breaks none.
pub record IsJudged (source : List ℕ) (result : Status) : Type 0 where
  pub broken : IsSourceJudged source result
  pub unsupported : (tokens : List Token) (m : Module) → length source ≤ source_limit → Lexes source tokens → Derives tokens m → first_broken m ≡ None
      → ((s : SmallModule) → IsSmall tokens s → ⊥) → IsUnlessMemory result (status.Refused (record { rule = U1; at = 0 }))
  pub small : (s : SmallModule) → length source ≤ source_limit → IsSmallText source s → IsUnlessMemory result status.Ok
