-- What the front end accepts can run.
use Rattle.std.proofs.Common.{◌≡◌, ℕ, List, None, Some, Result, Ok, Err, inr}
use Rattle.std.specs.Prelude.{IfOk}
use Rattle.lz_base.specs.Answers.{IfFault}
use Rattle.lz_base.specs.declared.fault.Stop.{Stop}
use Rattle.lz_base.specs.declared.fault.Stop.TheVariants as stop
use Rattle.v_syntax.specs.declared.module.Module.{Module}
use Rattle.v_syntax.specs.declared.token.Token.{Token}
use Rattle.v_syntax.specs.ModuleGrammar.{Derives}
use Rattle.v_syntax.specs.Tokens.{AreTokens}
use Rattle.v_meaning.specs.Declarations.{names_of}
use Rattle.v_meaning.specs.Modules.{design_of}
use Rattle.v_core.specs.declared.modules.Core.{Core}
use Rattle.v_core.specs.Cores.{design_in}
use Rattle.v_order.specs.Settling.{Settles}
use Rattle.v_machine.specs.Runnable.{CanRun, KeepsWords}
use Rattle.s_flow.specs.FirstBroken.{first_broken, mistyped, misused}
use Rattle.s_flow.specs.Running.{IfSpelled, IsReadyFrom}
use Rattle.s_flow.specs.declared.readying.Prepared.{Prepared}
use Rattle.s_flow.proofs.FirstBroken.{IsClocked, kept_parts}

-- what the law of accepted modules says
abbrev pub Law : Type 0
Law = (m : Module) (c : Core) (order : List ℕ) → mistyped m ≡ None → misused m ≡ None → IsClocked m → c.names ≡ names_of m
    → design_in c ≡ design_of m → Settles (design_of m) order → KeepsWords c → CanRun c order

-- A typed form of a module that breaks no rule can run in an order in which its nets settle, where it has the module's names
-- and design and keeps to its words.
pub front_runs : (m : Module) (c : Core) (order : List ℕ) → Law → first_broken m ≡ None → c.names ≡ names_of m → design_in c ≡ design_of m
    → Settles (design_of m) order → KeepsWords c → CanRun c order
front_runs m c order law kept names design settles keeps =
    let parts = kept_parts m kept in
    law m c order parts.0 parts.1 parts.2 names design settles keeps

-- what is ready to run of the tokens of a file, by what is of the module that they derive
pub ready_from : (tokens : List Token) (end : ℕ) (m : Module) (result : Result Prepared Stop) → AreTokens 0 end tokens → Derives tokens m
    → IfOk result (λ r. (first_broken m ≡ None) × (design_in r.core ≡ design_of m)) → IfOk result (λ r. IfSpelled m (CanRun r.core r.order.items)) → IfFault result (λ fault. first_broken m ≡ Some fault)
    → IsReadyFrom tokens end result
ready_from tokens end m (Ok r) are derived accepted runs refused =
    record { typed = record { module_ = m; derived = derived; kept = accepted.0; design = accepted.1 }; runs = runs 0 end tokens are derived }
ready_from tokens end m (Err (stop.Fault fault)) are derived accepted runs refused = inr (record { module_ = m; derived = derived; broken = refused })
ready_from tokens end m (Err stop.OutOfMemory) are derived accepted runs refused = tt
