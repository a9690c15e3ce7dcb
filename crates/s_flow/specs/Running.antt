-- What the front end answers of a source that is to be run.
use Rattle.std.specs.Prelude.{ℕ, List, length, Result, Ok, Err, ⊤}
use Rattle.lz_base.specs.declared.fault.Stop.{Stop}
use Rattle.lz_base.specs.declared.fault.Stop.TheVariants as stop
use Rattle.v_syntax.specs.declared.module.Module.{Module}
use Rattle.v_syntax.specs.declared.token.Token.{Token}
use Rattle.v_syntax.specs.ModuleGrammar.{Derives}
use Rattle.v_syntax.specs.Tokens.{AreTokens}
use Rattle.v_machine.specs.Runnable.{CanRun}
use Rattle.s_flow.specs.declared.readying.Prepared.{Prepared}
use Rattle.s_flow.specs.Front.{IsBroken, IsMisread, IsTyped, OfTokens}

-- this holds where some tokens at ascending places derive the module, as those of each file do
abbrev pub IfSpelled : Module → Type 0 → Type 0
IfSpelled m P = (from end_ : ℕ) (tokens : List Token) → AreTokens from end_ tokens → Derives tokens m → P

-- The tokens derive a module that breaks no rule; the typed form has its design, and a machine can be made of it and of the
-- order.
pub record IsReady (tokens : List Token) (r : Prepared) : Type 0 where
  pub typed : IsTyped tokens r.core
  pub runs : CanRun r.core r.order.items

-- what is ready to run of the tokens of a file that ends there, or the fault for which they are refused
abbrev pub IsReadyFrom : List Token → ℕ → Result Prepared Stop → Type 0
IsReadyFrom tokens end_ (Ok r) = IsReady tokens r
IsReadyFrom tokens end_ (Err (stop.Fault fault)) = IsMisread tokens end_ fault
IsReadyFrom tokens end_ (Err stop.OutOfMemory) = ⊤

-- what is ready to run of the bytes, or the fault for which they are refused: that of `front`
abbrev pub IsRunnable : List ℕ → Result Prepared Stop → Type 0
IsRunnable bytes (Ok r) = OfTokens bytes (λ tokens. IsReady tokens r)
IsRunnable bytes (Err (stop.Fault fault)) = IsBroken bytes fault
IsRunnable bytes (Err stop.OutOfMemory) = ⊤
