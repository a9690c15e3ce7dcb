-- What the front end answers.
use Rattle.std.specs.Prelude.{◌≡◌, ◌⊎◌, ℕ, List, length, None, Some, Result, Ok, Err, ⊤}
use Rattle.lz_base.specs.declared.fault.Stop.{Stop}
use Rattle.lz_base.specs.declared.fault.Stop.TheVariants as stop
use Rattle.lz_base.specs.declared.fault.Fault.{Fault}
use Rattle.lz_base.specs.declared.rule.Rule.TheVariants.{E2, U1}
use Rattle.v_syntax.specs.declared.module.Module.{Module}
use Rattle.v_syntax.specs.declared.token.Token.{Token}
use Rattle.v_syntax.specs.declared.small.SmallModule.{SmallModule}
use Rattle.v_syntax.specs.ModuleGrammar.{Derives}
use Rattle.v_syntax.specs.Small.{IsSmall}
use Rattle.v_syntax.specs.Tokens.{Lexes, BreaksAt}
use Rattle.v_parser.specs.Refusal.{IsRefused}
use Rattle.v_meaning.specs.Modules.{design_of}
use Rattle.v_core.specs.declared.modules.Core.{Core}
use Rattle.v_core.specs.Cores.{design_in}
use Rattle.s_flow.specs.FirstBroken.{first_broken}
use Rattle.s_flow.specs.SmallText.{IsSmallFrom, IsSmallText}

-- The bytes have tokens, of which this holds.
pub record OfTokens (bytes : List ℕ) (P : List Token → Type 0) : Type 0 where
  pub tokens : List Token
  pub lexed : Lexes bytes tokens
  pub holds : P tokens

-- ---- refusals

-- E2: at this byte begins neither white space, a comment, a skipped line nor a token.
pub record IsUnlexed (bytes : List ℕ) (fault : Fault) : Type 0 where
  pub breaks : BreaksAt bytes fault.at
  pub rule_is : fault.rule ≡ E2

-- The tokens derive a module, and this is the first rule that it breaks, at its least place: of E4 to E13, U1 for a
-- combinational process, P1 to P10, and W1.
pub record IsRuledOut (tokens : List Token) (fault : Fault) : Type 0 where
  pub module_ : Module
  pub derived : Derives tokens module_
  pub broken : first_broken module_ ≡ Some fault

-- The fault of the tokens of a file that ends there. It is E3 where they derive no module.
abbrev pub IsMisread : List Token → ℕ → Fault → Type 0
IsMisread tokens end_ fault = IsRefused tokens end_ fault ⊎ IsRuledOut tokens fault

-- the first rule that the bytes break, behind the limit on their number
abbrev pub IsBroken : List ℕ → Fault → Type 0
IsBroken bytes fault = IsUnlexed bytes fault ⊎ OfTokens bytes (λ tokens. IsMisread tokens (length bytes) fault)

-- U1: the tokens derive a module that breaks no rule, and they are those of no small one.
pub record IsNotSmall (tokens : List Token) (fault : Fault) : Type 0 where
  pub module_ : Module
  pub derived : Derives tokens module_
  pub kept : first_broken module_ ≡ None
  pub none : (s : SmallModule) → IsSmall tokens s → ⊥
  pub fault_is : fault ≡ record { rule = U1; at = 0 }

-- the first rule that the bytes break, or else that they are a text of no small module
abbrev pub IsUnmade : List ℕ → Fault → Type 0
IsUnmade bytes fault = IsBroken bytes fault ⊎ OfTokens bytes (λ tokens. IsNotSmall tokens fault)

-- ---- answers

-- The tokens derive a module that breaks no rule, and the typed form has its design.
pub record IsTyped (tokens : List Token) (core : Core) : Type 0 where
  pub module_ : Module
  pub derived : Derives tokens module_
  pub kept : first_broken module_ ≡ None
  pub design : design_in core ≡ design_of module_

-- the typed form of the tokens of a file that ends there, or the fault for which they are refused
abbrev pub IsTypedFrom : List Token → ℕ → Result Core Stop → Type 0
IsTypedFrom tokens end_ (Ok core) = IsTyped tokens core
IsTypedFrom tokens end_ (Err (stop.Fault fault)) = IsMisread tokens end_ fault
IsTypedFrom tokens end_ (Err stop.OutOfMemory) = ⊤

-- the typed form of the bytes, or the fault for which they are refused
abbrev pub IsFront : List ℕ → Result Core Stop → Type 0
IsFront bytes (Ok core) = OfTokens bytes (λ tokens. IsTyped tokens core)
IsFront bytes (Err (stop.Fault fault)) = IsBroken bytes fault
IsFront bytes (Err stop.OutOfMemory) = ⊤

-- the same of small modules

abbrev pub IsReadFrom : List Token → ℕ → Result SmallModule Stop → Type 0
IsReadFrom tokens end_ (Ok s) = IsSmallFrom tokens s
IsReadFrom tokens end_ (Err (stop.Fault fault)) = IsMisread tokens end_ fault ⊎ IsNotSmall tokens fault
IsReadFrom tokens end_ (Err stop.OutOfMemory) = ⊤

abbrev pub IsRead : List ℕ → Result SmallModule Stop → Type 0
IsRead bytes (Ok s) = IsSmallText bytes s
IsRead bytes (Err (stop.Fault fault)) = IsUnmade bytes fault
IsRead bytes (Err stop.OutOfMemory) = ⊤
