-- What source files are, and what they are refused for.
use Rattle.std.specs.Prelude.{◌≡◌, ◌⊎◌, ℕ, ◌<◌, ◌≤◌, List, length, None, Some}
use Rattle.lz_base.specs.Limits.{source_limit}
use Rattle.lz_base.specs.declared.fault.Fault.{Fault}
use Rattle.lz_base.specs.declared.rule.Rule.TheVariants.{E1, E2}
use Rattle.v_syntax.specs.declared.module.Module.{Module}
use Rattle.v_syntax.specs.declared.token.Token.{Token}
use Rattle.v_syntax.specs.ModuleGrammar.{Derives}
use Rattle.v_syntax.specs.Tokens.{Lexes, BreaksAt}
use Rattle.v_parser.specs.Refusal as parser
use Rattle.s_flow.specs.FirstBroken.{first_broken}
use Rattle.s_flow.specs.Front.{IsBroken}
use Rattle.s_cli.specs.declared.status.Status.{Status}
use Rattle.s_cli.specs.declared.status.Status.TheVariants as status
use Rattle.s_cli.specs.Status.{IsUnlessMemory, IsRefusedUnlessMemory}

-- the bytes are a text of this module, which breaks no rule
pub record IsSource (bytes : List ℕ) (m : Module) : Type 0 where
  pub tokens : List Token
  pub within : length bytes ≤ source_limit
  pub lexed : Lexes bytes tokens
  pub derived : Derives tokens m
  pub kept : first_broken m ≡ None

-- the source is too long
pub record IsTooLong (source : List ℕ) (fault : Fault) : Type 0 where
  pub longer : source_limit < length source
  pub fault_is : fault ≡ record { rule = E1; at = source_limit }

-- The source is too long, or this is the first rule that it breaks of E2 to E13, U1 for a combinational process, P1 to P10
-- and W1.
abbrev pub IsSourceBroken : List ℕ → Fault → Type 0
IsSourceBroken source fault = IsTooLong source fault ⊎ ((length source ≤ source_limit) × IsBroken source fault)

-- What the status is where the source breaks a rule, each unless memory was wanting: the first one that it breaks.
pub record IsSourceJudged (source : List ℕ) (result : Status) : Type 0 where
  pub too_long : source_limit < length source → IsUnlessMemory result (status.Refused (record { rule = E1; at = source_limit }))
  pub unlexed : (at : ℕ) → length source ≤ source_limit → BreaksAt source at → IsUnlessMemory result (status.Refused (record { rule = E2; at = at }))
  pub unparsed : (tokens : List Token) → length source ≤ source_limit → Lexes source tokens → ((m : Module) → Derives tokens m → ⊥)
      → IsRefusedUnlessMemory result (parser.IsRefused tokens (length source))
  pub broken : (tokens : List Token) (m : Module) (fault : Fault) → length source ≤ source_limit → Lexes source tokens → Derives tokens m → first_broken m ≡ Some fault
      → IsUnlessMemory result (status.Refused fault)
