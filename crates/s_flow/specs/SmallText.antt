-- The bytes of small modules.
use Rattle.std.specs.Prelude.{◌≡◌, ℕ, List, None}
use Rattle.v_syntax.specs.declared.module.Module.{Module}
use Rattle.v_syntax.specs.declared.token.Token.{Token}
use Rattle.v_syntax.specs.declared.small.SmallModule.{SmallModule}
use Rattle.v_syntax.specs.ModuleGrammar.{Derives}
use Rattle.v_syntax.specs.Tokens.{Lexes}
use Rattle.v_syntax.specs.Small.{IsSmall}
use Rattle.s_flow.specs.FirstBroken.{first_broken}

-- The tokens derive a module that breaks no rule, and they are those of this small one.
pub record IsSmallFrom (tokens : List Token) (s : SmallModule) : Type 0 where
  pub module_ : Module
  pub derived : Derives tokens module_
  pub kept : first_broken module_ ≡ None
  pub small : IsSmall tokens s

-- The bytes are a text of this small module.
pub record IsSmallText (bytes : List ℕ) (s : SmallModule) : Type 0 where
  pub tokens : List Token
  pub lexed : Lexes bytes tokens
  pub from : IsSmallFrom tokens s
