-- The sources of modules.
use Rattle.std.specs.Prelude.{ℕ, List}
use Rattle.v_syntax.specs.declared.token.Token.{Token}
use Rattle.v_syntax.specs.declared.module.Module.{Module}
use Rattle.v_syntax.specs.Tokens.{Lexes}
use Rattle.v_syntax.specs.ModuleGrammar.{Derives}

-- the bytes are a source of this module: some tokens of theirs derive it
pub record IsSource (bytes : List ℕ) (module_ : Module) : Type 0 where
  pub tokens : List Token
  pub lexed : Lexes bytes tokens
  pub derived : Derives tokens module_
