-- What a refusal of a token list says.
use Rattle.std.specs.Prelude.{◌≡◌, ℕ, List, [], ◌∷◌, ◌++◌}
use Rattle.lz_base.specs.declared.fault.Fault.{Fault}
use Rattle.lz_base.specs.declared.rule.Rule.TheVariants.{E3}
use Rattle.v_syntax.specs.declared.token.Token.{Token}
use Rattle.v_syntax.specs.Rule.{Rule, DerivesBy, IsViableBy}
use Rattle.v_syntax.specs.ModuleGrammar.{IsModule}

-- the place of the first of these tokens, or the file's end, which counts as a token
abbrev pub first_place : List Token → ℕ → ℕ
first_place [] end = end
first_place (t ∷ tokens) end = t.at

-- No tokens of the production begin with those before and the first of the rest. Where that is the end, those before are no
-- tokens of the production.
abbrev pub IsDead : {A : Type 0} → Rule A → List Token → List Token → Type 0
IsDead {A = A} P before [] = (a : A) → DerivesBy P before a → ⊥
IsDead P before (t ∷ tokens) = IsViableBy P (before ++ t ∷ []) → ⊥

-- The rule E3: the tokens up to a place, and with them the token there, begin no tokens of the production, whatever follows.
pub record IsRefusedBy {A : Type 0} (P : Rule A) (tokens : List Token) (end : ℕ) (fault : Fault) : Type 0 where
  pub rule : fault.rule ≡ E3
  pub before : List Token
  pub rest : List Token
  pub split : tokens ≡ before ++ rest
  pub place : fault.at ≡ first_place rest end
  pub dead : IsDead P before rest
  pub none : (a : A) → DerivesBy P tokens a → ⊥

-- the tokens of a file that ends there are refused as those of a module
abbrev pub IsRefused : List Token → ℕ → Fault → Type 0
IsRefused = IsRefusedBy IsModule
