-- What the grammar's productions are made of.
use Rattle.std.specs.Prelude.{◌≡◌, ◌⊎◌, ℕ, Bool, true, false, List, [], ◌∷◌, ◌++◌, Option, None, Some}
use Rattle.v_syntax.specs.declared.token.Ident.{Ident}
use Rattle.v_syntax.specs.declared.token.Token.{Token}
use Rattle.v_syntax.specs.declared.token.Lexeme.{Lexeme}
use Rattle.v_syntax.specs.declared.token.Lexeme.TheVariants as l
use Rattle.v_syntax.specs.declared.token.Keyword.{Keyword}
use Rattle.v_syntax.specs.declared.token.Mark.{Mark}
use Rattle.v_syntax.specs.declared.token.Mark.TheVariants as m
use Rattle.v_syntax.specs.Tokens.{HaveForms}

-- A production: the tokens at its beginning, the tokens behind it, and what it derives.
abbrev pub Rule : Type 0 → Type 1
Rule V = List Token → List Token → V → Type 0

infixl 10 ◌>>=◌
infixl 10 ◌>>◌
infixr 8 ◌<|>◌
-- one production, and behind it another, which may speak of what the first derives
abbrev pub ◌>>=◌ : {A B : Type 0} → Rule A → (A → Rule B) → Rule B
◌>>=◌ {A = A} P Q before after b = (between : List Token) × (a : A) × P before between a × Q a between after b

abbrev pub ◌>>◌ : {A B : Type 0} → Rule A → Rule B → Rule B
P >> Q = P >>= λ _. Q

-- either of two productions
abbrev pub ◌<|>◌ : {A : Type 0} → Rule A → Rule A → Rule A
(P <|> Q) before after a = P before after a ⊎ Q before after a

-- no token
abbrev pub yields : {A : Type 0} → A → Rule A
yields x before after a = (before ≡ after) × (a ≡ x)

-- one token, which derives its place
abbrev pub token : Lexeme → Rule ℕ
token x before after at = before ≡ record { lexeme = x; at = at } ∷ after

abbrev pub mark : Mark → Rule ℕ
mark x = token (l.Mark x)

abbrev pub word : Keyword → Rule ℕ
word x = token (l.Keyword x)

abbrev pub ident : Rule Ident
ident before after i = before ≡ record { lexeme = l.Identifier i.name; at = i.at } ∷ after

-- no token, but the place of the next one
abbrev pub here : Rule ℕ
here before after at = (before ≡ after) × ((x : Lexeme) × (more : List Token) × (before ≡ record { lexeme = x; at = at } ∷ more))

-- [ P ]
abbrev pub optional : {A : Type 0} → Rule A → Rule (Option A)
optional P = (P >>= λ a. yields (Some a)) <|> yields None

-- [ word ], which derives whether it stands there
abbrev pub flag : Keyword → Rule Bool
flag x = (word x >> yields true) <|> yields false

-- { P }
abbrev pub many : {A : Type 0} → Rule A → Rule (List A)
many P before after [] = before ≡ after
many P before after (a ∷ more) = (between : List Token) × P before between a × many P between after more

-- P { P }
abbrev pub several : {A : Type 0} → Rule A → Rule (List A)
several P = P >>= λ first. many P >>= λ others. yields (first ∷ others)

-- P { "," P }
abbrev pub listed : {A : Type 0} → Rule A → Rule (List A)
listed P = P >>= λ first. many (mark m.Comma >> P) >>= λ others. yields (first ∷ others)

-- all of the tokens are the production's
abbrev pub DerivesBy : {A : Type 0} → Rule A → List Token → A → Type 0
DerivesBy P tokens a = P tokens [] a

-- tokens of a production begin with these; the further ones have the forms of their kinds
pub record IsViableBy {A : Type 0} (P : Rule A) (tokens : List Token) : Type 0 where
  pub more : List Token
  pub forms : HaveForms more
  pub value : A
  pub derived : DerivesBy P (tokens ++ more) value
