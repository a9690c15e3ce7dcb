-- What a function of the code returned, against what a reader gives.
use Rattle.std.specs.Prelude.{◌≡◌, List, [], ◌∷◌, ◌++◌, Result, Ok, Err, ⊤}
use Rattle.v_syntax.specs.declared.token.Token.{Token}
use Rattle.v_parser.specs.declared.miss.Miss.{Miss}
use Rattle.v_parser.specs.declared.miss.Miss.TheVariants as miss

abbrev pub Fails : {A : Type 0} → Miss → Result A (List Token) → Type 0
Fails miss.OutOfMemory read = ⊤
Fails (miss.At tokens) read = read ≡ Err tokens.now

abbrev pub Gives : {A B : Type 0} → (A → B) → Result A Miss → Result B (List Token) → Type 0
Gives view (Ok x) read = read ≡ Ok (view x)
Gives view (Err e) read = Fails e read

-- A value beside what else was made.
abbrev pub beside_of : {A B E : Type 0} → A → Result B E → Result (A × B) E
beside_of a (Ok b) = Ok (a, b)
beside_of a (Err e) = Err e

-- A list, with what was read at its end.
abbrev pub Grown : {A C : Type 0} → List A → Result (A × C) Miss → Result (List A × C) Miss → Type 0
Grown list (Ok x) (Ok y) = y ≡ (list ++ x.0 ∷ [], x.1)
Grown list (Ok x) (Err e) = e ≡ miss.OutOfMemory
Grown list (Err e) result = result ≡ Err e
