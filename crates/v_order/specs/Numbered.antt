-- How the declared names of a module are numbered.
use Rattle.std.specs.Prelude.{◌≡◌, ⊤, List, [], ◌∷◌, ◌++◌}
use Rattle.v_meaning.specs.declared.names.Kind.{Kind}
use Rattle.v_meaning.specs.declared.names.Kind.TheVariants.{Parameter, Clock, Input, Net, Combinational, Variable, Memory}
use Rattle.v_meaning.specs.declared.names.Entry.{Entry}
use Rattle.v_meaning.specs.Declarations.{is_input, is_settled, is_variable, is_memory, count_of}

-- The number of an input, of a variable or of a memory is how many of these are declared before it; nets and combinational
-- variables are counted together.
abbrev pub IsNext : List Entry → Kind → Type 0
IsNext before (Parameter value) = ⊤
IsNext before Clock = ⊤
IsNext before (Input n) = n ≡ count_of is_input before
IsNext before (Net n) = n ≡ count_of is_settled before
IsNext before (Combinational n) = n ≡ count_of is_settled before
IsNext before (Variable n) = n ≡ count_of is_variable before
IsNext before (Memory n low count) = n ≡ count_of is_memory before

-- so each name has its number, behind those before it
abbrev pub AreNumbered : List Entry → List Entry → Type 0
AreNumbered before [] = ⊤
AreNumbered before (e ∷ names) = IsNext before e.kind × AreNumbered (before ++ e ∷ []) names
