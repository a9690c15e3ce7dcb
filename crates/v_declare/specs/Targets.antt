-- The names that a target writes.
use Rattle.std.specs.Prelude.{ℕ, List, map}
use Rattle.v_syntax.specs.declared.token.Ident.{Ident}
use Rattle.v_syntax.specs.declared.stmt.Target.{Target}
use Rattle.v_meaning.specs.Declarations.{idents_of}

abbrev pub written_names : Target → List (List ℕ)
written_names target = map (λ (n : Ident). n.name) (idents_of target)
