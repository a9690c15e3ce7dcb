-- Which nets names are, and which of them an expression reads (1364-2005, 4.2 and 6.1).
use Rattle.std.specs.Prelude.{ℕ, List, [], ◌∷◌, ◌++◌}
use Rattle.v_syntax.specs.declared.token.Ident.{Ident}
use Rattle.v_syntax.specs.declared.expr.Expr.{Expr}
use Rattle.v_syntax.specs.declared.stmt.Stmt.{Stmt}
use Rattle.v_meaning.specs.declared.names.Kind.{Kind}
use Rattle.v_meaning.specs.declared.names.Kind.TheVariants.{Net, Combinational}
use Rattle.v_meaning.specs.declared.names.Entry.{Entry}
use Rattle.v_meaning.specs.Names.{entry_of}
use Rattle.v_meaning.specs.Uses.{reads_of, use_of}
use Rattle.v_meaning.specs.ProcessRules.{reads_in}

-- the net that a kind of name is, if it is one; a combinational variable settles as nets do
abbrev pub nets_of_kind : Kind → List ℕ
nets_of_kind (Net n) = n ∷ []
nets_of_kind (Combinational n) = n ∷ []
nets_of_kind _ = []

-- the nets among names
abbrev pub nets_among : List Entry → List Ident → List ℕ
nets_among names [] = []
nets_among names (n ∷ ns) = nets_of_kind (entry_of names n.name).kind ++ nets_among names ns

-- the nets among the names that an expression reads
abbrev pub nets_read : List Entry → Expr → List ℕ
nets_read names x = nets_among names (reads_in (reads_of names x))

-- the nets among those that a statement reads
abbrev pub nets_read_by : List Entry → Stmt → List ℕ
nets_read_by names x = nets_among names (reads_in (use_of names x).all)
