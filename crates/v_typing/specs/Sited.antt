-- When the sites of an open expression have no more bits than are read there: where as many bits are read at the numbers and
-- selects of the source as are open.
use Rattle.std.specs.Prelude.{◌≡◌, ℕ, List, true, All, slice_index}
use Rattle.v_syntax.specs.declared.expr.Expr.{Expr}
use Rattle.v_syntax.specs.declared.expr.BinaryOperator.{BinaryOperator}
use Rattle.v_meaning.specs.declared.names.Entry.{Entry}
use Rattle.v_meaning.specs.Expressions.{number_of_place}
use Rattle.v_meaning.specs.Sites.{Site}
use Rattle.v_places.specs.Openings.{openings_of}
use Rattle.v_core.specs.declared.open.Open.{Open}
use Rattle.v_core.specs.Sited.{is_sited_body}

-- at each of these openings as many bits are read as are open: by how many bits each site has, and by the places of the sites
abbrev pub AreRead : List ℕ → List ℕ → List Site → Type 0
AreRead widths places openings = All (λ (s : Site). slice_index widths (number_of_place places s.at) ≡ s.width) openings

-- at those of an expression over the declared names, of several, and of the operands of a chain
abbrev pub IsRead : List ℕ → List ℕ → List Entry → Expr → Type 0
IsRead widths places names x = AreRead widths places (openings_of names x)

abbrev pub AllRead : List ℕ → List ℕ → List Entry → List Expr → Type 0
AllRead widths places names xs = All (IsRead widths places names) xs

abbrev pub LinksRead : List ℕ → List ℕ → List Entry → List (BinaryOperator × Expr) → Type 0
LinksRead widths places names links = All (λ (link : BinaryOperator × Expr). IsRead widths places names link.1) links

-- the sites of an open expression have no more bits than are read there
abbrev pub OpenSited : Open → List Entry → List ℕ → Type 0
OpenSited o names widths = is_sited_body o.body names widths ≡ true
