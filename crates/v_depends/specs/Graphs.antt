-- Names that have numbers, and the edges between numbers.
use Rattle.std.specs.Prelude.{◌≡◌, ℕ, suc, List, [], ◌∷◌, ◌++◌, length, Bool, false, true, if◌then◌else◌, is_some, Option, None, Some, slice_index_or, bytes_eq}
use Rattle.std.specs.Borrow.{Bor}
use Rattle.std.specs.Ordering.{nat_cmp}
use Rattle.std.specs.Cmp.Lexicographic.{slice_cmp}
use Rattle.std.specs.BTreeMap.{BTreeMap, get, btree_map_len}
use Rattle.std.specs.List.{AllZip}
use Rattle.lz_base.specs.Names.{is_among}
use Rattle.v_meaning.specs.ProcessRules.{Dependence}
use Rattle.v_depends.specs.declared.graph.Graph.{Graph}
use Rattle.v_depends.specs.Pairs.{is_circular_by, follows}

abbrev pub later : Option ℕ → Option ℕ
later None = None
later (Some n) = Some (suc n)

-- the number of a name, which is its place among the names
abbrev pub place : List (List ℕ) → List ℕ → Option ℕ
place [] name = None
place (other ∷ names) name = if bytes_eq other name then Some 0 else later (place names name)

-- a name behind those that have numbers, if it has none
abbrev pub name_added : List (List ℕ) → List ℕ → List (List ℕ)
name_added names name = if is_some (place names name) then names else names ++ name ∷ []

-- a map from each name to its number
pub record Numbers (numbers : BTreeMap (Bor (List ℕ)) ℕ) (names : List (List ℕ)) : Type 0 where
  pub found : (q : Bor (List ℕ)) → get (λ x y. slice_cmp nat_cmp x.now y.now) numbers q ≡ place names q.now
  pub count : btree_map_len numbers ≡ length names

-- an edge leads between the numbers of two names
abbrev pub IsEdge : List (List ℕ) → List ℕ × List ℕ → ℕ × ℕ → Type 0
IsEdge names pair edge = (place names pair.0 ≡ Some edge.0) × (place names pair.1 ≡ Some edge.1)

-- a graph has an edge for each pair of names
pub record IsGraph (graph : Graph) (names : List (List ℕ)) (pairs : List (List ℕ × List ℕ)) : Type 0 where
  pub numbered : Numbers graph.numbers names
  pub edged : AllZip (IsEdge names) pairs graph.edges.items

abbrev pub IsSomeGraph : Graph → List (List ℕ × List ℕ) → Type 0
IsSomeGraph graph pairs = (names : List (List ℕ)) × IsGraph graph names pairs

-- whether the node of a number is marked, if there is one
abbrev pub at_place : List Bool → Option ℕ → Bool
at_place marks None = false
at_place marks (Some n) = slice_index_or marks n false

abbrev pub marked_name : List (List ℕ) → List Bool → List ℕ → Bool
marked_name names marks name = at_place marks (place names name)

-- of the names that have numbers, these are marked
pub record AreMarked (names : List (List ℕ)) (marks : List Bool) (ons : List (List ℕ)) : Type 0 where
  pub long : length marks ≡ length names
  pub each : (name : List ℕ) → is_some (place names name) ≡ true → marked_name names marks name ≡ is_among name ons

-- the marked names are those that depend on one of these
abbrev pub Followers : List (List ℕ) → List Dependence → List (List ℕ) → List Bool → Type 0
Followers names ds ons marks = (name : List ℕ) → marked_name names marks name ≡ follows ds ons name

-- each name that depends on itself is marked
abbrev pub Suspected : List (List ℕ) → List Dependence → List Bool → Type 0
Suspected names ds marks = (name : List ℕ) → is_circular_by ds name ≡ true → marked_name names marks name ≡ true
