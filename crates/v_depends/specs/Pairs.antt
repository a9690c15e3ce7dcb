-- What assigns say of dependence, by what was seen of them: which name depends directly on which, and what follows.
use Rattle.std.specs.Prelude.{ℕ, List, [], ◌∷◌, ◌++◌, map, filter, length, Bool}
use Rattle.std.specs.List.{list_any}
use Rattle.v_meaning.specs.ProcessRules.{Dependence, Written, depends_in, ident_names, is_blocking}
use Rattle.v_uses.specs.Seen.{AssignSeen, ProcessSeen}

-- the dependence that an assign makes
abbrev pub dependence_of : AssignSeen → Dependence
dependence_of a = record { name = a.target.name; on = ident_names a.reads }

abbrev pub dependences_of : List AssignSeen → List Dependence
dependences_of assigns = map dependence_of assigns

-- a name before each that it depends on directly
abbrev pub pairs_with : List ℕ → List (List ℕ) → List (List ℕ × List ℕ)
pairs_with name [] = []
pairs_with name (on ∷ more) = (name, on) ∷ pairs_with name more

abbrev pub pairs_of : List Dependence → List (List ℕ × List ℕ)
pairs_of [] = []
pairs_of (d ∷ ds) = pairs_with d.name d.on ++ pairs_of ds

-- whether a name depends on another, in any number of steps
abbrev pub depends_by : List Dependence → List ℕ → List ℕ → Bool
depends_by ds name on = depends_in (length ds) ds name on

-- whether a name depends on itself
abbrev pub is_circular_by : List Dependence → List ℕ → Bool
is_circular_by ds name = depends_by ds name name

-- whether a name depends on one of several
abbrev pub follows : List Dependence → List (List ℕ) → List ℕ → Bool
follows ds ons name = list_any (depends_by ds name) ons

-- the targets of blocking assignments
abbrev pub blocking_in : List Written → List (List ℕ)
blocking_in writes = map (λ (x : Written). x.name.name) (filter (λ (x : Written). is_blocking x.kind) writes)

abbrev pub blocking_of : ProcessSeen → List (List ℕ)
blocking_of p = blocking_in p.writes
