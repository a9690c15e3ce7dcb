-- The names of what was gathered, and the places of the rules of variables, process by process. No public clause names
-- them.
use Rattle.std.specs.Prelude.{◌≡◌, ℕ, List, [], ◌∷◌, ◌++◌, map, filter, Bool, true, false, not, ◌==◌, ◌&&◌, ◌||◌, if◌then◌else◌, Option, None, Some, bytes_eq}
use Rattle.std.specs.Borrow.{Bor}
use Rattle.std.specs.BTreeSet.{BTreeSet}
use Rattle.lz_base.specs.Met.{Met}
use Rattle.lz_base.specs.Names.{is_among}
use Rattle.v_syntax.specs.declared.token.Ident.{Ident}
use Rattle.v_syntax.specs.declared.stmt.AssignKind.{AssignKind}
use Rattle.v_syntax.specs.declared.stmt.AssignKind.TheVariants as a
use Rattle.v_syntax.specs.declared.module.Event.{Event}
use Rattle.v_syntax.specs.declared.module.Event.TheVariants as w
use Rattle.v_meaning.specs.declared.names.Entry.{Entry}
use Rattle.v_meaning.specs.Names.{entry_of}
use Rattle.v_meaning.specs.ProcessRules.{Written, is_blocking, is_any_input, is_other, places_if, ident_names}
use Rattle.v_uses.specs.Seen.{ProcessSeen}

-- ---- names

abbrev pub idents_in : List (Bor Ident) → List Ident
idents_in ns = map (λ (n : Bor Ident). n.now) ns

abbrev pub targets_in : List Written → List Ident
targets_in ws = map (λ (w : Written). w.name) ws

abbrev pub blocking_in : List Written → List Ident
blocking_in ws = targets_in (filter (λ (w : Written). is_blocking w.kind) ws)

-- the name in an event, if there is one
abbrev pub names_of_event : Event → List Ident
names_of_event (w.Posedge name) = name ∷ []
names_of_event w.Any = []

-- what a closure answers of a name is what this test says
abbrev pub Tests : (Bor Ident → Bool → Type 0) → (List ℕ → Bool) → Type 0
Tests post passes = (n : Bor Ident) (r : Bool) → post n r → r ≡ passes n.now.name

-- ---- P1

-- whether a name in one of these events is no input of width 1, or not that of the first
abbrev pub is_wrong_in : List Entry → List Ident → List ℕ → Bool
is_wrong_in names events name = not (is_any_input (entry_of names name).kind && (entry_of names name).width == 1) || is_other events name

-- ---- P3

abbrev pub written_by : ProcessSeen → List (List ℕ)
written_by p = ident_names (targets_in p.writes)

-- where a process writes names that were written before
abbrev pub again_at : List (List ℕ) → ProcessSeen → List ℕ
again_at before p = places_if (λ name. is_among name before) (targets_in p.writes)

abbrev pub again_from : List (List ℕ) → List ProcessSeen → List ℕ
again_from before [] = []
again_from before (p ∷ ps) = again_at before p ++ again_from (before ++ written_by p) ps

-- ---- P4

-- the kind of the first write of a name, if there is one
abbrev pub kind_among : List Written → List ℕ → Option AssignKind
kind_among [] name = None
kind_among (w ∷ ws) name = if bytes_eq w.name.name name then Some w.kind else kind_among ws name

abbrev pub kind_by : Bool → Bool → Option AssignKind
kind_by true nonblocking = Some a.Blocking
kind_by false true = Some a.Nonblocking
kind_by false false = None

-- These names have a first write that is blocking, and those one that is nonblocking.
pub record FirstKinds (blocking nonblocking : BTreeSet (Bor (List ℕ))) (before : List Written) : Type 0 where
  pub firsts : List (List ℕ)
  pub others : List (List ℕ)
  pub met_firsts : Met blocking firsts
  pub met_others : Met nonblocking others
  pub kinds : (name : List ℕ) → kind_among before name ≡ kind_by (is_among name firsts) (is_among name others)

-- ---- P5

abbrev pub blocking_by : ProcessSeen → List (List ℕ)
blocking_by p = ident_names (blocking_in p.writes)

-- the names that a process writes by blocking assignments, and one before it too
abbrev pub shared_from : List (List ℕ) → List ProcessSeen → List (List ℕ)
shared_from before [] = []
shared_from before (p ∷ ps) = filter (λ name. is_among name before) (blocking_by p) ++ shared_from (before ++ blocking_by p) ps

-- by the names that any process writes so, those that two do, and the process's own
abbrev pub is_elsewhere : List (List ℕ) → List (List ℕ) → List (List ℕ) → List ℕ → Bool
is_elsewhere all shared own name = is_among name shared || (is_among name all && not (is_among name own))

abbrev pub elsewhere_at : List (List ℕ) → List (List ℕ) → ProcessSeen → List ℕ
elsewhere_at all shared p = places_if (is_elsewhere all shared (blocking_by p)) p.reads
