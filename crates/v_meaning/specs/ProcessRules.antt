-- The rules of processes and nets: for each the places that break it.
use Rattle.std.specs.Prelude.{ℕ, zero, suc, ◌==◌, List, [], ◌∷◌, ◌++◌, length, map, flat_map, filter, Bool, true, false, not, ◌&&◌, ◌||◌, if◌then◌else◌, bit_and, bit_or, bytes_eq}
use Rattle.std.specs.List.{list_any, list_all}
use Rattle.lz_base.specs.Names.{is_among}
use Rattle.v_syntax.specs.declared.token.Ident.{Ident}
use Rattle.v_syntax.specs.declared.stmt.AssignKind.{AssignKind}
use Rattle.v_syntax.specs.declared.stmt.AssignKind.TheVariants as a
use Rattle.v_syntax.specs.declared.module.Event.{Event}
use Rattle.v_syntax.specs.declared.module.Event.TheVariants as w
use Rattle.v_meaning.specs.declared.names.Kind.{Kind}
use Rattle.v_meaning.specs.declared.names.Entry.{Entry}
use Rattle.v_meaning.specs.Names.{entry_of}
use Rattle.v_meaning.specs.declared.names.Kind.TheVariants as k
use Rattle.v_meaning.specs.MarkRules.{place_if}
use Rattle.v_meaning.specs.Uses.{Access, Read, Write, all_bits, AssignUse, ProcessUse, Uses}

-- ---- reads and writes

-- a target of an assignment in a process
pub record Written : Type 0 where
  pub name : Ident
  pub kind : AssignKind

abbrev pub reads_in : List Access → List Ident
reads_in [] = []
reads_in (Read n bits ∷ more) = n ∷ reads_in more
reads_in (Write n kind bits ∷ more) = reads_in more

abbrev pub writes_in : List Access → List Written
writes_in [] = []
writes_in (Read n bits ∷ more) = writes_in more
writes_in (Write n kind bits ∷ more) = record { name = n; kind = kind } ∷ writes_in more

abbrev pub reads_of_process : ProcessUse → List Ident
reads_of_process p = reads_in p.body.all

abbrev pub writes_of_process : ProcessUse → List Written
writes_of_process p = writes_in p.body.all

abbrev pub written_names : ProcessUse → List (List ℕ)
written_names p = map (λ (x : Written). x.name.name) (writes_of_process p)

abbrev pub is_clocked_event : Event → Bool
is_clocked_event (w.Posedge name) = true
is_clocked_event w.Any = false

abbrev pub is_clocked : ProcessUse → Bool
is_clocked p = is_clocked_event p.event

abbrev pub clocked_of : Uses → List ProcessUse
clocked_of u = filter is_clocked u.processes

abbrev pub combinational_of : Uses → List ProcessUse
combinational_of u = filter (λ p. not (is_clocked p)) u.processes

abbrev pub is_blocking : AssignKind → Bool
is_blocking a.Blocking = true
is_blocking a.Nonblocking = false

-- the places of names that pass
abbrev pub places_if : (List ℕ → Bool) → List Ident → List ℕ
places_if test [] = []
places_if test (n ∷ ns) = place_if (test n.name) n.at ++ places_if test ns

abbrev pub kind_of : Uses → List ℕ → Kind
kind_of u name = (entry_of u.names name).kind

-- ---- P1: an event that names no input of width 1, or another name than the first clocked process's event; the clock's
-- name in an expression or target. The name

abbrev pub is_any_input : Kind → Bool
is_any_input k.Clock = true
is_any_input (k.Input n) = true
is_any_input _ = false

abbrev pub is_clock : Kind → Bool
is_clock k.Clock = true
is_clock _ = false

abbrev pub event_names : List ProcessUse → List Ident
event_names [] = []
event_names (p ∷ ps) = of_event p.event ++ event_names ps
  where
    of_event : Event → List Ident
    of_event (w.Posedge name) = name ∷ []
    of_event w.Any = []

abbrev pub is_other : List Ident → List ℕ → Bool
is_other [] name = false
is_other (first ∷ more) name = not (bytes_eq first.name name)

abbrev pub is_wrong_event : Uses → List ℕ → Bool
is_wrong_event u name =
    not (is_any_input (kind_of u name) && (entry_of u.names name).width == 1) || is_other (event_names u.processes) name

abbrev pub assign_reads : Uses → List Ident
assign_reads u = flat_map (λ (x : AssignUse). reads_in x.reads) u.assigns

abbrev pub assign_targets : Uses → List Ident
assign_targets u = map (λ (x : AssignUse). x.target) u.assigns

abbrev pub process_reads : Uses → List Ident
process_reads u = flat_map reads_of_process u.processes

abbrev pub process_targets : Uses → List Ident
process_targets u = flat_map (λ (p : ProcessUse). map (λ (x : Written). x.name) (writes_of_process p)) u.processes

abbrev pub wrong_clock : Uses → List ℕ
wrong_clock u =
    places_if (is_wrong_event u) (event_names u.processes)
    ++ places_if (λ name. is_clock (kind_of u name)) (assign_targets u ++ assign_reads u ++ process_targets u ++ process_reads u)

-- ---- P2: a target in a process that is no variable or memory; a target of an assign that is no wire or output net. The
-- name (6.1 and 9.2)

abbrev pub is_writable : Kind → Bool
is_writable (k.Combinational n) = true
is_writable (k.Variable n) = true
is_writable (k.Memory n low count) = true
is_writable _ = false

abbrev pub is_net : Kind → Bool
is_net (k.Net n) = true
is_net _ = false

abbrev pub wrong_target : Uses → List ℕ
wrong_target u =
    places_if (λ name. not (is_writable (kind_of u name))) (process_targets u) ++ places_if (λ name. not (is_net (kind_of u name))) (assign_targets u)

-- ---- P3: a variable or memory written by two processes. Each target in a process after the first that writes it

abbrev pub written_again : List (List ℕ) → List ProcessUse → List ℕ
written_again before [] = []
written_again before (p ∷ ps) =
    places_if (λ name. is_among name before) (map (λ (x : Written). x.name) (writes_of_process p)) ++ written_again (before ++ written_names p) ps

-- ---- P4: a variable or memory written by both kinds of assignment. Each target of another kind than the first in the text

abbrev pub differ : AssignKind → AssignKind → Bool
differ a.Blocking a.Blocking = false
differ a.Nonblocking a.Nonblocking = false
differ _ _ = true

abbrev pub first_kind : List Written → Written → AssignKind
first_kind [] x = x.kind
first_kind (y ∷ ys) x = if bytes_eq y.name.name x.name.name then y.kind else first_kind ys x

-- behind those before
abbrev pub mixed_kinds : List Written → List Written → List ℕ
mixed_kinds before [] = []
mixed_kinds before (x ∷ xs) = place_if (differ (first_kind before x) x.kind) x.name.at ++ mixed_kinds (before ++ x ∷ []) xs

-- ---- P5: a variable or memory that has a blocking assignment in a clocked process, read in another clocked process. The
-- read

abbrev pub blocking_names : ProcessUse → List (List ℕ)
blocking_names p = map (λ (x : Written). x.name.name) (filter (λ (x : Written). is_blocking x.kind) (writes_of_process p))

abbrev pub all_blocking : List ProcessUse → List (List ℕ)
all_blocking ps = flat_map blocking_names ps

-- over the processes before and behind each
abbrev pub read_elsewhere : List ProcessUse → List ProcessUse → List ℕ
read_elsewhere before [] = []
read_elsewhere before (p ∷ ps) =
    places_if (λ name. is_among name (all_blocking (before ++ ps))) (reads_of_process p) ++ read_elsewhere (before ++ p ∷ []) ps

-- ---- P6: a net with two assigns; a wire or output net with none. The second target; the declared name

abbrev pub assigned_again : List (List ℕ) → List Ident → List ℕ
assigned_again before [] = []
assigned_again before (n ∷ ns) = place_if (is_among n.name before) n.at ++ assigned_again (n.name ∷ before) ns

abbrev pub never_assigned : List (List ℕ) → List Entry → List ℕ
never_assigned targets [] = []
never_assigned targets (e ∷ names) = place_if (is_net e.kind && not (is_among e.name targets)) e.at ++ never_assigned targets names

abbrev pub assigned_names : Uses → List (List ℕ)
assigned_names u = map (λ (n : Ident). n.name) (assign_targets u)

abbrev pub wrong_assigns : Uses → List ℕ
wrong_assigns u = assigned_again [] (assign_targets u) ++ never_assigned (assigned_names u) u.names

-- ---- what depends on what

-- A net depends on every name that its assign reads, and a combinational variable on every name that its process reads and
-- that is no target of that process.
pub record Dependence : Type 0 where
  pub name : List ℕ
  pub on : List (List ℕ)

abbrev pub ident_names : List Ident → List (List ℕ)
ident_names ns = map (λ (n : Ident). n.name) ns

abbrev pub outside_reads : ProcessUse → List (List ℕ)
outside_reads p = filter (λ name. not (is_among name (written_names p))) (ident_names (reads_of_process p))

abbrev pub is_settled_variable : Kind → Bool
is_settled_variable (k.Combinational n) = true
is_settled_variable _ = false

-- the combinational variables of a process
abbrev pub settled_by : Uses → ProcessUse → List (List ℕ)
settled_by u p = filter (λ name. is_settled_variable (kind_of u name)) (written_names p)

abbrev pub dependences : Uses → List Dependence
dependences u =
    map (λ (x : AssignUse). record { name = x.target.name; on = ident_names (reads_in x.reads) }) u.assigns
    ++ flat_map (λ (p : ProcessUse). map (λ name. record { name = name; on = outside_reads p }) (settled_by u p)) (combinational_of u)

-- what a name depends on in one step
abbrev pub direct : List Dependence → List ℕ → List (List ℕ)
direct [] name = []
direct (d ∷ ds) name = (if bytes_eq d.name name then d.on else []) ++ direct ds name

-- one name depends on another in at most so many steps, through nets and combinational variables
abbrev pub depends_in : ℕ → List Dependence → List ℕ → List ℕ → Bool
depends_in zero ds name on = false
depends_in (suc steps) ds name on = list_any (λ next. bytes_eq next on || depends_in steps ds next on) (direct ds name)

-- No way from a name to another needs more steps than there are dependences.
abbrev pub depends : Uses → List ℕ → List ℕ → Bool
depends u name on = depends_in (length (dependences u)) (dependences u) name on

-- ---- P7: a net or combinational variable that depends on itself. The target of each such assign; the first target in each
-- such process

abbrev pub is_circular : Uses → List ℕ → Bool
is_circular u name = depends u name name

abbrev pub first_place_if : Bool → List Written → List ℕ
first_place_if true (x ∷ xs) = x.name.at ∷ []
first_place_if _ _ = []

abbrev pub circular_process : Uses → ProcessUse → List ℕ
circular_process u p = first_place_if (list_any (is_circular u) (settled_by u p)) (writes_of_process p)

abbrev pub circular : Uses → List ℕ
circular u = places_if (is_circular u) (assign_targets u) ++ flat_map (circular_process u) (combinational_of u)

-- ---- P8: a clocked process that reads a net or combinational variable which depends on a variable or memory with a
-- blocking assignment in a clocked process. The read

abbrev pub follows_blocking : Uses → List ℕ → Bool
follows_blocking u name = list_any (depends u name) (all_blocking (clocked_of u))

abbrev pub read_through : Uses → List ℕ
read_through u = places_if (follows_blocking u) (flat_map reads_of_process (clocked_of u))

-- ---- P9: a variable or memory that a combinational process has as target and does not write whole on every path. Its
-- first target in that process

-- the bits of a name that a path writes; a nonblocking assignment writes none
abbrev pub written_bits : List ℕ → List Access → ℕ
written_bits name [] = 0
written_bits name (Read n bits ∷ more) = written_bits name more
written_bits name (Write n a.Blocking bits ∷ more) =
    if bytes_eq n.name name then bit_or bits (written_bits name more) else written_bits name more
written_bits name (Write n a.Nonblocking bits ∷ more) = written_bits name more

abbrev pub is_whole : Uses → List ℕ → List Access → Bool
is_whole u name path = written_bits name path == all_bits (entry_of u.names name)

abbrev pub not_whole : Uses → List (List Access) → List ℕ → Bool
not_whole u paths name = not (list_all (is_whole u name) paths)

-- the first target of each name
abbrev pub first_targets : List (List ℕ) → List Written → List Ident
first_targets before [] = []
first_targets before (x ∷ xs) =
    (if is_among x.name.name before then [] else x.name ∷ []) ++ first_targets (x.name.name ∷ before) xs

abbrev pub latching : Uses → List ℕ
latching u =
    flat_map (λ (p : ProcessUse). places_if (not_whole u p.body.paths) (first_targets [] (writes_of_process p))) (combinational_of u)

-- ---- P10: a read, in a combinational process, of bits of one of its own targets that are not written before on every
-- path. The read

-- along a path, behind what is before
abbrev pub early_reads : List (List ℕ) → List Access → List Access → List ℕ
early_reads own before [] = []
early_reads own before (Read n bits ∷ path) =
    place_if (is_among n.name own && not (bit_and bits (written_bits n.name before) == bits)) n.at ++ early_reads own before path
early_reads own before (Write n kind bits ∷ path) = early_reads own (before ++ Write n kind bits ∷ []) path

abbrev pub read_early : Uses → List ℕ
read_early u = flat_map (λ (p : ProcessUse). flat_map (early_reads (written_names p) []) p.body.paths) (combinational_of u)
