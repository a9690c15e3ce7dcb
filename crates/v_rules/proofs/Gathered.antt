-- What was gathered of a module is what the definition of its uses has.
use Rattle.std.proofs.Common.{◌≡◌, ◌≤◌, ◌<◌, ◌+◌, ℕ, length, take, take_all, drop, get_or, List, [], ◌∷◌, ◌++◌, map, flat_map, Bor, refl, sym, ap, ◌∙◌}
use Rattle.std.proofs.lemmas.List.{map-append}
use Rattle.std.proofs.lemmas.List.Folds.{flat_map-map}
use Rattle.std.proofs.lemmas.Simd.{map-map}
use Rattle.v_syntax.specs.declared.token.Ident.{Ident}
use Rattle.v_syntax.specs.declared.stmt.AssignKind.{AssignKind}
use Rattle.v_syntax.specs.declared.stmt.AssignKind.TheVariants as a
use Rattle.v_syntax.specs.declared.module.Event.{Event}
use Rattle.v_syntax.specs.declared.module.Event.TheVariants as w
use Rattle.v_meaning.specs.Uses as m
use Rattle.v_meaning.specs.ProcessRules.{Written, assign_targets, assign_reads, process_targets, process_reads, event_names, writes_of_process}
use Rattle.v_uses.specs.Seen.{Seen, AssignSeen, ProcessSeen, assign_seen, process_seen, seen_of}
use Rattle.v_uses.specs.declared.gathered.Write.{Write}
use Rattle.v_uses.specs.declared.gathered.AssignUses.{AssignUses}
use Rattle.v_uses.specs.declared.gathered.ProcessUses.{ProcessUses}
use Rattle.v_uses.specs.declared.gathered.Uses.{Uses}
use Rattle.v_uses.specs.Gathered.{written_in, assign_in, process_in, uses_in}
use Rattle.v_rules.specs.Groups.{idents_in, targets_in, blocking_in, names_of_event}
use Rattle.v_rules.proofs.Rounds.{gathered}

map_flat : {X A B : Type 0} (v : A → B) (f : X → List A) (xs : List X) → map v (flat_map f xs) ≡ flat_map (λ x. map v (f x)) xs
map_flat v f [] = refl
map_flat v f (x ∷ xs) = map-append v (f x) (flat_map f xs) ∙ ap (λ l. map v (f x) ++ l) (map_flat v f xs)

-- lists of lists that look the same from both sides
flat_same : {X Y S A B : Type 0} (v : A → B) (f : X → List A) (left : X → S) (right : Y → S) (h : S → List B) (xs : List X) (ys : List Y) → flat_map (λ x. map v (f x)) xs ≡ flat_map (λ x. h (left x)) xs → map left xs ≡ map right ys →
    map v (flat_map f xs) ≡ flat_map (λ y. h (right y)) ys
flat_same v f left right h xs ys same seen =
    map_flat v f xs ∙ same ∙ sym (flat_map-map h left xs) ∙ ap (flat_map h) seen ∙ flat_map-map h right ys

pub assign_targets_are : (uses : Uses) (u : m.Uses) (xs : List AssignUses) (ns : List (Bor Ident)) → xs ≡ uses.assigns → ns ≡ map (λ (x : AssignUses). x.target) xs → uses_in uses ≡ seen_of u → idents_in ns ≡ assign_targets u
assign_targets_are uses u xs ns sliced is seen =
    ap idents_in (is ∙ ap (map (λ (x : AssignUses). x.target)) sliced)
    ∙ map-map (λ (n : Bor Ident). n.now) (λ (x : AssignUses). x.target) uses.assigns
    ∙ sym (map-map (λ (x : AssignSeen). x.target) assign_in uses.assigns)
    ∙ ap (λ (s : Seen). map (λ (x : AssignSeen). x.target) s.assigns) seen
    ∙ map-map (λ (x : AssignSeen). x.target) assign_seen u.assigns

pub assign_reads_are : (uses : Uses) (u : m.Uses) (xs : List AssignUses) (i : ℕ) (ns : List (Bor Ident)) → xs ≡ uses.assigns → length xs ≤ i → ns ≡ flat_map (λ (x : AssignUses). x.reads) (take i xs) → uses_in uses ≡ seen_of u → idents_in ns ≡ assign_reads u
assign_reads_are uses u xs i ns sliced h is seen =
    ap idents_in (is ∙ ap (flat_map (λ (x : AssignUses). x.reads)) (take_all i xs h ∙ sliced))
    ∙ flat_same (λ (n : Bor Ident). n.now) (λ (x : AssignUses). x.reads) assign_in assign_seen (λ (x : AssignSeen). x.reads) uses.assigns u.assigns refl (ap (λ (s : Seen). s.assigns) seen)

pub process_reads_are : (uses : Uses) (u : m.Uses) (xs : List ProcessUses) (i : ℕ) (ns : List (Bor Ident)) → xs ≡ uses.processes → length xs ≤ i → ns ≡ flat_map (λ (p : ProcessUses). p.reads) (take i xs) → uses_in uses ≡ seen_of u → idents_in ns ≡ process_reads u
process_reads_are uses u xs i ns sliced h is seen =
    ap idents_in (is ∙ ap (flat_map (λ (p : ProcessUses). p.reads)) (take_all i xs h ∙ sliced))
    ∙ flat_same (λ (n : Bor Ident). n.now) (λ (p : ProcessUses). p.reads) process_in process_seen (λ (p : ProcessSeen). p.reads) uses.processes u.processes refl (ap (λ (s : Seen). s.processes) seen)

pub writes_are : (uses : Uses) (u : m.Uses) (xs : List ProcessUses) (i : ℕ) (ws : List Write) → xs ≡ uses.processes → length xs ≤ i → ws ≡ flat_map (λ (p : ProcessUses). p.writes) (take i xs) → uses_in uses ≡ seen_of u →
    map written_in ws ≡ flat_map writes_of_process u.processes
writes_are uses u xs i ws sliced h is seen =
    ap (map written_in) (is ∙ ap (flat_map (λ (p : ProcessUses). p.writes)) (take_all i xs h ∙ sliced))
    ∙ flat_same written_in (λ (p : ProcessUses). p.writes) process_in process_seen (λ (p : ProcessSeen). p.writes) uses.processes u.processes refl (ap (λ (s : Seen). s.processes) seen)

pub targets_are : (ws : List Write) (ns : List (Bor Ident)) → ns ≡ map (λ (w : Write). w.name) ws → idents_in ns ≡ targets_in (map written_in ws)
targets_are ws ns is =
    ap idents_in is ∙ map-map (λ (n : Bor Ident). n.now) (λ (w : Write). w.name) ws ∙ sym (map-map (λ (w : Written). w.name) written_in ws)

-- the targets of all writes are those of all processes
pub process_targets_are : (u : m.Uses) (ns : List Ident) (ws : List Written) → ns ≡ targets_in ws → ws ≡ flat_map writes_of_process u.processes → ns ≡ process_targets u
process_targets_are u ns ws is are = is ∙ ap targets_in are ∙ map_flat (λ (w : Written). w.name) writes_of_process u.processes

-- ---- events

event_step : (e : Event) (body : m.StmtUse) (ps : List m.ProcessUse) → event_names (record { event = e; body = body } ∷ ps) ≡ names_of_event e ++ event_names ps
event_step (w.Posedge name) body ps = refl
event_step w.Any body ps = refl

events_flat : (ps : List m.ProcessUse) → flat_map (λ (p : m.ProcessUse). names_of_event p.event) ps ≡ event_names ps
events_flat [] = refl
events_flat (p ∷ ps) = ap (λ l. names_of_event p.event ++ l) (events_flat ps) ∙ sym (event_step p.event p.body ps)

abbrev pub events_in : List ProcessUses → List Ident
events_in ps = flat_map (λ (p : ProcessUses). names_of_event p.event.now) ps

pub events_are : (uses : Uses) (u : m.Uses) (xs : List ProcessUses) (ns : List (Bor Ident)) → xs ≡ uses.processes → idents_in ns ≡ events_in xs → uses_in uses ≡ seen_of u → idents_in ns ≡ event_names u.processes
events_are uses u xs ns sliced is seen =
    is ∙ ap events_in sliced
    ∙ sym (flat_map-map (λ (p : ProcessSeen). names_of_event p.event) process_in uses.processes)
    ∙ ap (λ (s : Seen). flat_map (λ (p : ProcessSeen). names_of_event p.event) s.processes) seen
    ∙ flat_map-map (λ (p : ProcessSeen). names_of_event p.event) process_seen u.processes
    ∙ events_flat u.processes

-- one more name
pub pushed : (old new : List (Bor Ident)) (n : Bor Ident) → new ≡ old ++ n ∷ [] → idents_in new ≡ idents_in old ++ n.now ∷ []
pushed old new n is = ap idents_in is ∙ map-append (λ (n : Bor Ident). n.now) old (n ∷ [])

-- ---- blocking writes

blocking_step : (name : Ident) (kind : AssignKind) (ws : List Written) → blocking_in (record { name = name; kind = kind } ∷ ws) ≡ blocking_in (record { name = name; kind = kind } ∷ []) ++ blocking_in ws
blocking_step name a.Blocking ws = refl
blocking_step name a.Nonblocking ws = refl

-- the next write of all
pub blocking_next : (ws : List Write) (i : ℕ) (w other : Write) (old new whole : List Ident) → i < length ws → w ≡ get_or ws i other → new ≡ old ++ blocking_in (written_in w ∷ []) → old ++ blocking_in (map written_in (drop i ws)) ≡ whole →
    new ++ blocking_in (map written_in (drop (i + 1) ws)) ≡ whole
blocking_next ws i w other old new whole h is more same =
    gathered (λ vs. blocking_in (map written_in vs)) (λ vs. blocking_in (map written_in vs)) ws i w other (blocking_in (written_in w ∷ [])) old new whole h is (blocking_step w.name.now w.kind (map written_in (drop (i + 1) ws))) more same
