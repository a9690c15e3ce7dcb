-- The least place, place by place, and what the rules of a module whose processes are all clocked look at.
use Rattle.std.proofs.Common.{◌≡◌, ℕ, List, [], ◌∷◌, ◌++◌, map, flat_map, filter, Bool, true, false, not, Option, refl, sym, ap, ◌∙◌, append_assoc}
use Rattle.std.specs.Prelude.{if◌then◌else◌}
use Rattle.std.proofs.lemmas.List.{append-nil}
use Rattle.v_syntax.specs.declared.token.Ident.{Ident}
use Rattle.v_meaning.specs.MarkRules.{place_if}
use Rattle.v_meaning.specs.Uses.{AssignUse, ProcessUse, Uses}
use Rattle.v_meaning.specs.ProcessRules.{Dependence, places_if, dependences, is_clocked, clocked_of, combinational_of, circular, circular_process, ident_names, outside_reads, reads_in, settled_by, read_through, blocking_names, all_blocking, reads_of_process, is_circular, assign_targets}
use Rattle.v_scope.specs.Firsts.{lesser, least_from}
use Rattle.v_uses.specs.declared.gathered.AssignUses.{AssignUses}
use Rattle.v_uses.specs.declared.gathered.ProcessUses.{ProcessUses}
use Rattle.v_uses.specs.declared.gathered.Uses.{Uses as Gathered}
use Rattle.v_uses.specs.Seen.{AssignSeen, ProcessSeen, Seen, assign_seen, process_seen, seen_of}
use Rattle.v_uses.specs.Gathered.{assign_in, process_in, uses_in}
use Rattle.v_depends.specs.Pairs.{dependences_of, blocking_of, is_circular_by, follows}

-- ---- the least place

least_more : (first : Option ℕ) (xs ys : List ℕ) → least_from first (xs ++ ys) ≡ least_from (least_from first xs) ys
least_more first [] ys = refl
least_more first (x ∷ xs) ys = least_more (lesser first x) xs ys

places_more : (test : List ℕ → Bool) (xs ys : List Ident) → places_if test (xs ++ ys) ≡ places_if test xs ++ places_if test ys
places_more test [] ys = refl
places_more test (x ∷ xs) ys = ap (λ l. place_if (test x.name) x.at ++ l) (places_more test xs ys) ∙ sym (append_assoc (place_if (test x.name) x.at) (places_if test xs) (places_if test ys))

-- behind some identifiers, those that come next
pub least_behind : (first found more : Option ℕ) (test : List ℕ → Bool) (xs ys zs : List Ident) → zs ≡ xs ++ ys → found ≡ least_from first (places_if test xs) → more ≡ least_from found (places_if test ys) →
    more ≡ least_from first (places_if test zs)
least_behind first found more test xs ys zs is p q =
    q ∙ ap (λ f. least_from f (places_if test ys)) p ∙ sym (least_more first (places_if test xs) (places_if test ys)) ∙ ap (least_from first) (sym (places_more test xs ys) ∙ ap (places_if test) (sym is))

-- the same for one identifier
pub least_push : (first found more : Option ℕ) (test : List ℕ → Bool) (xs zs : List Ident) (x : Ident) → zs ≡ xs ++ x ∷ [] → found ≡ least_from first (places_if test xs) →
    more ≡ least_from found (place_if (test x.name) x.at) → more ≡ least_from first (places_if test zs)
least_push first found more test xs zs x is p q =
    least_behind first found more test xs (x ∷ []) zs is p (q ∙ ap (least_from found) (sym (append-nil (place_if (test x.name) x.at))))

-- ---- what was gathered and what the definitions look at

dependences_same : (assigns : List AssignUse) → dependences_of (map assign_seen assigns) ≡ map (λ (x : AssignUse). record { name = x.target.name; on = ident_names (reads_in x.reads) }) assigns
dependences_same [] = refl
dependences_same (x ∷ xs) = ap (λ (l : List Dependence). record { name = x.target.name; on = ident_names (reads_in x.reads) } ∷ l) (dependences_same xs)

dependences_are : (g : Gathered) (u : Uses) → uses_in g ≡ seen_of u → combinational_of u ≡ [] → dependences_of (map assign_in g.assigns) ≡ dependences u
dependences_are g u is clocked =
    ap (λ (s : Seen). dependences_of s.assigns) is ∙ dependences_same u.assigns
    ∙ sym (append-nil (map (λ (x : AssignUse). record { name = x.target.name; on = ident_names (reads_in x.reads) }) u.assigns))
    ∙ sym (ap (λ (ps : List ProcessUse). map (λ (x : AssignUse). record { name = x.target.name; on = ident_names (reads_in x.reads) }) u.assigns
    ++ flat_map (λ (p : ProcessUse). map (λ name. record { name = name; on = outside_reads p }) (settled_by u p)) ps) clocked)

pub targets_seen : (assigns : List AssignUse) → map (λ (a : AssignSeen). a.target) (map assign_seen assigns) ≡ map (λ (x : AssignUse). x.target) assigns
targets_seen [] = refl
targets_seen (x ∷ xs) = ap (λ l. x.target ∷ l) (targets_seen xs)

pub targets_in : (assigns : List AssignUses) → map (λ (a : AssignUses). a.target.now) assigns ≡ map (λ (a : AssignSeen). a.target) (map assign_in assigns)
targets_in [] = refl
targets_in (a ∷ more) = ap (λ l. a.target.now ∷ l) (targets_in more)

pub circular_of : (g : Gathered) (u : Uses) → uses_in g ≡ seen_of u → combinational_of u ≡ [] →
    places_if (is_circular_by (dependences_of (map assign_in g.assigns))) (map (λ (a : AssignUses). a.target.now) g.assigns) ≡ circular u
circular_of g u is clocked =
    ap (λ (ds : List Dependence). places_if (is_circular_by ds) (map (λ (a : AssignUses). a.target.now) g.assigns)) (dependences_are g u is clocked)
    ∙ ap (places_if (is_circular u)) (targets_in g.assigns ∙ ap (λ (s : Seen). map (λ (a : AssignSeen). a.target) s.assigns) is ∙ targets_seen u.assigns)
    ∙ sym (append-nil (places_if (is_circular u) (assign_targets u)))
    ∙ sym (ap (λ (ps : List ProcessUse). places_if (is_circular u) (assign_targets u) ++ flat_map (circular_process u) ps) clocked)

-- where no process is combinational, all are clocked
all_clocked_case : (b : Bool) (p : ProcessUse) (qs ps : List ProcessUse) → (if not b then p ∷ qs else qs) ≡ [] → (qs ≡ [] → filter is_clocked ps ≡ ps) → (if b then p ∷ filter is_clocked ps else filter is_clocked ps) ≡ p ∷ ps
all_clocked_case true p qs ps none h = ap (λ l. p ∷ l) (h none)
all_clocked_case false p qs ps none h = absurd (cc none)

all_clocked : (ps : List ProcessUse) → filter (λ p. not (is_clocked p)) ps ≡ [] → filter is_clocked ps ≡ ps
all_clocked [] none = refl
all_clocked (p ∷ ps) none = all_clocked_case (is_clocked p) p (filter (λ q. not (is_clocked q)) ps) ps none (all_clocked ps)

blocking_seen : (ps : List ProcessUse) → flat_map blocking_of (map process_seen ps) ≡ all_blocking ps
blocking_seen [] = refl
blocking_seen (p ∷ ps) = ap (λ l. blocking_names p ++ l) (blocking_seen ps)

reads_seen : (ps : List ProcessUse) → flat_map (λ (p : ProcessSeen). p.reads) (map process_seen ps) ≡ flat_map reads_of_process ps
reads_seen [] = refl
reads_seen (p ∷ ps) = ap (λ l. reads_of_process p ++ l) (reads_seen ps)

reads_gathered : (ps : List ProcessUses) → flat_map (λ (p : ProcessUses). (process_in p).reads) ps ≡ flat_map (λ (p : ProcessSeen). p.reads) (map process_in ps)
reads_gathered [] = refl
reads_gathered (p ∷ ps) = ap (λ l. (process_in p).reads ++ l) (reads_gathered ps)

pub read_through_of : (g : Gathered) (u : Uses) → uses_in g ≡ seen_of u → combinational_of u ≡ [] →
    places_if (follows (dependences_of (map assign_in g.assigns)) (flat_map blocking_of (map process_in g.processes))) (flat_map (λ (p : ProcessUses). (process_in p).reads) g.processes) ≡ read_through u
read_through_of g u is clocked =
    let all : clocked_of u ≡ u.processes = all_clocked u.processes clocked in
    ap (λ (ds : List Dependence). places_if (follows ds (flat_map blocking_of (map process_in g.processes))) (flat_map (λ (p : ProcessUses). (process_in p).reads) g.processes)) (dependences_are g u is clocked)
    ∙ ap (λ l. places_if (follows (dependences u) l) (flat_map (λ (p : ProcessUses). (process_in p).reads) g.processes))
    (ap (λ (s : Seen). flat_map blocking_of s.processes) is ∙ blocking_seen u.processes ∙ ap all_blocking (sym all))
    ∙ ap (places_if (follows (dependences u) (all_blocking (clocked_of u))))
    (reads_gathered g.processes ∙ ap (λ (s : Seen). flat_map (λ (p : ProcessSeen). p.reads) s.processes) is ∙ reads_seen u.processes ∙ ap (flat_map reads_of_process) (sym all))
