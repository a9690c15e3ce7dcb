-- Which names two processes write by blocking assignments, and the rounds over processes that find them.
use Rattle.std.proofs.Common.{◌≡◌, ◌<◌, ◌≤◌, ◌+◌, ℕ, List, [], ◌∷◌, ◌++◌, map, flat_map, filter, cond, length, drop, get_or, Bool, true, false, not, Option, None, Bor, append_assoc, append-nil, refl, sym, ap, ◌∙◌, Result, Ok, Err, IfOk, subst}
use Rattle.std.specs.Prelude.{◌||◌, ◌&&◌}
use Rattle.std.specs.BTreeSet.{BTreeSet}
use Rattle.std.proofs.lemmas.List.{map-append}
use Rattle.std.proofs.lemmas.Simd.{map-map}
use Rattle.lz_base.specs.Met.{Met}
use Rattle.lz_base.specs.Names.{is_among}
use Rattle.v_syntax.specs.declared.token.Ident.{Ident}
use Rattle.v_meaning.specs.Uses as m
use Rattle.v_meaning.specs.ProcessRules.{Written, is_blocking, is_clocked, ident_names, writes_of_process, reads_of_process, places_if, blocking_names, all_blocking, clocked_of, combinational_of, read_elsewhere}
use Rattle.v_scope.specs.Firsts.{least_from}
use Rattle.v_uses.specs.Seen.{Seen, ProcessSeen, process_seen, seen_of}
use Rattle.v_uses.specs.declared.gathered.Write.{Write}
use Rattle.v_uses.specs.declared.gathered.ProcessUses.{ProcessUses}
use Rattle.v_uses.specs.declared.gathered.Uses.{Uses}
use Rattle.v_uses.specs.Gathered.{written_in, process_in, uses_in}
use Rattle.v_rules.specs.Groups.{idents_in, blocking_in, blocking_by, shared_from, is_elsewhere, elsewhere_at}
use Rattle.v_rules.proofs.Rounds.{gathered, gathered_all, places_same, MetSome, met_next}
use Rattle.v_rules.proofs.Sets.{among_more, among_filter}

-- ---- of each process, whether it writes a name: whether one does, and whether two do

abbrev any_of : List Bool → Bool
any_of [] = false
any_of (b ∷ bs) = b || any_of bs

abbrev two_of : Bool → List Bool → Bool
two_of before [] = false
two_of before (b ∷ bs) = (before && b) || two_of (before || b) bs

two_behind : (bs : List Bool) → two_of true bs ≡ any_of bs
two_behind [] = refl
two_behind (b ∷ bs) = ap (λ x. b || x) (two_behind bs)

or_true : (b : Bool) → (b || true) ≡ true
or_true true = refl
or_true false = refl

-- besides one that does, whether another does
two_with : (before : Bool) (xs ys : List Bool) → two_of before (xs ++ true ∷ ys) ≡ (before || any_of (xs ++ ys))
two_with true [] ys = refl
two_with false [] ys = two_behind ys
two_with true (true ∷ xs) ys = refl
two_with true (false ∷ xs) ys = two_with true xs ys
two_with false (x ∷ xs) ys = two_with x xs ys

-- besides one that does not
any_without : (xs ys : List Bool) → any_of (xs ++ false ∷ ys) ≡ any_of (xs ++ ys)
any_without [] ys = refl
any_without (x ∷ xs) ys = ap (λ b. x || b) (any_without xs ys)

-- where two do, one does
two_any : (before : Bool) (bs : List Bool) → (two_of before bs || (before || any_of bs)) ≡ (before || any_of bs)
two_any true bs = or_true (two_of true bs)
two_any false [] = refl
two_any false (b ∷ bs) = two_any b bs

and_false : (b : Bool) → (b && false) ≡ false
and_false true = refl
and_false false = refl

and_true : (b : Bool) → (b && true) ≡ b
and_true true = refl
and_true false = refl

or_false : (b : Bool) → (b || false) ≡ b
or_false true = refl
or_false false = refl

others : (b : Bool) (xs ys : List Bool) → any_of (xs ++ ys) ≡ (two_of false (xs ++ b ∷ ys) || (any_of (xs ++ b ∷ ys) && not b))
others true xs ys = sym (ap (λ x. two_of false (xs ++ true ∷ ys) || x) (and_false (any_of (xs ++ true ∷ ys))) ∙ or_false (two_of false (xs ++ true ∷ ys)) ∙ two_with false xs ys)
others false xs ys = sym (ap (λ x. two_of false (xs ++ false ∷ ys) || x) (and_true (any_of (xs ++ false ∷ ys))) ∙ two_any false (xs ++ false ∷ ys) ∙ any_without xs ys)

abbrev bits : List ℕ → List m.ProcessUse → List Bool
bits name ps = map (λ (p : m.ProcessUse). is_among name (blocking_by (process_seen p))) ps

-- ---- the names of processes

blocking_is : (p : m.ProcessUse) → blocking_by (process_seen p) ≡ blocking_names p
blocking_is p = map-map (λ (n : Ident). n.name) (λ (w : Written). w.name) (filter (λ (w : Written). is_blocking w.kind) (writes_of_process p))

among_all : (name : List ℕ) (ps : List m.ProcessUse) → is_among name (flat_map blocking_by (map process_seen ps)) ≡ any_of (bits name ps)
among_all name [] = refl
among_all name (p ∷ ps) = among_more name (blocking_by (process_seen p)) (flat_map blocking_by (map process_seen ps)) ∙ ap (λ b. is_among name (blocking_by (process_seen p)) || b) (among_all name ps)

among_blocking : (name : List ℕ) (ps : List m.ProcessUse) → is_among name (all_blocking ps) ≡ any_of (bits name ps)
among_blocking name [] = refl
among_blocking name (p ∷ ps) =
    among_more name (blocking_names p) (all_blocking ps)
    ∙ ap (λ ns. is_among name ns || is_among name (all_blocking ps)) (sym (blocking_is p))
    ∙ ap (λ b. is_among name (blocking_by (process_seen p)) || b) (among_blocking name ps)

among_shared : (name : List ℕ) (before : List (List ℕ)) (ps : List m.ProcessUse) → is_among name (shared_from before (map process_seen ps)) ≡ two_of (is_among name before) (bits name ps)
among_shared name before [] = refl
among_shared name before (p ∷ ps) =
    among_more name (filter (λ n. is_among n before) (blocking_by (process_seen p))) (shared_from (before ++ blocking_by (process_seen p)) (map process_seen ps))
    ∙ ap (λ b. b || is_among name (shared_from (before ++ blocking_by (process_seen p)) (map process_seen ps))) (among_filter (λ n. is_among n before) name (blocking_by (process_seen p)))
    ∙ ap (λ b. (is_among name before && is_among name (blocking_by (process_seen p))) || b)
    (among_shared name (before ++ blocking_by (process_seen p)) ps ∙ ap (λ b. two_of b (bits name ps)) (among_more name before (blocking_by (process_seen p))))

abbrev all_of : List m.ProcessUse → List (List ℕ)
all_of ps = flat_map blocking_by (map process_seen ps)

abbrev shared_of : List m.ProcessUse → List (List ℕ)
shared_of ps = shared_from [] (map process_seen ps)

elsewhere_one : (before : List m.ProcessUse) (p : m.ProcessUse) (ps : List m.ProcessUse) (name : List ℕ) →
    is_among name (all_blocking (before ++ ps)) ≡ is_elsewhere (all_of (before ++ p ∷ ps)) (shared_of (before ++ p ∷ ps)) (blocking_by (process_seen p)) name
elsewhere_one before p ps name =
    among_blocking name (before ++ ps)
    ∙ ap any_of (map-append _ before ps)
    ∙ others (is_among name (blocking_by (process_seen p))) (bits name before) (bits name ps)
    ∙ ap (λ bs. two_of false bs || (any_of bs && not (is_among name (blocking_by (process_seen p))))) (sym (map-append (λ (p : m.ProcessUse). is_among name (blocking_by (process_seen p))) before (p ∷ ps)))
    ∙ ap (λ b. b || (any_of (bits name (before ++ p ∷ ps)) && not (is_among name (blocking_by (process_seen p))))) (sym (among_shared name [] (before ++ p ∷ ps)))
    ∙ ap (λ b. is_among name (shared_of (before ++ p ∷ ps)) || (b && not (is_among name (blocking_by (process_seen p))))) (sym (among_all name (before ++ p ∷ ps)))

elsewhere_of : (whole before ps : List m.ProcessUse) → before ++ ps ≡ whole → flat_map (elsewhere_at (all_of whole) (shared_of whole)) (map process_seen ps) ≡ read_elsewhere before ps
elsewhere_of whole before [] is = refl
elsewhere_of whole before (p ∷ ps) is =
    ap (λ l. l ++ flat_map (elsewhere_at (all_of whole) (shared_of whole)) (map process_seen ps))
    (places_same _ _ (λ name. ap (λ (w : List m.ProcessUse). is_elsewhere (all_of w) (shared_of w) (blocking_by (process_seen p)) name) (sym is) ∙ sym (elsewhere_one before p ps name)) (reads_of_process p))
    ∙ ap (λ l. places_if (λ name. is_among name (all_blocking (before ++ ps))) (reads_of_process p) ++ l) (elsewhere_of whole (before ++ p ∷ []) ps (append_assoc before (p ∷ []) ps ∙ is))

-- ---- all processes are clocked

clocked_step : (b : Bool) (p : m.ProcessUse) (none some ps : List m.ProcessUse) → cond (not b) (p ∷ none) none ≡ [] → (none ≡ [] → some ≡ ps) → cond b (p ∷ some) some ≡ p ∷ ps
clocked_step true p none some ps h more = ap (λ l. p ∷ l) (more h)
clocked_step false p none some ps h more = cc

all_clocked : (ps : List m.ProcessUse) → filter (λ (p : m.ProcessUse). not (is_clocked p)) ps ≡ [] → filter is_clocked ps ≡ ps
all_clocked [] h = refl
all_clocked (p ∷ ps) h = clocked_step (is_clocked p) p _ _ ps h (all_clocked ps)

pub elsewhere_is : (uses : Uses) (u : m.Uses) (ps : List ProcessUses) (first : Option ℕ) → ps ≡ uses.processes → uses_in uses ≡ seen_of u → combinational_of u ≡ [] →
    first ≡ least_from None (flat_map (elsewhere_at (flat_map blocking_by (map process_in ps)) (shared_from [] (map process_in ps))) (map process_in ps)) → first ≡ least_from None (read_elsewhere [] (clocked_of u))
elsewhere_is uses u ps first sliced seen clocked is =
    is
    ∙ ap (λ (qs : List ProcessSeen). least_from None (flat_map (elsewhere_at (flat_map blocking_by qs) (shared_from [] qs)) qs)) (ap (map process_in) sliced ∙ ap (λ (s : Seen). s.processes) seen)
    ∙ ap (least_from None) (elsewhere_of u.processes [] u.processes refl)
    ∙ ap (λ ps. least_from None (read_elsewhere [] ps)) (sym (all_clocked u.processes clocked))

-- ---- the rounds

-- The names that were met before, and those that were shared; with those of the processes left they are all.
pub record SharedGoes (ps : List ProcessUses) (i : ℕ) (met shared : BTreeSet (Bor (List ℕ))) : Type 0 where
  pub before : List (List ℕ)
  pub names : List (List ℕ)
  pub met_them : Met met before
  pub met_shared : Met shared names
  pub all_met : before ++ flat_map blocking_by (map process_in (drop i ps)) ≡ flat_map blocking_by (map process_in ps)
  pub all_shared : names ++ shared_from before (map process_in (drop i ps)) ≡ shared_from [] (map process_in ps)

pub shared_begins : (ps : List ProcessUses) (met shared : BTreeSet (Bor (List ℕ))) → Met met [] → Met shared [] → SharedGoes ps 0 met shared
shared_begins ps met shared m s = record { before = []; names = []; met_them = m; met_shared = s; all_met = refl; all_shared = refl }

pub shared_next : (ps : List ProcessUses) (i : ℕ) (p other : ProcessUses) (ns ms : List Ident) (met met' shared shared' : BTreeSet (Bor (List ℕ))) → i < length ps → p ≡ get_or ps i other → ident_names ns ≡ blocking_by (process_in p) → ident_names ms ≡ blocking_by (process_in p) →
    ((before names : List (List ℕ)) → Met met before → Met shared names → Met shared' (names ++ filter (λ name. is_among name before) (ident_names ns))) → ((names : List (List ℕ)) → Met met names → Met met' (names ++ ident_names ms)) →
    SharedGoes ps i met shared → SharedGoes ps (i + 1) met' shared'
shared_next ps i p other ns ms met met' shared shared' h is own own_too shares meets g = record {
  before = g.before ++ ident_names ms;
  names = g.names ++ filter (λ name. is_among name g.before) (ident_names ns);
  met_them = meets g.before g.met_them;
  met_shared = shares g.before g.names g.met_them g.met_shared;
  all_met = gathered (λ qs. flat_map blocking_by (map process_in qs)) (λ qs. flat_map blocking_by (map process_in qs)) ps i p other (ident_names ms) g.before _ _ h is (ap (λ l. l ++ flat_map blocking_by (map process_in (drop (i + 1) ps))) (sym own_too)) refl g.all_met;
  all_shared = gathered (λ qs. shared_from g.before (map process_in qs)) (λ qs. shared_from (g.before ++ ident_names ms) (map process_in qs)) ps i p other (filter (λ name. is_among name g.before) (ident_names ns)) g.names _ _ h is
      (ap (λ l. filter (λ name. is_among name g.before) l ++ shared_from (g.before ++ blocking_by (process_in p)) (map process_in (drop (i + 1) ps))) (sym own)
      ∙ ap (λ l. filter (λ name. is_among name g.before) (ident_names ns) ++ shared_from (g.before ++ l) (map process_in (drop (i + 1) ps))) (sym own_too)) refl g.all_shared;
}

pub shared_ends : (ps : List ProcessUses) (i : ℕ) (met shared : BTreeSet (Bor (List ℕ))) → length ps ≤ i → SharedGoes ps i met shared → Met met (flat_map blocking_by (map process_in ps)) × Met shared (shared_from [] (map process_in ps))
shared_ends ps i met shared h g = (
  subst (Met met) (gathered_all (λ qs. flat_map blocking_by (map process_in qs)) ps i g.before _ h refl g.all_met) g.met_them,
  subst (Met shared) (gathered_all (λ qs. shared_from g.before (map process_in qs)) ps i g.names _ h refl g.all_shared) g.met_shared,
)

-- ---- one name, and the names of a process

pub share_step : (test : List ℕ → Bool) (name : List ℕ) (names : List (List ℕ)) → filter test (name ∷ names) ≡ filter test (name ∷ []) ++ filter test names
share_step test name names = one (test name)
  where
    one : (b : Bool) → cond b (name ∷ filter test names) (filter test names) ≡ cond b (name ∷ []) [] ++ filter test names
    one true = refl
    one false = refl

pub shared_one : (before names : List (List ℕ)) (name : List ℕ) (test : Bool) (met : BTreeSet (Bor (List ℕ))) → test ≡ is_among name before → test ≡ true → Met met (names ++ name ∷ []) → Met met (names ++ filter (λ n. is_among n before) (name ∷ []))
shared_one before names name test met is t m = subst (λ b. Met met (names ++ cond b (name ∷ []) [])) (sym t ∙ is) m

pub shared_none : (before names : List (List ℕ)) (name : List ℕ) (test : Bool) (met : BTreeSet (Bor (List ℕ))) → test ≡ is_among name before → test ≡ false → Met met names → Met met (names ++ filter (λ n. is_among n before) (name ∷ []))
shared_none before names name test met is t m = subst (λ b. Met met (names ++ cond b (name ∷ []) [])) (sym t ∙ is) (subst (Met met) (sym (append-nil names)) m)

-- the names of a process that were gathered
pub own_is : (p : ProcessUses) (ws : List Write) (ns slice : List (Bor Ident)) → ws ≡ p.writes → slice ≡ ns → idents_in ns ≡ blocking_in (map written_in ws) → ident_names (idents_in slice) ≡ blocking_by (process_in p)
own_is p ws ns slice sliced same are = ap (λ l. ident_names (idents_in l)) same ∙ ap ident_names (are ∙ ap (λ l. blocking_in (map written_in l)) sliced)

pub elsewhere_found : (ms ss : List (List ℕ)) (p : ProcessUses) (ws : List Write) (ns slice : List (Bor Ident)) (reads : List (Bor Ident)) (own : BTreeSet (Bor (List ℕ))) (first more : Option ℕ) → ws ≡ p.writes → reads ≡ p.reads →
    idents_in ns ≡ blocking_in (map written_in ws) → slice ≡ ns → Met own (ident_names (idents_in slice)) → ((os : List (List ℕ)) → Met own os → more ≡ least_from first (places_if (is_elsewhere ms ss os) (idents_in reads))) →
    more ≡ least_from first (elsewhere_at ms ss (process_in p))
elsewhere_found ms ss p ws ns slice reads own first more sliced sliced_too are same met found =
    found (ident_names (idents_in slice)) met
    ∙ ap (λ l. least_from first (places_if (is_elsewhere ms ss l) (idents_in reads))) (own_is p ws ns slice sliced same are)
    ∙ ap (λ l. least_from first (places_if (is_elsewhere ms ss (blocking_by (process_in p))) (idents_in l))) sliced_too

pub elsewhere_ends : {E : Type 0} (r : Result (Option ℕ) E) (uses : Uses) (ps : List ProcessUses) (met shared : BTreeSet (Bor (List ℕ))) → ps ≡ uses.processes →
    Met met (flat_map blocking_by (map process_in ps)) × Met shared (shared_from [] (map process_in ps)) →
    IfOk r (λ first. (ms ss : List (List ℕ)) → Met met ms → Met shared ss → first ≡ least_from None (flat_map (elsewhere_at ms ss) (map process_in ps))) →
    IfOk r (λ first. (u : m.Uses) → uses_in uses ≡ seen_of u → combinational_of u ≡ [] → first ≡ least_from None (read_elsewhere [] (clocked_of u)))
elsewhere_ends (Ok first) uses ps met shared sliced sets h = λ u seen clocked. elsewhere_is uses u ps first sliced seen clocked (h _ _ sets.0 sets.1)
elsewhere_ends (Err e) uses ps met shared sliced sets h = tt

-- the next name of all
pub share_next : (before : List (List ℕ)) (ns : List (Bor Ident)) (i : ℕ) (n other : Bor Ident) (whole : List (List ℕ)) (met after : BTreeSet (Bor (List ℕ))) → i < length ns → n ≡ get_or ns i other →
    ((names : List (List ℕ)) → Met met names → Met after (names ++ filter (λ name. is_among name before) (n.now.name ∷ []))) →
    MetSome met (filter (λ name. is_among name before) (ident_names (idents_in (drop i ns)))) whole → MetSome after (filter (λ name. is_among name before) (ident_names (idents_in (drop (i + 1) ns)))) whole
share_next before ns i n other whole met after h is meets g =
    met_next (λ ms. filter (λ name. is_among name before) (ident_names (idents_in ms))) ns i n other (filter (λ name. is_among name before) (n.now.name ∷ [])) whole met after h is
    (share_step (λ name. is_among name before) n.now.name (ident_names (idents_in (drop (i + 1) ns)))) meets g
