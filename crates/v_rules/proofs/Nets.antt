-- The rules of the clock, of targets and of assigns, from the least places of their parts.
use Rattle.std.proofs.Common.{◌≡◌, ◌<◌, ◌+◌, ◌&&◌, ℕ, List, [], ◌++◌, length, drop, get_or, Bool, not, Option, None, Bor, refl, sym, ap, ◌∙◌}
use Rattle.std.specs.BTreeSet.{BTreeSet}
use Rattle.lz_base.specs.Met.{Met}
use Rattle.lz_base.specs.Names.{is_among}
use Rattle.v_syntax.specs.declared.token.Ident.{Ident}
use Rattle.v_meaning.specs.declared.names.Entry.{Entry}
use Rattle.v_meaning.specs.MarkRules.{place_if}
use Rattle.v_meaning.specs.Names.{entry_of}
use Rattle.v_meaning.specs.Uses as m
use Rattle.v_meaning.specs.ProcessRules.{assign_targets, assign_reads, process_targets, process_reads, event_names, places_if, is_wrong_event, is_clock, is_writable, is_net, ident_names, assigned_again, never_assigned, assigned_names, wrong_clock, wrong_target, wrong_assigns}
use Rattle.v_scope.specs.Firsts.{least_from}
use Rattle.v_rules.specs.Groups.{idents_in, is_wrong_in}
use Rattle.v_rules.proofs.Rounds.{least_more, then_among, and_among, round}

pub assigns_are : (u : m.Uses) (names entries : List Entry) (ns judged met_too : List (Bor Ident)) (set : BTreeSet (Bor (List ℕ))) (first all : Option ℕ) → u.names ≡ names → idents_in ns ≡ assign_targets u → entries ≡ names → judged ≡ ns → met_too ≡ ns →
    first ≡ least_from None (assigned_again [] (idents_in judged)) → Met set (ident_names (idents_in met_too)) → ((met : List (List ℕ)) → Met set met → all ≡ least_from first (never_assigned met entries)) → all ≡ least_from None (wrong_assigns u)
assigns_are u names entries ns judged met_too set first all named are listed one two again met never =
    never (ident_names (idents_in met_too)) met
    ∙ ap (λ es. least_from first (never_assigned (ident_names (idents_in met_too)) es)) (listed ∙ sym named)
    ∙ ap (λ l. least_from first (never_assigned (ident_names l) u.names)) (ap idents_in two ∙ are)
    ∙ ap (λ f. least_from f (never_assigned (assigned_names u) u.names)) again
    ∙ ap (λ l. least_from (least_from None (assigned_again [] l)) (never_assigned (assigned_names u) u.names)) (ap idents_in one ∙ are)
    ∙ sym (least_more None (assigned_again [] (assign_targets u)) (never_assigned (assigned_names u) u.names))

abbrev pub clock_in : List Entry → List ℕ → Bool
clock_in names name = is_clock (entry_of names name).kind

abbrev pub unwritable_in : List Entry → List ℕ → Bool
unwritable_in names name = not (is_writable (entry_of names name).kind)

abbrev pub unassignable_in : List Entry → List ℕ → Bool
unassignable_in names name = not (is_net (entry_of names name).kind)

-- by the same names
named_places : (f : List Entry → List ℕ → Bool) (known names : List Entry) (ns : List Ident) (start one : Option ℕ) → known ≡ names → one ≡ least_from start (places_if (f names) ns) → one ≡ least_from start (places_if (f known) ns)
named_places f known names ns start one named h = h ∙ ap (λ es. least_from start (places_if (f es) ns)) (sym named)

-- of two lists, by two tests
pub targets_judged : (u : m.Uses) (names : List Entry) (written assigned : List Ident) (first all : Option ℕ) → u.names ≡ names → written ≡ process_targets u → assigned ≡ assign_targets u →
    first ≡ least_from None (places_if (unwritable_in names) written) → all ≡ least_from first (places_if (unassignable_in names) assigned) → all ≡ least_from None (wrong_target u)
targets_judged u names written assigned first all named w a p q =
    then_among (unwritable_in u.names) (unassignable_in u.names) written assigned first all (named_places unwritable_in u.names names written None first named p) (named_places unassignable_in u.names names assigned first all named q)
    ∙ ap (λ l. least_from None (places_if (unwritable_in u.names) l ++ places_if (unassignable_in u.names) assigned)) w
    ∙ ap (λ l. least_from None (places_if (unwritable_in u.names) (process_targets u) ++ places_if (unassignable_in u.names) l)) a

-- of five lists, the first by one test and the others by another
pub clock_judged : (u : m.Uses) (names : List Entry) (events targets reads written read : List Ident) (a b c d e : Option ℕ) → u.names ≡ names →
    events ≡ event_names u.processes → targets ≡ assign_targets u → reads ≡ assign_reads u → written ≡ process_targets u → read ≡ process_reads u →
    a ≡ least_from None (places_if (is_wrong_in names events) events) → b ≡ least_from a (places_if (clock_in names) targets) → c ≡ least_from b (places_if (clock_in names) reads) →
    d ≡ least_from c (places_if (clock_in names) written) → e ≡ least_from d (places_if (clock_in names) read) → e ≡ least_from None (wrong_clock u)
clock_judged u names events targets reads written read a b c d e named is_events is_targets is_reads is_written is_read p q r s t =
    then_among (is_wrong_in u.names events) (clock_in u.names) events (targets ++ reads ++ written ++ read) a e (named_places (λ es. is_wrong_in es events) u.names names events None a named p)
    (and_among (clock_in u.names) (targets ++ reads ++ written) read a d e
    (and_among (clock_in u.names) (targets ++ reads) written a c d
    (and_among (clock_in u.names) targets reads a b c (named_places clock_in u.names names targets a b named q) (named_places clock_in u.names names reads b c named r)) (named_places clock_in u.names names written c d named s))
    (named_places clock_in u.names names read d e named t))
    ∙ ap (λ l. least_from None (places_if (is_wrong_in u.names l) l ++ places_if (clock_in u.names) (targets ++ reads ++ written ++ read))) is_events
    ∙ ap (λ l. least_from None (places_if (is_wrong_event u) (event_names u.processes) ++ places_if (clock_in u.names) (l ++ reads ++ written ++ read))) is_targets
    ∙ ap (λ l. least_from None (places_if (is_wrong_event u) (event_names u.processes) ++ places_if (clock_in u.names) (assign_targets u ++ l ++ written ++ read))) is_reads
    ∙ ap (λ l. least_from None (places_if (is_wrong_event u) (event_names u.processes) ++ places_if (clock_in u.names) (assign_targets u ++ assign_reads u ++ l ++ read))) is_written
    ∙ ap (λ l. least_from None (places_if (is_wrong_event u) (event_names u.processes) ++ places_if (clock_in u.names) (assign_targets u ++ assign_reads u ++ process_targets u ++ l))) is_read

-- the next entry of all
pub next_unassigned : (names : List (List ℕ)) (es : List Entry) (i : ℕ) (e other : Entry) (broken : Bool) (start first more : Option ℕ) → i < length es → e ≡ get_or es i other →
    broken ≡ (is_net e.kind && not (is_among e.name names)) → more ≡ least_from first (place_if broken e.at) → least_from first (never_assigned names (drop i es)) ≡ start → least_from more (never_assigned names (drop (i + 1) es)) ≡ start
next_unassigned names es i e other broken start first more h is test note same =
    round (never_assigned names) (never_assigned names) es i e other (place_if (is_net e.kind && not (is_among e.name names)) e.at) start first more h is refl (note ∙ ap (λ b. least_from first (place_if b e.at)) test) same
