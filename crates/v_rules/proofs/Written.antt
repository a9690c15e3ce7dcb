-- The rounds over processes and writes for the rules of one writing process and of one kind of assignment.
use Rattle.std.proofs.Common.{◌≡◌, ◌<◌, ◌≤◌, ◌+◌, ℕ, List, [], ◌∷◌, ◌++◌, map, flat_map, length, drop, get_or, if◌then◌else◌, Bool, true, false, not, Option, None, Some, Bor, refl, sym, ap, ◌∙◌, subst}
use Rattle.std.specs.Prelude.{◌||◌, bytes_eq}
use Rattle.std.specs.BTreeSet.{BTreeSet}
use Rattle.std.proofs.lemmas.Slice.Eq.{bytes_eq-Decides}
use Rattle.std.proofs.lemmas.Simd.{map-map}
use Rattle.lz_base.specs.Met.{Met}
use Rattle.lz_base.specs.Names.{is_among}
use Rattle.v_syntax.specs.declared.token.Ident.{Ident}
use Rattle.v_syntax.specs.declared.stmt.AssignKind.{AssignKind}
use Rattle.v_syntax.specs.declared.stmt.AssignKind.TheVariants as a
use Rattle.v_meaning.specs.Uses as m
use Rattle.v_meaning.specs.MarkRules.{place_if}
use Rattle.v_meaning.specs.ProcessRules.{Written, ident_names, places_if, written_names, writes_of_process, written_again, is_blocking, differ, first_kind, mixed_kinds, assigned_again}
use Rattle.v_scope.specs.Firsts.{least_from}
use Rattle.v_uses.specs.Seen.{Seen, process_seen, seen_of}
use Rattle.v_uses.specs.declared.gathered.Write.{Write}
use Rattle.v_uses.specs.declared.gathered.ProcessUses.{ProcessUses}
use Rattle.v_uses.specs.declared.gathered.Uses.{Uses}
use Rattle.v_uses.specs.Gathered.{written_in, process_in, uses_in}
use Rattle.v_rules.specs.Groups.{idents_in, targets_in, written_by, again_at, again_from, kind_among, kind_by, FirstKinds}
use Rattle.v_rules.proofs.Rounds.{round, ended}
use Rattle.v_rules.proofs.Sets.{among_push, met_before, tested}

-- ---- one process writes each name

pub again_is : (before : List (List ℕ)) (ps : List m.ProcessUse) → again_from before (map process_seen ps) ≡ written_again before ps
again_is before [] = refl
again_is before (p ∷ ps) =
    ap (λ ns. again_at before (process_seen p) ++ again_from (before ++ ns) (map process_seen ps)) (map-map (λ (n : Ident). n.name) (λ (w : Written). w.name) (writes_of_process p))
    ∙ ap (λ l. again_at before (process_seen p) ++ l) (again_is (before ++ written_names p) ps)

pub record AgainGoes (ps : List ProcessUses) (i : ℕ) (met : BTreeSet (Bor (List ℕ))) (first : Option ℕ) : Type 0 where
  pub before : List (List ℕ)
  pub met_them : Met met before
  pub least : least_from first (again_from before (map process_in (drop i ps))) ≡ least_from None (again_from [] (map process_in ps))

pub again_begins : (ps : List ProcessUses) (met : BTreeSet (Bor (List ℕ))) → Met met [] → AgainGoes ps 0 met None
again_begins ps met none = record { before = []; met_them = none; least = refl }

pub again_next : (ps : List ProcessUses) (i : ℕ) (p other : ProcessUses) (met after : BTreeSet (Bor (List ℕ))) (first more : Option ℕ) → i < length ps → p ≡ get_or ps i other →
    ((before : List (List ℕ)) → Met met before → (more ≡ least_from first (again_at before (process_in p))) × Met after (before ++ written_by (process_in p))) → AgainGoes ps i met first → AgainGoes ps (i + 1) after more
again_next ps i p other met after first more h is step g = record {
  before = g.before ++ written_by (process_in p);
  met_them = (step g.before g.met_them).1;
  least = round (λ qs. again_from g.before (map process_in qs)) (λ qs. again_from (g.before ++ written_by (process_in p)) (map process_in qs)) ps i p other (again_at g.before (process_in p)) _ first more h is refl ((step g.before g.met_them).0) g.least;
}

pub again_ends : (uses : Uses) (u : m.Uses) (ps : List ProcessUses) (i : ℕ) (met : BTreeSet (Bor (List ℕ))) (first : Option ℕ) → ps ≡ uses.processes → length ps ≤ i → AgainGoes ps i met first → uses_in uses ≡ seen_of u →
    first ≡ least_from None (written_again [] u.processes)
again_ends uses u ps i met first sliced h g seen =
    ended (λ qs. again_from g.before (map process_in qs)) ps i _ first h refl g.least
    ∙ ap (λ qs. least_from None (again_from [] (map process_in qs))) sliced
    ∙ ap (λ (s : Seen). least_from None (again_from [] s.processes)) seen
    ∙ ap (least_from None) (again_is [] u.processes)

-- ---- one kind of assignment writes each name

abbrev or_kind : Option AssignKind → AssignKind → AssignKind
or_kind None kind = kind
or_kind (Some first) kind = first

first_kind_is : (ws : List Written) (w : Written) → first_kind ws w ≡ or_kind (kind_among ws w.name.name) w.kind
first_kind_is [] w = refl
first_kind_is (y ∷ ws) w = one (bytes_eq y.name.name w.name.name) (first_kind_is ws w)
  where
    one : (same : Bool) → first_kind ws w ≡ or_kind (kind_among ws w.name.name) w.kind → (if same then y.kind else first_kind ws w) ≡ or_kind (if same then Some y.kind else kind_among ws w.name.name) w.kind
    one true rest = refl
    one false rest = rest

abbrev later : Option AssignKind → Option AssignKind → Option AssignKind
later None more = more
later (Some first) more = Some first

kind_more : (ws : List Written) (w : Written) (name : List ℕ) → kind_among (ws ++ w ∷ []) name ≡ later (kind_among ws name) (if bytes_eq w.name.name name then Some w.kind else None)
kind_more [] w name = refl
kind_more (y ∷ ws) w name = one (bytes_eq y.name.name name) (kind_more ws w name)
  where
    one : (same : Bool) → kind_among (ws ++ w ∷ []) name ≡ later (kind_among ws name) (if bytes_eq w.name.name name then Some w.kind else None) →
        (if same then Some y.kind else kind_among (ws ++ w ∷ []) name) ≡ later (if same then Some y.kind else kind_among ws name) (if bytes_eq w.name.name name then Some w.kind else None)
    one true rest = refl
    one false rest = rest

later_none : (kind : Option AssignKind) → later kind None ≡ kind
later_none None = refl
later_none (Some first) = refl

-- a name that was written before has the kind that it had
kept : (ws : List Written) (w : Written) (first : AssignKind) (name : List ℕ) → kind_among ws w.name.name ≡ Some first → kind_among (ws ++ w ∷ []) name ≡ kind_among ws name
kept ws w first name is = kind_more ws w name ∙ one (bytes_eq w.name.name name) (λ same. sym (ap (kind_among ws) ((bytes_eq-Decides w.name.name name).0 same)) ∙ is)
  where
    one : (same : Bool) → (same ≡ true → kind_among ws name ≡ Some first) → later (kind_among ws name) (if same then Some w.kind else None) ≡ kind_among ws name
    one true has = ap (λ k. later k (Some w.kind)) (has refl) ∙ sym (has refl)
    one false has = later_none (kind_among ws name)

differ_blocking : (kind : AssignKind) → differ a.Blocking kind ≡ not (is_blocking kind)
differ_blocking a.Blocking = refl
differ_blocking a.Nonblocking = refl

differ_nonblocking : (kind : AssignKind) → differ a.Nonblocking kind ≡ is_blocking kind
differ_nonblocking a.Blocking = refl
differ_nonblocking a.Nonblocking = refl

differ_same : (kind : AssignKind) → differ kind kind ≡ false
differ_same a.Blocking = refl
differ_same a.Nonblocking = refl

kind_is : (kind : AssignKind) → kind ≡ (if is_blocking kind then a.Blocking else a.Nonblocking)
kind_is a.Blocking = refl
kind_is a.Nonblocking = refl

-- the place of this write, and the kinds with it
abbrev pub NotesKind : Option ℕ → Option ℕ → BTreeSet (Bor (List ℕ)) → BTreeSet (Bor (List ℕ)) → List Written → Written → Type 0
NotesKind first more blocking nonblocking before w =
    (more ≡ least_from first (place_if (differ (first_kind before w) w.kind) w.name.at)) × FirstKinds blocking nonblocking (before ++ w ∷ [])

place_is : (first more : Option ℕ) (before : List Written) (w : Written) (kind : AssignKind) (broken : Bool) → kind_among before w.name.name ≡ Some kind → broken ≡ differ kind w.kind → more ≡ least_from first (place_if broken w.name.at) →
    more ≡ least_from first (place_if (differ (first_kind before w) w.kind) w.name.at)
place_is first more before w kind broken has is note =
    note ∙ ap (λ b. least_from first (place_if b w.name.at)) is
    ∙ ap (λ k. least_from first (place_if (differ k w.kind) w.name.at)) (sym (first_kind_is before w ∙ ap (λ k. or_kind k w.kind) has))

known_kind : (blocking nonblocking : BTreeSet (Bor (List ℕ))) (before : List Written) (w : Written) (kind : AssignKind) → kind_among before w.name.name ≡ Some kind → FirstKinds blocking nonblocking before → FirstKinds blocking nonblocking (before ++ w ∷ [])
known_kind blocking nonblocking before w kind has f = record {
  firsts = f.firsts;
  others = f.others;
  met_firsts = f.met_firsts;
  met_others = f.met_others;
  kinds = λ name. kept before w kind name has ∙ f.kinds name;
}

-- its name was first written by a blocking assignment
pub known_blocking : (blocking nonblocking : BTreeSet (Bor (List ℕ))) (before : List Written) (w : Written) (key : List ℕ) (found is : Bool) (first more : Option ℕ) → key ≡ w.name.name →
    ((names : List (List ℕ)) → Met blocking names → found ≡ is_among key names) → found ≡ true → is ≡ is_blocking w.kind → more ≡ least_from first (place_if (not is) w.name.at) → FirstKinds blocking nonblocking before →
    NotesKind first more blocking nonblocking before w
known_blocking blocking nonblocking before w key found is first more name met t kind note f =
    let has : kind_among before w.name.name ≡ Some a.Blocking = f.kinds w.name.name ∙ ap (λ b. kind_by b (is_among w.name.name f.others)) (sym (tested key w.name.name found f.firsts name (met f.firsts f.met_firsts)) ∙ t) in
    (place_is first more before w a.Blocking (not is) has (ap not kind ∙ sym (differ_blocking w.kind)) note, known_kind blocking nonblocking before w a.Blocking has f)

-- or by a nonblocking one
pub known_nonblocking : (blocking nonblocking : BTreeSet (Bor (List ℕ))) (before : List Written) (w : Written) (key : List ℕ) (unfound found is : Bool) (first more : Option ℕ) → key ≡ w.name.name →
    ((names : List (List ℕ)) → Met blocking names → unfound ≡ is_among key names) → unfound ≡ false → ((names : List (List ℕ)) → Met nonblocking names → found ≡ is_among key names) → found ≡ true →
    is ≡ is_blocking w.kind → more ≡ least_from first (place_if is w.name.at) → FirstKinds blocking nonblocking before → NotesKind first more blocking nonblocking before w
known_nonblocking blocking nonblocking before w key unfound found is first more name unmet n met t kind note f =
    let has : kind_among before w.name.name ≡ Some a.Nonblocking =
    f.kinds w.name.name ∙ ap (λ b. kind_by b (is_among w.name.name f.others)) (sym (tested key w.name.name unfound f.firsts name (unmet f.firsts f.met_firsts)) ∙ n)
    ∙ ap (kind_by false) (sym (tested key w.name.name found f.others name (met f.others f.met_others)) ∙ t)
    in
    (place_is first more before w a.Nonblocking is has (kind ∙ sym (differ_nonblocking w.kind)) note, known_kind blocking nonblocking before w a.Nonblocking has f)

-- or by none before
new_place : (first : Option ℕ) (before : List Written) (w : Written) → kind_among before w.name.name ≡ None → first ≡ least_from first (place_if (differ (first_kind before w) w.kind) w.name.at)
new_place first before w none =
    sym (ap (λ k. least_from first (place_if (differ k w.kind) w.name.at)) (first_kind_is before w ∙ ap (λ k. or_kind k w.kind) none) ∙ ap (λ b. least_from first (place_if b w.name.at)) (differ_same w.kind))

unknown : (blocking nonblocking : BTreeSet (Bor (List ℕ))) (before : List Written) (name : List ℕ) (f : FirstKinds blocking nonblocking before) → is_among name f.firsts ≡ false → is_among name f.others ≡ false → kind_among before name ≡ None
unknown blocking nonblocking before name f n o = f.kinds name ∙ ap (λ b. kind_by b (is_among name f.others)) n ∙ ap (kind_by false) o

-- the kinds with a new name, which is among the first or the others by its own kind
new_kind : (before : List Written) (w : Written) (firsts others : List (List ℕ)) (name : List ℕ) → kind_among before w.name.name ≡ None → (w.name.name ≡ name → kind_by (is_among name firsts) (is_among name others) ≡ Some w.kind) →
    (bytes_eq w.name.name name ≡ false → kind_by (is_among name firsts) (is_among name others) ≡ kind_among before name) → kind_among (before ++ w ∷ []) name ≡ kind_by (is_among name firsts) (is_among name others)
new_kind before w firsts others name none own other = kind_more before w name ∙ one (bytes_eq w.name.name name) (λ t. (bytes_eq-Decides w.name.name name).0 t) other
  where
    one : (same : Bool) → (same ≡ true → w.name.name ≡ name) → (same ≡ false → kind_by (is_among name firsts) (is_among name others) ≡ kind_among before name) →
        later (kind_among before name) (if same then Some w.kind else None) ≡ kind_by (is_among name firsts) (is_among name others)
    one true is differs = ap (λ k. later k (Some w.kind)) (sym (ap (kind_among before) (is refl)) ∙ none) ∙ sym (own (is refl))
    one false is differs = later_none (kind_among before name) ∙ sym (differs refl)

pub new_blocking : (blocking nonblocking after : BTreeSet (Bor (List ℕ))) (before : List Written) (w : Written) (key : List ℕ) (unfound none is added : Bool) (first : Option ℕ) → key ≡ w.name.name →
    ((names : List (List ℕ)) → Met blocking names → unfound ≡ is_among key names) → unfound ≡ false → ((names : List (List ℕ)) → Met nonblocking names → none ≡ is_among key names) → none ≡ false →
    is ≡ is_blocking w.kind → is ≡ true → ((names : List (List ℕ)) → Met blocking names → (added ≡ not (is_among key names)) × Met after (names ++ key ∷ [])) → FirstKinds blocking nonblocking before →
    NotesKind first first after nonblocking before w
new_blocking blocking nonblocking after before w key unfound none is added first same unmet n unmet_too o kind t meets f =
    let own_name = w.name.name in
    let unfirst : is_among own_name f.firsts ≡ false = sym (tested key own_name unfound f.firsts same (unmet f.firsts f.met_firsts)) ∙ n in
    let unother : is_among own_name f.others ≡ false = sym (tested key own_name none f.others same (unmet_too f.others f.met_others)) ∙ o in
    let missing : kind_among before own_name ≡ None = unknown blocking nonblocking before own_name f unfirst unother in
    let own : a.Blocking ≡ w.kind = sym (kind_is w.kind ∙ ap (λ b. if b then a.Blocking else a.Nonblocking) (sym kind ∙ t)) in (
      new_place first before w missing,
      record {
        firsts = f.firsts ++ own_name ∷ [];
        others = f.others;
        met_firsts = subst (λ k. Met after (f.firsts ++ k ∷ [])) same ((meets f.firsts f.met_firsts).1);
        met_others = f.met_others;
        kinds = λ name. new_kind before w (f.firsts ++ own_name ∷ []) f.others name missing
            (λ equal. ap (λ b. kind_by b (is_among name f.others)) (among_push name own_name f.firsts ∙ ap (λ b. b || is_among name f.firsts) ((bytes_eq-Decides own_name name).1 equal)) ∙ ap Some own)
            (λ apart. ap (λ b. kind_by b (is_among name f.others)) (among_push name own_name f.firsts ∙ ap (λ b. b || is_among name f.firsts) apart) ∙ sym (f.kinds name));
      },
    )

pub new_nonblocking : (blocking nonblocking after : BTreeSet (Bor (List ℕ))) (before : List Written) (w : Written) (key : List ℕ) (unfound none is added : Bool) (first : Option ℕ) → key ≡ w.name.name →
    ((names : List (List ℕ)) → Met blocking names → unfound ≡ is_among key names) → unfound ≡ false → ((names : List (List ℕ)) → Met nonblocking names → none ≡ is_among key names) → none ≡ false →
    is ≡ is_blocking w.kind → is ≡ false → ((names : List (List ℕ)) → Met nonblocking names → (added ≡ not (is_among key names)) × Met after (names ++ key ∷ [])) → FirstKinds blocking nonblocking before →
    NotesKind first first blocking after before w
new_nonblocking blocking nonblocking after before w key unfound none is added first same unmet n unmet_too o kind t meets f =
    let own_name = w.name.name in
    let unfirst : is_among own_name f.firsts ≡ false = sym (tested key own_name unfound f.firsts same (unmet f.firsts f.met_firsts)) ∙ n in
    let unother : is_among own_name f.others ≡ false = sym (tested key own_name none f.others same (unmet_too f.others f.met_others)) ∙ o in
    let missing : kind_among before own_name ≡ None = unknown blocking nonblocking before own_name f unfirst unother in
    let own : a.Nonblocking ≡ w.kind = sym (kind_is w.kind ∙ ap (λ b. if b then a.Blocking else a.Nonblocking) (sym kind ∙ t)) in (
      new_place first before w missing,
      record {
        firsts = f.firsts;
        others = f.others ++ own_name ∷ [];
        met_firsts = f.met_firsts;
        met_others = subst (λ k. Met after (f.others ++ k ∷ [])) same ((meets f.others f.met_others).1);
        kinds = λ name. new_kind before w f.firsts (f.others ++ own_name ∷ []) name missing
            (λ equal. ap (λ b. kind_by b (is_among name (f.others ++ own_name ∷ []))) (sym (ap (λ n. is_among n f.firsts) equal) ∙ unfirst)
            ∙ ap (kind_by false) (among_push name own_name f.others ∙ ap (λ b. b || is_among name f.others) ((bytes_eq-Decides own_name name).1 equal)) ∙ ap Some own)
            (λ apart. ap (kind_by (is_among name f.firsts)) (among_push name own_name f.others ∙ ap (λ b. b || is_among name f.others) apart) ∙ sym (f.kinds name));
      },
    )

pub record MixedGoes (ws : List Write) (i : ℕ) (blocking nonblocking : BTreeSet (Bor (List ℕ))) (first : Option ℕ) : Type 0 where
  pub before : List Written
  pub kinds : FirstKinds blocking nonblocking before
  pub least : least_from first (mixed_kinds before (map written_in (drop i ws))) ≡ least_from None (mixed_kinds [] (map written_in ws))

pub mixed_begins : (ws : List Write) (blocking nonblocking : BTreeSet (Bor (List ℕ))) → Met blocking [] → Met nonblocking [] → MixedGoes ws 0 blocking nonblocking None
mixed_begins ws blocking nonblocking b n = record {
  before = [];
  kinds = record { firsts = []; others = []; met_firsts = b; met_others = n; kinds = λ name. refl };
  least = refl;
}

pub mixed_next : (ws : List Write) (i : ℕ) (w other : Write) (blocking nonblocking blocking' nonblocking' : BTreeSet (Bor (List ℕ))) (first more : Option ℕ) → i < length ws → w ≡ get_or ws i other →
    ((before : List Written) → FirstKinds blocking nonblocking before → NotesKind first more blocking' nonblocking' before (written_in w)) → MixedGoes ws i blocking nonblocking first → MixedGoes ws (i + 1) blocking' nonblocking' more
mixed_next ws i w other blocking nonblocking blocking' nonblocking' first more h is step g = record {
  before = g.before ++ written_in w ∷ [];
  kinds = (step g.before g.kinds).1;
  least = round (λ vs. mixed_kinds g.before (map written_in vs)) (λ vs. mixed_kinds (g.before ++ written_in w ∷ []) (map written_in vs)) ws i w other _ _ first more h is refl ((step g.before g.kinds).0) g.least;
}

pub mixed_ends : (u : m.Uses) (ws : List Write) (i : ℕ) (blocking nonblocking : BTreeSet (Bor (List ℕ))) (first : Option ℕ) → length ws ≤ i → MixedGoes ws i blocking nonblocking first →
    map written_in ws ≡ flat_map writes_of_process u.processes → first ≡ least_from None (mixed_kinds [] (flat_map writes_of_process u.processes))
mixed_ends u ws i blocking nonblocking first h g are =
    ended (λ vs. mixed_kinds g.before (map written_in vs)) ws i _ first h refl g.least ∙ ap (λ vs. least_from None (mixed_kinds [] vs)) are

-- ---- one assign writes each net

pub record AssignedGoes (ns : List (Bor Ident)) (i : ℕ) (met : BTreeSet (Bor (List ℕ))) (first : Option ℕ) : Type 0 where
  pub before : List (List ℕ)
  pub met_them : Met met before
  pub least : least_from first (assigned_again before (idents_in (drop i ns))) ≡ least_from None (assigned_again [] (idents_in ns))

pub assigned_begins : (ns : List (Bor Ident)) (met : BTreeSet (Bor (List ℕ))) → Met met [] → AssignedGoes ns 0 met None
assigned_begins ns met none = record { before = []; met_them = none; least = refl }

not_not : (b : Bool) → not (not b) ≡ b
not_not true = refl
not_not false = refl

pub assigned_next : (ns : List (Bor Ident)) (i : ℕ) (n other : Bor Ident) (key : List ℕ) (met after : BTreeSet (Bor (List ℕ))) (added : Bool) (first more : Option ℕ) → i < length ns → n ≡ get_or ns i other → key ≡ n.now.name →
    ((names : List (List ℕ)) → Met met names → (added ≡ not (is_among key names)) × Met after (names ++ key ∷ [])) → more ≡ least_from first (place_if (not added) n.now.at) →
    AssignedGoes ns i met first → AssignedGoes ns (i + 1) after more
assigned_next ns i n other key met after added first more h is name meets note g = record {
  before = n.now.name ∷ g.before;
  met_them = met_before after g.before n.now.name (subst (λ k. Met after (g.before ++ k ∷ [])) name ((meets g.before g.met_them).1));
  least = round (λ ms. assigned_again g.before (idents_in ms)) (λ ms. assigned_again (n.now.name ∷ g.before) (idents_in ms)) ns i n other (place_if (is_among n.now.name g.before) n.now.at) _ first more h is refl
      (note ∙ ap (λ b. least_from first (place_if b n.now.at)) (ap not ((meets g.before g.met_them).0 ∙ ap (λ k. not (is_among k g.before)) name) ∙ not_not (is_among n.now.name g.before))) g.least;
}

pub assigned_ends : (ns : List (Bor Ident)) (i : ℕ) (met : BTreeSet (Bor (List ℕ))) (first : Option ℕ) → length ns ≤ i → AssignedGoes ns i met first → first ≡ least_from None (assigned_again [] (idents_in ns))
assigned_ends ns i met first h g = ended (λ ms. assigned_again g.before (idents_in ms)) ns i _ first h refl g.least

pub again_step : (before : List (List ℕ)) (p : ProcessUses) (ws : List Write) (ns judged met_too : List (Bor Ident)) (met : BTreeSet (Bor (List ℕ))) (first more : Option ℕ) → ws ≡ p.writes → idents_in ns ≡ targets_in (map written_in ws) → judged ≡ ns → met_too ≡ ns →
    more ≡ least_from first (places_if (λ name. is_among name before) (idents_in judged)) → Met met (before ++ ident_names (idents_in met_too)) → (more ≡ least_from first (again_at before (process_in p))) × Met met (before ++ written_by (process_in p))
again_step before p ws ns judged met_too met first more sliced are one two least m =
    let is : idents_in ns ≡ targets_in (map written_in p.writes) = are ∙ ap (λ l. targets_in (map written_in l)) sliced in
    (least ∙ ap (λ l. least_from first (places_if (λ name. is_among name before) l)) (ap idents_in one ∙ is), subst (λ l. Met met (before ++ ident_names l)) (ap idents_in two ∙ is) m)
