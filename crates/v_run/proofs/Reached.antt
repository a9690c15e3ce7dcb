-- How far a run has come, one cycle after another, and what it shows when all are run.
use Rattle.std.proofs.Common.{◌≡◌, ◌<◌, ◌≤◌, ◌+◌, ◌++◌, ◌∙◌, ap, sym, subst, refl, arith, ℕ, List, [], ◌∷◌, length, get_or, map, take, drop, Bool, append-nil}
use Rattle.std.proofs.lemmas.List.{drop_more, get_or-map, length-map, map-append, take-append-drop, take-map, take_all, take_more}
use Rattle.lz_base.specs.WordValue.{WordValue}
use Rattle.lz_base.specs.declared.fault.Fault.{Fault}
use Rattle.lz_lines.specs.Fields.{Each}
use Rattle.t_choices.specs.declared.choice_texts.Choices.{Choices}
use Rattle.v_meaning.specs.Designs.{Design, InAnyOrder, IsCycle, Turn, first_store, port_words, word_values}
use Rattle.v_meaning.specs.Views.{Store}
use Rattle.v_run.specs.Runs.{IsHalted, Leads, RunsBy, RunsTo, RunsUnder}
use Rattle.v_run.specs.Turns.{HaltsIn, IsCertain, LeadsSurely, Reaches, Shows}

-- ---- one cycle more

pub reaches_none : (d : Design) (first now : Store) (trace : List (List WordValue)) → trace ≡ [] → now ≡ first → Reaches d first [] [] [] trace now
reaches_none d first now trace none is = record { turns = []; inputs = refl; chosen = refl; ordered = refl; shown = sym none; leads = sym is }

leads_more : (d : Design) (before now after : Store) (turns : List Turn) (t : Turn) → LeadsSurely d before turns now → IsCycle d now t.inputs t.choice t.schedule t.shown after →
    IsCertain d now t.inputs t.choice t.shown after → LeadsSurely d before (turns ++ t ∷ []) after
leads_more d before now after [] t leads cycle certain =
    (after, subst (λ (s : Store). IsCycle d s t.inputs t.choice t.schedule t.shown after) (sym leads) cycle, subst (λ (s : Store). IsCertain d s t.inputs t.choice t.shown after) (sym leads) certain, refl)
leads_more d before now after (u ∷ turns) t leads cycle certain = (leads.0, leads.1, leads.2, leads_more d leads.0 now after turns t leads.3 cycle certain)

reaches_more : (d : Design) (first now after : Store) (choices : List (List Bool)) (schedules : List (List ℕ)) (stimulus trace : List (List WordValue)) (choice : List Bool) (schedule : List ℕ)
    (input words : List WordValue) → Reaches d first choices schedules stimulus trace now → Shows schedule d now input choice words after →
    Reaches d first (choices ++ choice ∷ []) (schedules ++ schedule ∷ []) (stimulus ++ input ∷ []) (trace ++ words ∷ []) after
reaches_more d first now after choices schedules stimulus trace choice schedule input words r s =
    let t : Turn = record { inputs = word_values input; choice = choice; schedule = schedule; shown = s.shown } in
    record {
      turns = r.turns ++ t ∷ [];
      inputs = map-append (λ (u : Turn). u.inputs) r.turns (t ∷ []) ∙ ap (λ (xs : List (List ℕ)). xs ++ word_values input ∷ []) r.inputs ∙ sym (map-append word_values stimulus (input ∷ []));
      chosen = map-append (λ (u : Turn). u.choice) r.turns (t ∷ []) ∙ ap (λ (xs : List (List Bool)). xs ++ choice ∷ []) r.chosen;
      ordered = map-append (λ (u : Turn). u.schedule) r.turns (t ∷ []) ∙ ap (λ (xs : List (List ℕ)). xs ++ schedule ∷ []) r.ordered;
      shown = map-append (λ (u : Turn). port_words d.outputs u.shown) r.turns (t ∷ []) ∙ (λ j. r.shown j ++ sym s.words_are j ∷ []);
      leads = leads_more d first now after r.turns t r.leads s.cycle s.certain;
    }

-- the cycle of an index, under some schedule
pub reaches_next : (d : Design) (first now after : Store) (choices : List (List Bool)) (schedules : List (List ℕ)) (stimulus trace pushed : List (List WordValue)) (i : ℕ) (schedule : List ℕ)
    (words : List WordValue) → i < length stimulus → length choices ≡ length stimulus → pushed ≡ trace ++ words ∷ [] → Reaches d first (take i choices) schedules (take i stimulus) trace now →
    Shows schedule d now (get_or stimulus i []) (get_or choices i []) words after → Reaches d first (take (i + 1) choices) (schedules ++ schedule ∷ []) (take (i + 1) stimulus) pushed after
reaches_next d first now after choices schedules stimulus trace pushed i schedule words within many push r s =
    let cs : take (i + 1) choices ≡ take i choices ++ get_or choices i [] ∷ [] = take_more choices i [] (omega arith) in
    let is : take (i + 1) stimulus ≡ take i stimulus ++ get_or stimulus i [] ∷ [] = take_more stimulus i [] within in
    rw (cs, is, push) (reaches_more d first now after (take i choices) schedules (take i stimulus) trace (get_or choices i []) schedule (get_or stimulus i []) words r s)

-- the same under the schedule of that index
pub reaches_next_by : (d : Design) (first now after : Store) (choices : List (List Bool)) (schedules : List (List ℕ)) (stimulus trace pushed : List (List WordValue)) (i : ℕ) (words : List WordValue) →
    i < length stimulus → length choices ≡ length stimulus → length schedules ≡ length stimulus → pushed ≡ trace ++ words ∷ [] →
    Reaches d first (take i choices) (take i schedules) (take i stimulus) trace now → Shows (get_or schedules i []) d now (get_or stimulus i []) (get_or choices i []) words after →
    Reaches d first (take (i + 1) choices) (take (i + 1) schedules) (take (i + 1) stimulus) pushed after
reaches_next_by d first now after choices schedules stimulus trace pushed i words within many ordered push r s =
    let ss : take (i + 1) schedules ≡ take i schedules ++ get_or schedules i [] ∷ [] = take_more schedules i [] (omega arith) in
    rw ss (reaches_next d first now after choices (take i schedules) stimulus trace pushed i (get_or schedules i []) words within many push r s)

-- one schedule more of a kind
pub each_more : {X : Type 0} (Has : X → Type 0) (xs : List X) (x : X) → Each Has xs → Has x → Each Has (xs ++ x ∷ [])
each_more Has [] x h one = (one, tt)
each_more Has (y ∷ ys) x h one = (h.0, each_more Has ys x h.1 one)

-- ---- other runs over the same inputs and choices

same_cycle : (d : Design) (before after : Store) (inputs given : List ℕ) (choice taken : List Bool) (schedule ordered shown : List ℕ) → inputs ≡ given → choice ≡ taken → schedule ≡ ordered →
    IsCycle d before inputs choice schedule shown after → IsCycle d before given taken ordered shown after
same_cycle d before after inputs given choice taken schedule ordered shown a b c cycle = rw (← a, ← b, ← c) cycle

-- Another run shows the same in the cycles of this one, and goes on from where this one has come.
sure_on : (d : Design) (before now last : Store) (turns others more : List Turn) → LeadsSurely d before turns now →
    map (λ (t : Turn). t.inputs) others ≡ map (λ (t : Turn). t.inputs) turns → map (λ (t : Turn). t.choice) others ≡ map (λ (t : Turn). t.choice) turns → Leads d before (others ++ more) last →
    (map (λ (t : Turn). port_words d.outputs t.shown) others ≡ map (λ (t : Turn). port_words d.outputs t.shown) turns) × Leads d now more last
sure_on d before now last [] [] more sure inputs chosen leads = (refl, subst (λ (s : Store). Leads d s more last) sure leads)
sure_on d before now last [] (o ∷ others) more sure inputs chosen leads = absurd (cc inputs)
sure_on d before now last (t ∷ turns) [] more sure inputs chosen leads = absurd (cc inputs)
sure_on d before now last (t ∷ turns) (o ∷ others) more sure inputs chosen leads =
    let input : o.inputs ≡ t.inputs = cc inputs in
    let choice : o.choice ≡ t.choice = cc chosen in
    let cycle : IsCycle d before t.inputs t.choice o.schedule o.shown leads.0 = same_cycle d before leads.0 o.inputs t.inputs o.choice t.choice o.schedule o.schedule o.shown input choice refl leads.1 in
    let same = sure.2 o.schedule o.shown leads.0 cycle in
    let left = sure_on d sure.0 now last turns others more sure.3 (cc inputs) (cc chosen) (subst (λ (s : Store). Leads d s (others ++ more) last) same.1 leads.2) in
    let shown : map (λ (u : Turn). port_words d.outputs u.shown) (o ∷ others) ≡ map (λ (u : Turn). port_words d.outputs u.shown) (t ∷ turns) = λ j. port_words d.outputs (same.0 j) ∷ left.0 j in
    (shown, left.1)

leads_of : (d : Design) (before now : Store) (turns : List Turn) → LeadsSurely d before turns now → Leads d before turns now
leads_of d before now [] sure = sure
leads_of d before now (t ∷ turns) sure = (sure.0, sure.1, leads_of d sure.0 now turns sure.3)

pub runs_of : (d : Design) (first now : Store) (choices : List (List Bool)) (schedules : List (List ℕ)) (stimulus trace : List (List WordValue)) → Reaches d first choices schedules stimulus trace now →
    RunsTo d first choices schedules stimulus trace now
runs_of d first now choices schedules stimulus trace r =
    record { turns = r.turns; inputs = r.inputs; chosen = r.chosen; ordered = r.ordered; shown = r.shown; leads = leads_of d first now r.turns r.leads }

shown_once : (d : Design) (first now last : Store) (choices : List (List Bool)) (schedules ordered : List (List ℕ)) (stimulus trace other : List (List WordValue)) →
    Reaches d first choices schedules stimulus trace now → RunsTo d first choices ordered stimulus other last → other ≡ trace
shown_once d first now last choices schedules ordered stimulus trace other r o =
    let same = sure_on d first now last r.turns o.turns [] r.leads (o.inputs ∙ sym r.inputs) (o.chosen ∙ sym r.chosen) (rw append-nil o.leads) in
    sym o.shown ∙ same.0 ∙ r.shown

reaches_all : (d : Design) (first now : Store) (choices : List (List Bool)) (schedules : List (List ℕ)) (stimulus trace : List (List WordValue)) (i : ℕ) → length stimulus ≤ i →
    length choices ≡ length stimulus → Reaches d first (take i choices) schedules (take i stimulus) trace now → Reaches d first choices schedules stimulus trace now
reaches_all d first now choices schedules stimulus trace i past many r =
    let cs : take i choices ≡ choices = take_all i choices (omega arith) in
    let is : take i stimulus ≡ stimulus = take_all i stimulus past in
    rw (← cs, ← is) r

-- A run that has come to its end under allowed schedules is one, and every other one shows the same.
pub runs_under : (Allowed : List ℕ → Type 0) (d : Design) (choices : Choices) (schedules : List (List ℕ)) (stimulus trace : List (List WordValue)) (now : Store) (i : ℕ) → length stimulus ≤ i →
    length choices.cycles ≡ length stimulus → Each Allowed schedules →
    Reaches d (first_store d.firsts choices.first) (take i choices.cycles) schedules (take i stimulus) trace now → RunsUnder Allowed d choices stimulus trace
runs_under Allowed d choices schedules stimulus trace now i past many allowed before =
    let r = reaches_all d (first_store d.firsts choices.first) now choices.cycles schedules stimulus trace i past many before in
    record {
      some = (schedules, allowed, (now, runs_of d (first_store d.firsts choices.first) now choices.cycles schedules stimulus trace r));
      every = λ ordered other _ run. shown_once d (first_store d.firsts choices.first) now run.0 choices.cycles schedules ordered stimulus trace other r run.1;
    }

-- the same under given schedules
pub runs_by : (d : Design) (choices : Choices) (schedules : List (List ℕ)) (stimulus trace : List (List WordValue)) (now : Store) (i : ℕ) → length stimulus ≤ i → length choices.cycles ≡ length stimulus →
    length schedules ≡ length stimulus → Reaches d (first_store d.firsts choices.first) (take i choices.cycles) (take i schedules) (take i stimulus) trace now → RunsBy schedules d choices stimulus trace
runs_by d choices schedules stimulus trace now i past many ordered before =
    let ss : take i schedules ≡ schedules = take_all i schedules (omega arith) in
    let r = reaches_all d (first_store d.firsts choices.first) now choices.cycles schedules stimulus trace i past many (rw ss at before) in
    (now, runs_of d (first_store d.firsts choices.first) now choices.cycles schedules stimulus trace r)

pub each_in_any_order : (schedules : List (List ℕ)) → Each InAnyOrder schedules
each_in_any_order [] = tt
each_in_any_order (s ∷ schedules) = (tt, each_in_any_order schedules)

-- ---- a schedule that is not complete

pub is_halted : (d : Design) (now : Store) (choices : Choices) (schedules : List (List ℕ)) (stimulus trace : List (List WordValue)) (i : ℕ) (fault : Fault) → i < length stimulus →
    Reaches d (first_store d.firsts choices.first) (take i choices.cycles) (take i schedules) (take i stimulus) trace now →
    HaltsIn schedules d now (get_or stimulus i []) (get_or choices.cycles i []) i fault → IsHalted schedules d choices stimulus fault
is_halted d now choices schedules stimulus trace i fault within r h = record {
  cycle = i;
  index = h.index;
  halts = record {
    within = within;
    shown = trace;
    last = now;
    runs = runs_of d (first_store d.firsts choices.first) now (take i choices.cycles) (take i schedules) (take i stimulus) trace r;
    incomplete = h.incomplete;
  };
  fault_is = h.fault_is;
}

no_turn : Turn
no_turn = record { inputs = []; choice = []; schedule = []; shown = [] }

-- no run is there then
pub none_runs : (d : Design) (now : Store) (choices : Choices) (schedules : List (List ℕ)) (stimulus trace other : List (List WordValue)) (i : ℕ) (fault : Fault) → i < length stimulus →
    Reaches d (first_store d.firsts choices.first) (take i choices.cycles) (take i schedules) (take i stimulus) trace now →
    HaltsIn schedules d now (get_or stimulus i []) (get_or choices.cycles i []) i fault → RunsBy schedules d choices stimulus other → ⊥
none_runs d now choices schedules stimulus trace other i fault within r h run =
    let o = run.1 in
    let first = first_store d.firsts choices.first in
    let t : Turn = get_or o.turns i no_turn in
    let many : length o.turns ≡ length stimulus = sym (length-map o.turns (λ (u : Turn). u.inputs)) ∙ ap length o.inputs ∙ length-map stimulus word_values in
    let front_inputs : map (λ (u : Turn). u.inputs) (take i o.turns) ≡ map (λ (u : Turn). u.inputs) r.turns =
    sym (take-map (λ (u : Turn). u.inputs) i o.turns) ∙ ap (take i) o.inputs ∙ take-map word_values i stimulus ∙ sym r.inputs in
    let front_chosen : map (λ (u : Turn). u.choice) (take i o.turns) ≡ map (λ (u : Turn). u.choice) r.turns = sym (take-map (λ (u : Turn). u.choice) i o.turns) ∙ ap (take i) o.chosen ∙ sym r.chosen in
    let whole : Leads d first (take i o.turns ++ drop i o.turns) run.0 = rw take-append-drop o.leads in
    let on = sure_on d first now run.0 r.turns (take i o.turns) (drop i o.turns) r.leads front_inputs front_chosen whole in
    let split : drop i o.turns ≡ t ∷ drop (i + 1) o.turns = drop_more o.turns i no_turn (omega arith) in
    let next : Leads d now (t ∷ drop (i + 1) o.turns) run.0 = rw split at on.1 in
    let inputs : t.inputs ≡ word_values (get_or stimulus i []) =
    sym (get_or-map (λ (u : Turn). u.inputs) o.turns i no_turn [] (omega arith)) ∙ ap (λ (xs : List (List ℕ)). get_or xs i []) o.inputs ∙ get_or-map word_values stimulus i [] [] within in
    let taken : t.choice ≡ get_or choices.cycles i [] = sym (get_or-map (λ (u : Turn). u.choice) o.turns i no_turn [] (omega arith)) ∙ ap (λ (xs : List (List Bool)). get_or xs i []) o.chosen in
    let ordered : t.schedule ≡ get_or schedules i [] = sym (get_or-map (λ (u : Turn). u.schedule) o.turns i no_turn [] (omega arith)) ∙ ap (λ (xs : List (List ℕ)). get_or xs i []) o.ordered in
    h.refused t.shown next.0 (same_cycle d now next.0 t.inputs (word_values (get_or stimulus i [])) t.choice (get_or choices.cycles i []) t.schedule (get_or schedules i []) t.shown inputs taken ordered next.1)
