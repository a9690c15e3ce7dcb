-- What a step of a process does in a steady design, where the nets are looked at as they were before the edge.
use Rattle.std.proofs.Common.{◌≡◌, ◌≢◌, ℕ, zero, suc, List, [], ◌∷◌, ◌++◌, get_or, true, false, Option, Some, None, refl, sym, ap, ◌∙◌, subst}
use Rattle.std.specs.Prelude.{slice_get, slice_set, slice_index}
use Rattle.v_meaning.specs.Views.{Store, View, no_view, Place, Net, Variable, Word, Write, with_bits, changed_at, written_at, applied}
use Rattle.v_meaning.specs.Acts.{Acts, End, Branch, Blocking, Nonblocking, followed}
use Rattle.v_meaning.specs.Designs.{Design, IsSettled, Edge, stored, stepped, view_over, AreEnded}
use Rattle.v_depends.specs.Nodes.{is_in}
use Rattle.v_order.specs.Settling.{AgreeOn, Settles}
use Rattle.v_order.specs.Stepping.{Stepping, finished, all_finished, view_by}
use Rattle.v_order.specs.Steady.{AtOnce, is_written, AreTo, WritesTo, IsWritten, IsAny, AgreeBut, SettleAlike, IsSteadyIn, AreSteadyIn}
use Rattle.v_order.proofs.Settled.{settled, alone}
use Rattle.v_order.proofs.ActFrames.{respects_followed}

-- ---- lists

pub changed_other : {A : Type 0} (f : A → A) (xs : List A) (i j : ℕ) (d : A) → j ≢ i → get_or (changed_at f xs i) j d ≡ get_or xs j d
changed_other f [] i j d apart = refl
changed_other f (x ∷ xs) zero zero d apart = absurd (apart refl)
changed_other f (x ∷ xs) zero (suc j) d apart = refl
changed_other f (x ∷ xs) (suc i) zero d apart = refl
changed_other f (x ∷ xs) (suc i) (suc j) d apart = changed_other f xs i j d (λ same. apart (ap suc same))

-- ---- writes

-- what becomes of the store depends on the store alone
written_store : (place : Place) (f : ℕ → ℕ) (v w : View) → v.store ≡ w.store → (written_at place f v).store ≡ (written_at place f w).store
written_store (Net k) f v w same = same
written_store (Variable k) f v w same = ap (λ (s : Store). (written_at (Variable k) f (record no_view { store = s })).store) same
written_store (Word k i) f v w same = ap (λ (s : Store). (written_at (Word k i) f (record no_view { store = s })).store) same

applied_store : (v w : View) (writes : List Write) → v.store ≡ w.store → (applied v writes).store ≡ (applied w writes).store
applied_store v w [] same = same
applied_store v w (x ∷ writes) same =
    let f : ℕ → ℕ = with_bits x.low x.width x.value in
    applied_store (written_at x.place f v) (written_at x.place f w) writes (written_store x.place f v w same)

pub agree_self : (b : AtOnce) (s : Store) → AgreeBut b s s
agree_self b s = record { variables = λ k out. refl; memories = λ k out. refl }

agree_more : (b : AtOnce) (s t u : Store) → AgreeBut b s t → AgreeBut b t u → AgreeBut b s u
agree_more b s t u p q = record { variables = λ k out. p.variables k out ∙ q.variables k out; memories = λ k out. p.memories k out ∙ q.memories k out }

module _ (b : AtOnce) where
  apart_from : (ks : List ℕ) (k n : ℕ) → is_in k ks ≡ true → is_in n ks ≡ false → n ≢ k
  apart_from ks k n there out same = absurd (cc (ap (λ i. is_in i ks) same, there, out))

  -- a write within these changes nothing of a view but the store
  pub written_else : (place : Place) (f : ℕ → ℕ) (v : View) → is_written b place ≡ true → written_at place f v ≡ record v { store = (written_at place f v).store }
  written_else (Net k) f v h = absurd (cc h)
  written_else (Variable k) f v h = refl
  written_else (Word k i) f v h = refl

  written_agree : (place : Place) (f : ℕ → ℕ) (v : View) → is_written b place ≡ true → AgreeBut b v.store (written_at place f v).store
  written_agree (Net k) f v h = absurd (cc h)
  written_agree (Variable k) f v h = record {
    variables = λ n out. sym (changed_other f v.store.variables k n 0 (apart_from b.variables k n h out));
    memories = λ n out. refl;
  }
  written_agree (Word k i) f v h = record {
    variables = λ n out. refl;
    memories = λ n out. sym (changed_other (λ words. changed_at f words i) v.store.memories k n [] (apart_from b.memories k n h out));
  }

  applied_else : (v : View) (writes : List Write) → AreTo (IsWritten b) writes → applied v writes ≡ record v { store = (applied v writes).store }
  applied_else v [] h = refl
  applied_else v (x ∷ writes) h =
      let w : View = written_at x.place (with_bits x.low x.width x.value) v in
      applied_else w writes h.1 ∙ ap (λ (u : View). record u { store = (applied w writes).store }) (written_else x.place (with_bits x.low x.width x.value) v h.0)

  applied_agree : (v : View) (writes : List Write) → AreTo (IsWritten b) writes → AgreeBut b v.store (applied v writes).store
  applied_agree v [] h = agree_self b v.store
  applied_agree v (x ∷ writes) h =
      let w : View = written_at x.place (with_bits x.low x.width x.value) v in
      agree_more b v.store w.store (applied w writes).store (written_agree x.place (with_bits x.low x.width x.value) v h.0) (applied_agree w writes h.1)

-- ---- acts

pub finished_followed : (a more : Acts) (s : Stepping) → finished (followed a more) s ≡ finished more (finished a s)
finished_followed End more s = refl
finished_followed (Branch f rest) more s = finished_followed rest more (finished (f s.view) s)
finished_followed (Blocking f rest) more s = finished_followed rest more (record { view = applied s.view (f s.view); queue = s.queue })
finished_followed (Nonblocking f rest) more s = finished_followed rest more (record { view = s.view; queue = s.queue ++ f s.view })

pub writes_followed : (IsNow IsLater : Place → Type 0) (a more : Acts) → WritesTo IsNow IsLater a → WritesTo IsNow IsLater more → WritesTo IsNow IsLater (followed a more)
writes_followed IsNow IsLater End more h k = k
writes_followed IsNow IsLater (Branch f rest) more h k = (h.0, writes_followed IsNow IsLater rest more h.1 k)
writes_followed IsNow IsLater (Blocking f rest) more h k = (h.0, writes_followed IsNow IsLater rest more h.1 k)
writes_followed IsNow IsLater (Nonblocking f rest) more h k = (h.0, writes_followed IsNow IsLater rest more h.1 k)

-- what is left to do behind a step in this view
abbrev pub rest_in : View → Acts → Acts
rest_in v End = End
rest_in v (Branch f rest) = followed (f v) rest
rest_in v (Blocking f rest) = rest
rest_in v (Nonblocking f rest) = rest

-- what a step makes of the view and the queue
abbrev pub behind_step : Acts → Stepping → Stepping
behind_step End s = s
behind_step (Branch f rest) s = s
behind_step (Blocking f rest) s = record { view = applied s.view (f s.view); queue = s.queue }
behind_step (Nonblocking f rest) s = record { view = s.view; queue = s.queue ++ f s.view }

pub finished_step : (a : Acts) (s : Stepping) → finished (rest_in s.view a) (behind_step a s) ≡ finished a s
finished_step End s = refl
finished_step (Branch f rest) s = finished_followed (f s.view) rest s
finished_step (Blocking f rest) s = refl
finished_step (Nonblocking f rest) s = refl

-- ---- processes that are at their ends

pub ended_at : (left : List Acts) (k : ℕ) (a : Acts) → AreEnded left → slice_get left k ≡ Some a → a ≡ End
ended_at [] k a h is = absurd (cc is)
ended_at (x ∷ left) zero a h is = let same : x ≡ a = cc is in sym same ∙ h.0
ended_at (x ∷ left) (suc k) a h is = ended_at left k a h.1 is

pub all_ended : (left : List Acts) (s : Stepping) → AreEnded left → all_finished left s ≡ s
all_ended [] s h = refl
all_ended (a ∷ left) s h = ap (λ (x : Acts). all_finished left (finished x s)) h.0 ∙ all_ended left s h.1

-- ---- steps

module _ (d : Design) (order : List ℕ) (none : d.combinational ≡ []) (settles : Settles d order) (inputs sites : List ℕ) where
  abbrev pub now : Store → View
  now store = view_by d order inputs sites store

  pub now_settled : (store : Store) → IsSettled d (now store)
  now_settled store = settled d order (view_over inputs sites store []) none settles

  pub now_alone : (store : Store) (nets : List ℕ) → IsSettled d (view_over inputs sites store nets) → nets ≡ (now store).nets
  now_alone store nets h = alone d order (view_over inputs sites store []) nets settles h

  module _ (b : AtOnce) (before : Store) where
    -- what processes look at where the nets are as they were before the edge
    abbrev pub as_before : Store → View
    as_before store = view_over inputs sites store (now before).nets

    abbrev pub state : Edge → Stepping
    state e = record { view = as_before e.store; queue = e.queue }

    -- the edge differs in what may be written at once from the store before, and its processes are steady
    pub record IsKept (e : Edge) : Type 0 where
      pub steady : AreSteadyIn d order b e.left
      pub agree : AgreeBut b before e.store

    -- The next edge is what a step of the process makes of the view and the queue, and stays so.
    pub record Moves (e next : Edge) (process : ℕ) (a : Acts) : Type 0 where
      pub left : next.left ≡ slice_set e.left process (rest_in (as_before e.store) a)
      pub state : state next ≡ behind_step a (state e)
      pub steady : IsSteadyIn d order b (rest_in (as_before e.store) a)
      pub agree : AgreeBut b before next.store

    agrees : (nets others : List ℕ) (store : Store) → SettleAlike d order b nets → AgreeBut b before store → others ≡ (now store).nets → AgreeOn nets (view_over inputs sites store others) (as_before store)
    agrees nets others store alike agree is = record {
      inputs = refl;
      store = refl;
      sites = refl;
      words = λ net there. ap (λ (l : List ℕ). slice_index l net) is ∙ sym (alike inputs sites before store agree net there);
    }

    -- writes at once are those that the process makes over the nets before
    stored_before : (store : Store) (writes : List Write) → AreTo (IsWritten b) writes → as_before (stored store writes) ≡ applied (as_before store) writes
    stored_before store writes h =
        ap as_before (applied_store (record no_view { store = store }) (as_before store) writes refl) ∙ sym (applied_else b (as_before store) writes h)

    moves : (e next : Edge) (process : ℕ) (nets : List ℕ) (a : Acts) → nets ≡ (now e.store).nets → AgreeBut b before e.store → IsSteadyIn d order b a →
        stepped (view_over inputs sites e.store nets) e process (Some a) ≡ Some next → Moves e next process a
    moves e next process nets End is agree steady step = absurd (cc step)
    moves e next process nets (Branch f rest) is agree steady step =
        let v : View = view_over inputs sites e.store nets in
        let u : View = as_before e.store in
        let made : Edge = record e { left = slice_set e.left process (followed (f v) rest) } in
        let same : made ≡ next = cc step in
        subst (λ (x : Edge). Moves e x process (Branch f rest)) same (record {
          left = ap (λ (x : Acts). slice_set e.left process (followed x rest)) (steady.looks.0 v u (agrees steady.nets nets e.store steady.alike agree is));
          state = refl;
          steady = record {
            writes = writes_followed (IsWritten b) IsAny (f u) rest (steady.writes.0 u) steady.writes.1;
            nets = steady.nets;
            looks = respects_followed (AgreeOn steady.nets) (f u) rest (steady.looks.1 u) steady.looks.2;
            alike = steady.alike;
          };
          agree = agree;
        })
    moves e next process nets (Blocking f rest) is agree steady step =
        let v : View = view_over inputs sites e.store nets in
        let made : Edge = record e { store = stored e.store (f v); left = slice_set e.left process rest } in
        let same : made ≡ next = cc step in
        subst (λ (x : Edge). Moves e x process (Blocking f rest)) same (record {
          left = refl;
          state =
              ap (λ (x : View). record { view = x; queue = e.queue })
              (stored_before e.store (f v) (steady.writes.0 v)
              ∙ ap (applied (as_before e.store)) (steady.looks.0 v (as_before e.store) (agrees steady.nets nets e.store steady.alike agree is)));
          steady = record { writes = steady.writes.1; nets = steady.nets; looks = steady.looks.1; alike = steady.alike };
          agree = agree_more b before e.store (stored e.store (f v)) agree (applied_agree b (record no_view { store = e.store }) (f v) (steady.writes.0 v));
        })
    moves e next process nets (Nonblocking f rest) is agree steady step =
        let v : View = view_over inputs sites e.store nets in
        let made : Edge = record e { queue = e.queue ++ f v; left = slice_set e.left process rest } in
        let same : made ≡ next = cc step in
        subst (λ (x : Edge). Moves e x process (Nonblocking f rest)) same (record {
          left = refl;
          state =
              ap (λ (x : List Write). record { view = as_before e.store; queue = e.queue ++ x })
              (steady.looks.0 v (as_before e.store) (agrees steady.nets nets e.store steady.alike agree is));
          steady = record { writes = steady.writes.1; nets = steady.nets; looks = steady.looks.1; alike = steady.alike };
          agree = agree;
        })

    steady_at : (left : List Acts) (process : ℕ) (a : Acts) → AreSteadyIn d order b left → slice_get left process ≡ Some a → IsSteadyIn d order b a
    steady_at [] process a h is = absurd (cc is)
    steady_at (x ∷ left) zero a h is = let same : x ≡ a = cc is in subst (IsSteadyIn d order b) same h.0
    steady_at (x ∷ left) (suc process) a h is = steady_at left process a h.1 is

    steady_set : (left : List Acts) (process : ℕ) (a : Acts) → AreSteadyIn d order b left → IsSteadyIn d order b a → AreSteadyIn d order b (slice_set left process a)
    steady_set [] process a h k = tt
    steady_set (x ∷ left) zero a h k = (k, h.1)
    steady_set (x ∷ left) (suc process) a h k = (h.0, steady_set left process a h.1 k)

    -- behind a step, by which process it is
    pub record Moved (e next : Edge) (process : ℕ) : Type 0 where
      pub acts : Acts
      pub at : slice_get e.left process ≡ Some acts
      pub moves : Moves e next process acts
      pub kept : IsKept next

    moved_by : (o : Option Acts) (e next : Edge) (process : ℕ) (nets : List ℕ) → slice_get e.left process ≡ o → nets ≡ (now e.store).nets → IsKept e →
        stepped (view_over inputs sites e.store nets) e process o ≡ Some next → Moved e next process
    moved_by None e next process nets at is kept step = absurd (cc step)
    moved_by (Some a) e next process nets at is kept step =
        let m : Moves e next process a = moves e next process nets a is kept.agree (steady_at e.left process a kept.steady at) step in
        record {
          acts = a;
          at = at;
          moves = m;
          kept = record { steady = subst (AreSteadyIn d order b) (sym m.left) (steady_set e.left process (rest_in (as_before e.store) a) kept.steady m.steady); agree = m.agree };
        }

    pub moved : (e next : Edge) (process : ℕ) (nets : List ℕ) → IsKept e → IsSettled d (view_over inputs sites e.store nets) →
        stepped (view_over inputs sites e.store nets) e process (slice_get e.left process) ≡ Some next → Moved e next process
    moved e next process nets kept settled step = moved_by (slice_get e.left process) e next process nets refl (now_alone e.store nets settled) kept step
