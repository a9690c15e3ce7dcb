-- Where processes are apart, how many steps each takes does not depend on the schedule, so that counting decides which
-- schedules are complete.
use Rattle.std.proofs.Common.{◌≡◌, ◌≢◌, ◌↔◌, ◌+◌, ◌≤◌, ℕ, zero, suc, List, [], ◌∷◌, ◌++◌, length, map, take, drop, Option, Some, None, Bool, refl, sym, ap, ◌∙◌, subst, arith}
use Rattle.std.specs.Prelude.{slice_get, slice_set}
use Rattle.v_meaning.specs.Views.{Store, View, Write, applied}
use Rattle.v_meaning.specs.Acts.{Acts, End, Branch, Blocking, Nonblocking, followed, alone}
use Rattle.v_meaning.specs.Designs.{Design, words_from, cycle_bits, IsSettled, Edge, stored, stepped, view_over, IsAlong, AreEnded, started, IsCycle, HasEnded, IsStuck, IsIncompleteAt}
use Rattle.v_order.specs.Settling.{Settles}
use Rattle.v_order.specs.Stepping.{Stepping, finished, view_by, shown_by, next_by}
use Rattle.v_order.specs.Steady.{AtOnce, AreTo, WritesTo, IsWritten, WritesOnlyIn, IsSteady}
use Rattle.v_order.specs.Apart.{Owners, IsOwn, IsApartIn, AreApartFrom, AreApart}
use Rattle.v_order.specs.Counting.{steps_of, steps_in_order, TakesDown, AreZero, HasNoStep, IsShort, IsCounted, IsShortAt}
use Rattle.v_order.proofs.Settled.{Each}
use Rattle.v_order.proofs.Steps.{agree_self, rest_in, behind_step, now, now_settled, state, IsKept, Moved, moved}
use Rattle.v_order.proofs.AnyOrder.{applied_swap, applied_agrees, finished_past, apart_set, alone_at, IsAlone, all_within, any_order}

-- ---- steps of one process

pub finished_view : (x : Acts) (s : Stepping) → (finished x s).view ≡ alone x s.view
finished_view End s = refl
finished_view (Branch f rest) s = finished_view rest (finished (f s.view) s) ∙ ap (alone rest) (finished_view (f s.view) s)
finished_view (Blocking f rest) s = finished_view rest (record { view = applied s.view (f s.view); queue = s.queue })
finished_view (Nonblocking f rest) s = finished_view rest (record { view = s.view; queue = s.queue ++ f s.view })

steps_followed : (a more : Acts) (v : View) → steps_of (followed a more) v ≡ steps_of a v + steps_of more (alone a v)
steps_followed End more v = omega arith
steps_followed (Branch f rest) more v = omega (arith, steps_followed rest more (alone (f v) v))
steps_followed (Blocking f rest) more v = omega (arith, steps_followed rest more (applied v (f v)))
steps_followed (Nonblocking f rest) more v = omega (arith, steps_followed rest more v)

-- a step is one of them
one_step : (a : Acts) (s : Stepping) (n : ℕ) → steps_of a s.view ≡ suc n → steps_of (rest_in s.view a) (behind_step a s).view ≡ n
one_step End s n is = absurd (omega (arith, is))
one_step (Branch f rest) s n is = omega (arith, is, steps_followed (f s.view) rest s.view)
one_step (Blocking f rest) s n is = omega (arith, is)
one_step (Nonblocking f rest) s n is = omega (arith, is)

no_steps : (a : Acts) (v : View) → steps_of a v ≡ 0 → a ≡ End
no_steps End v is = refl
no_steps (Branch f rest) v is = absurd (omega (arith, is))
no_steps (Blocking f rest) v is = absurd (omega (arith, is))
no_steps (Nonblocking f rest) v is = absurd (omega (arith, is))

-- where there are steps the process may take one
may_step : (a : Acts) (u v : View) (e : Edge) (process n : ℕ) → steps_of a u ≡ suc n → (next : Edge) × (stepped v e process (Some a) ≡ Some next)
may_step End u v e process n is = absurd (omega (arith, is))
may_step (Branch f rest) u v e process n is = (record e { left = slice_set e.left process (followed (f v) rest) }, refl)
may_step (Blocking f rest) u v e process n is = (record e { store = stored e.store (f v); left = slice_set e.left process rest }, refl)
may_step (Nonblocking f rest) u v e process n is = (record e { queue = e.queue ++ f v; left = slice_set e.left process rest }, refl)

-- where it takes one there are steps
did_step : (a : Acts) (u v : View) (e next : Edge) (process : ℕ) → stepped v e process (Some a) ≡ Some next → (n : ℕ) × (steps_of a u ≡ suc n)
did_step End u v e next process is = absurd (cc is)
did_step (Branch f rest) u v e next process is = (steps_of (f u) u + steps_of rest (alone (f u) u), refl)
did_step (Blocking f rest) u v e next process is = (steps_of rest (applied u (f u)), refl)
did_step (Nonblocking f rest) u v e next process is = (steps_of rest u, refl)

-- ---- what another process writes does not change them

module _ (b : AtOnce) (o : Owners) where
  steps_past : (m n : ℕ) → m ≢ n → (writes : List Write) → AreTo (IsWritten b) writes → AreTo (IsOwn o m) writes → (x : Acts) (v : View) → IsApartIn b o n x → steps_of x (applied v writes) ≡ steps_of x v
  steps_past m n apart writes within own End v h = refl
  steps_past m n apart writes within own (Branch f rest) v h =
      let same : f v ≡ f (applied v writes) = h.looks.0 v (applied v writes) (applied_agrees o m n apart b v writes within own) in
      let s : Stepping = record { view = v; queue = [] } in
      let branch : steps_of (f v) (applied v writes) ≡ steps_of (f v) v = steps_past m n apart writes within own (f v) v (record { writes = h.writes.0 v; looks = h.looks.1 v }) in
      let past : alone (f v) (applied v writes) ≡ applied (alone (f v) v) writes =
      sym (finished_view (f v) (record { view = applied v writes; queue = [] }))
      ∙ ap (λ (t : Stepping). t.view) (finished_past b o m n apart writes within own (f v) s (h.writes.0 v) (h.looks.1 v))
      ∙ ap (λ (u : View). applied u writes) (finished_view (f v) s) in
      let later : steps_of rest (applied (alone (f v) v) writes) ≡ steps_of rest (alone (f v) v) = steps_past m n apart writes within own rest (alone (f v) v) (record { writes = h.writes.1; looks = h.looks.2 }) in
      ap (λ (x : Acts). suc (steps_of x (applied v writes) + steps_of rest (alone x (applied v writes)))) (sym same)
      ∙ ap (λ (k : ℕ). suc (k + steps_of rest (alone (f v) (applied v writes)))) branch
      ∙ ap (λ (k : ℕ). suc (steps_of (f v) v + k)) (ap (steps_of rest) past ∙ later)
  steps_past m n apart writes within own (Blocking f rest) v h =
      let same : f v ≡ f (applied v writes) = h.looks.0 v (applied v writes) (applied_agrees o m n apart b v writes within own) in
      ap (λ (l : List Write). suc (steps_of rest (applied (applied v writes) l))) (sym same)
      ∙ ap (λ (u : View). suc (steps_of rest u)) (applied_swap o m n apart v writes (f v) own (h.writes.0 v))
      ∙ ap suc (steps_past m n apart writes within own rest (applied v (f v)) (record { writes = h.writes.1; looks = h.looks.1 }))
  steps_past m n apart writes within own (Nonblocking f rest) v h =
      ap suc (steps_past m n apart writes within own rest v (record { writes = h.writes.1; looks = h.looks.1 }))

  -- nor does all that it does
  steps_alone : (m n : ℕ) → m ≢ n → (y : Acts) (x : Acts) (v : View) → WritesOnlyIn b y → WritesTo (IsOwn o m) (IsOwn o m) y → IsApartIn b o n x → steps_of x (alone y v) ≡ steps_of x v
  steps_alone m n apart End x v within own h = refl
  steps_alone m n apart (Branch f rest) x v within own h =
      steps_alone m n apart rest x (alone (f v) v) within.1 own.1 h ∙ steps_alone m n apart (f v) x v (within.0 v) (own.0 v) h
  steps_alone m n apart (Blocking f rest) x v within own h =
      steps_alone m n apart rest x (applied v (f v)) within.1 own.1 h ∙ steps_past m n apart (f v) (within.0 v) (own.0 v) x v h
  steps_alone m n apart (Nonblocking f rest) x v within own h = steps_alone m n apart rest x v within.1 own.1 h

  -- how many each of them takes in this view
  abbrev steps_in : View → List Acts → List ℕ
  steps_in v left = map (λ x. steps_of x v) left

  later_same : (n m : ℕ) (y : Acts) (v : View) → m ≤ n → (left : List Acts) → WritesOnlyIn b y → WritesTo (IsOwn o m) (IsOwn o m) y → AreApartFrom b o (suc n) left → steps_in (alone y v) left ≡ steps_in v left
  later_same n m y v less [] within own h = refl
  later_same n m y v less (x ∷ left) within own h =
      let apart : m ≢ suc n = λ e. absurd (omega (arith, e, less)) in
      let p : steps_of x (alone y v) ≡ steps_of x v = steps_alone m (suc n) apart y x v within own h.0 in
      let q : steps_in (alone y v) left ≡ steps_in v left = later_same (suc n) m y v (omega (arith, less)) left within own h.1 in
      λ i. p i ∷ q i

  in_order : (n : ℕ) (left : List Acts) (v : View) → Each (WritesOnlyIn b) left → AreApartFrom b o n left → steps_in_order left v ≡ steps_in v left
  in_order n [] v within h = refl
  in_order n (x ∷ left) v within h =
      ap (λ l. steps_of x v ∷ l) (in_order (suc n) left (alone x v) within.1 h.1 ∙ later_same n n x v (omega arith) left within.0 h.0.writes h.1)

  -- ---- a step of one of them

  -- what it writes at once changes the number of no other
  step_same : (m n : ℕ) → m ≢ n → (a x : Acts) (s : Stepping) → IsAlone b o m a → IsApartIn b o n x → steps_of x (behind_step a s).view ≡ steps_of x s.view
  step_same m n apart End x s h k = refl
  step_same m n apart (Branch f rest) x s h k = refl
  step_same m n apart (Blocking f rest) x s h k = steps_past m n apart (f s.view) (h.within.0 s.view) (h.apart.writes.0 s.view) x s.view k
  step_same m n apart (Nonblocking f rest) x s h k = refl

  others_same : (m n : ℕ) (a : Acts) (s : Stepping) → IsAlone b o m a → (left : List Acts) → ((i : ℕ) → n ≤ i → m ≢ i) → AreApartFrom b o n left → steps_in (behind_step a s).view left ≡ steps_in s.view left
  others_same m n a s own [] apart h = refl
  others_same m n a s own (x ∷ left) apart h =
      let p : steps_of x (behind_step a s).view ≡ steps_of x s.view = step_same m n (apart n (omega arith)) a x s own h.0 in
      let q : steps_in (behind_step a s).view left ≡ steps_in s.view left = others_same m (suc n) a s own left (λ i less. apart i (omega (arith, less))) h.1 in
      λ i. p i ∷ q i

  step_takes : (n k : ℕ) (left : List Acts) (i : ℕ) (a : Acts) (s : Stepping) → Each (WritesOnlyIn b) left → AreApartFrom b o n left → slice_get left i ≡ Some a → steps_of a s.view ≡ suc k →
      steps_in (behind_step a s).view (slice_set left i (rest_in s.view a)) ≡ slice_set (steps_in s.view left) i k
  step_takes n k [] i a s within h at is = absurd (cc at)
  step_takes n k (x ∷ left) zero a s within h at is =
      let same : x ≡ a = cc at in
      let own : IsAlone b o n a = subst (IsAlone b o n) same (record { within = within.0; apart = h.0 }) in
      let p : steps_of (rest_in s.view a) (behind_step a s).view ≡ k = one_step a s k is in
      let q : steps_in (behind_step a s).view left ≡ steps_in s.view left = others_same n (suc n) a s own left (λ i less e. absurd (omega (arith, less, e))) h.1 in
      λ i. p i ∷ q i
  step_takes n k (x ∷ left) (suc i) a s within h at is =
      let own : IsAlone b o (i + suc n) a = alone_at b o (suc n) left i a within.1 h.1 at in
      let p : steps_of x (behind_step a s).view ≡ steps_of x s.view = step_same (i + suc n) n (λ e. absurd (omega (arith, e))) a x s own h.0 in
      let q : steps_in (behind_step a s).view (slice_set left i (rest_in s.view a)) ≡ slice_set (steps_in s.view left) i k = step_takes (suc n) k left i a s within.1 h.1 at is in
      λ j. p j ∷ q j

-- ---- schedules

-- the process that has so many steps
counted_at : (v : View) (left : List Acts) (i n : ℕ) → slice_get (map (λ x. steps_of x v) left) i ≡ Some n → (a : Acts) × (slice_get left i ≡ Some a) × (steps_of a v ≡ n)
counted_at v [] i n is = absurd (cc is)
counted_at v (x ∷ left) zero n is = let same : steps_of x v ≡ n = cc is in (x, refl, same)
counted_at v (x ∷ left) (suc i) n is = counted_at v left i n is

zero_ended : (v : View) (left : List Acts) → AreZero (map (λ x. steps_of x v) left) → AreEnded left
zero_ended v [] h = tt
zero_ended v (x ∷ left) h = (no_steps x v h.0, zero_ended v left h.1)

ended_zero : (v : View) (left : List Acts) → AreEnded left → AreZero (map (λ x. steps_of x v) left)
ended_zero v [] h = tt
ended_zero v (x ∷ left) h = (ap (λ (a : Acts). steps_of a v) h.0, ended_zero v left h.1)

none_ended : (v : View) (left : List Acts) (i : ℕ) → HasNoStep (slice_get (map (λ x. steps_of x v) left) i) → HasEnded (slice_get left i)
none_ended v [] i h = tt
none_ended v (End ∷ left) zero h = tt
none_ended v (Branch f rest ∷ left) zero h = absurd h
none_ended v (Blocking f rest ∷ left) zero h = absurd h
none_ended v (Nonblocking f rest ∷ left) zero h = absurd h
none_ended v (x ∷ left) (suc i) h = none_ended v left i h

ended_none : (v : View) (left : List Acts) (i : ℕ) → HasEnded (slice_get left i) → HasNoStep (slice_get (map (λ x. steps_of x v) left) i)
ended_none v [] i h = tt
ended_none v (End ∷ left) zero h = tt
ended_none v (Branch f rest ∷ left) zero h = absurd h
ended_none v (Blocking f rest ∷ left) zero h = absurd h
ended_none v (Nonblocking f rest ∷ left) zero h = absurd h
ended_none v (x ∷ left) (suc i) h = ended_none v left i h

steps_at : (v : View) (left : List Acts) (i : ℕ) (a : Acts) → slice_get left i ≡ Some a → slice_get (map (λ x. steps_of x v) left) i ≡ Some (steps_of a v)
steps_at v [] i a is = absurd (cc is)
steps_at v (x ∷ left) zero a is = let same : x ≡ a = cc is in ap (λ (y : Acts). Some (steps_of y v)) same
steps_at v (x ∷ left) (suc i) a is = steps_at v left i a is

short_stuck : (v : View) (e : Edge) (schedule : List ℕ) → IsShort (map (λ x. steps_of x v) e.left) schedule → IsStuck e schedule
short_stuck v e [] h = λ ended. absurd (h (ended_zero v e.left ended))
short_stuck v e (process ∷ schedule) h = none_ended v e.left process h

stuck_short : (v : View) (e : Edge) (schedule : List ℕ) → IsStuck e schedule → IsShort (map (λ x. steps_of x v) e.left) schedule
stuck_short v e [] h = λ zeros. absurd (h (zero_ended v e.left zeros))
stuck_short v e (process ∷ schedule) h = ended_none v e.left process h

module _ (d : Design) (order : List ℕ) (none : d.combinational ≡ []) (settles : Settles d order) (inputs sites : List ℕ) (b : AtOnce) (o : Owners) (before : Store) where
  abbrev at_edge : Edge → Stepping
  at_edge = state d order none settles inputs sites b before

  abbrev counts : Edge → List ℕ
  counts e = steps_in b o (at_edge e).view e.left

  abbrev Kept : Edge → Type 0
  Kept e = IsKept d order none settles inputs sites b before e × AreApartFrom b o 0 e.left

  -- a step takes one from the number of its process
  record Takes (e next : Edge) (process : ℕ) : Type 0 where
    rest : ℕ
    had : slice_get (counts e) process ≡ Some (suc rest)
    has : counts next ≡ slice_set (counts e) process rest
    kept : Kept next

  takes_by : (o : Option Acts) (e next : Edge) (process : ℕ) (v : View) → slice_get e.left process ≡ o → stepped v e process o ≡ Some next → (a : Acts) × (slice_get e.left process ≡ Some a) × (n : ℕ) × (steps_of a (at_edge e).view ≡ suc n)
  takes_by None e next process v at is = absurd (cc is)
  takes_by (Some a) e next process v at is = let steps = did_step a (at_edge e).view v e next process is in (a, at, steps.0, steps.1)

  takes : (e next : Edge) (process : ℕ) (nets : List ℕ) → Kept e → IsSettled d (view_over inputs sites e.store nets) → stepped (view_over inputs sites e.store nets) e process (slice_get e.left process) ≡ Some next → Takes e next process
  takes e next process nets kept settled is =
      let m : Moved d order none settles inputs sites b before e next process = moved d order none settles inputs sites b before e next process nets kept.0 settled is in
      let at = takes_by (slice_get e.left process) e next process (view_over inputs sites e.store nets) refl is in
      let same : at.0 ≡ m.acts = let both : Some at.0 ≡ Some m.acts = sym at.1 ∙ m.at in cc both in
      let steps : steps_of m.acts (at_edge e).view ≡ suc at.2 = subst (λ (a : Acts). steps_of a (at_edge e).view ≡ suc at.2) same at.3 in
      let behind : List ℕ = steps_in b o (behind_step m.acts (at_edge e)).view (slice_set e.left process (rest_in (at_edge e).view m.acts)) in
      let moves : counts next ≡ behind = λ i. steps_in b o (m.moves.state i).view (m.moves.left i) in
      let taken : behind ≡ slice_set (counts e) process at.2 = step_takes b o 0 at.2 e.left process m.acts (at_edge e) (all_within d order b e.left kept.0.steady) kept.1 m.at steps in
      let had : slice_get (counts e) process ≡ Some (steps_of m.acts (at_edge e).view) = steps_at (at_edge e).view e.left process m.acts m.at in
      record {
        rest = at.2;
        had = subst (λ (n : ℕ). slice_get (counts e) process ≡ Some n) steps had;
        has = moves ∙ taken;
        kept = (m.kept, subst (AreApartFrom b o 0) (sym m.moves.left) (apart_set b o 0 e.left process m.acts (at_edge e).view kept.1 m.at));
      }

  -- the edge goes along the schedule, and has these steps left
  record Goes (e : Edge) (schedule left : List ℕ) : Type 0 where
    last : Edge
    along : IsAlong d inputs sites e schedule last
    counted : counts last ≡ left

  goes : (schedule : List ℕ) (e : Edge) (left : List ℕ) → Kept e → TakesDown (counts e) schedule left → Goes e schedule left
  goes [] e left kept down = record { last = e; along = refl; counted = down }
  goes (process ∷ schedule) e left kept down =
      let nets : List ℕ = (now d order none settles inputs sites e.store).nets in
      let v : View = view_over inputs sites e.store nets in
      let at = counted_at (at_edge e).view e.left process (suc down.0) down.1 in
      let step = may_step at.0 (at_edge e).view v e process down.0 at.2 in
      let next : Edge = step.0 in
      let is : stepped v e process (slice_get e.left process) ≡ Some next = ap (stepped v e process) at.1 ∙ step.1 in
      let settled = now_settled d order none settles inputs sites e.store in
      let t : Takes e next process = takes e next process nets kept settled is in
      let one : t.rest ≡ down.0 = let both : Some (suc t.rest) ≡ Some (suc down.0) = sym t.had ∙ down.1 in cc both in
      let has : counts next ≡ slice_set (counts e) process down.0 = subst (λ (n : ℕ). counts next ≡ slice_set (counts e) process n) one t.has in
      let g : Goes next schedule left = goes schedule next left t.kept (subst (λ (l : List ℕ). TakesDown l schedule left) (sym has) down.2) in
      record { last = g.last; along = (nets, settled, next, is, g.along); counted = g.counted }

  -- and where it goes along the schedule it has these steps left
  gone : (schedule : List ℕ) (e last : Edge) → Kept e → IsAlong d inputs sites e schedule last → TakesDown (counts e) schedule (counts last)
  gone [] e last kept along = ap counts along
  gone (process ∷ schedule) e last kept along =
      let t : Takes e along.2 process = takes e along.2 process along.0 kept along.1 along.3 in
      (t.rest, t.had, subst (λ (l : List ℕ). TakesDown l schedule (counts last)) t.has (gone schedule along.2 last t.kept along.4))

module _ (d : Design) (order : List ℕ) (b : AtOnce) (o : Owners) (before : Store) (inputs : List ℕ) (choice : List Bool) (schedule : List ℕ) (none : d.combinational ≡ []) (settles : Settles d order)
    (steady : IsSteady d order b) (apart : AreApart d b o) where
  abbrev sites : List ℕ
  sites = words_from d.sites choice

  abbrev view : View
  view = view_by d order inputs sites before

  abbrev start : Edge
  start = started d before

  abbrev last_steps : Edge → List ℕ
  last_steps e = counts d order none settles inputs sites b o before e

  kept_start : Kept d order none settles inputs sites b o before start
  kept_start = (record { steady = steady; agree = agree_self b before }, apart)

  same_steps : steps_in_order d.clocked view ≡ last_steps start
  same_steps = in_order b o 0 d.clocked view (all_within d order b d.clocked steady) apart

  from_start : (entries left : List ℕ) → TakesDown (steps_in_order d.clocked view) entries left → Goes d order none settles inputs sites b o before start entries left
  from_start entries left down = goes d order none settles inputs sites b o before entries start left kept_start (subst (λ (l : List ℕ). TakesDown l entries left) same_steps down)

  to_last : (entries : List ℕ) (last : Edge) → IsAlong d inputs sites start entries last → TakesDown (steps_in_order d.clocked view) entries (last_steps last)
  to_last entries last along =
      subst (λ (l : List ℕ). TakesDown l entries (last_steps last)) (sym same_steps) (gone d order none settles inputs sites b o before entries start last kept_start along)

  abbrev edge_view : Edge → View
  edge_view e = (state d order none settles inputs sites b before e).view

  completes : length choice ≡ cycle_bits d → IsCounted (steps_in_order d.clocked view) schedule → IsCycle d before inputs choice schedule (shown_by d order before inputs choice) (next_by d order before inputs choice)
  completes bits counted =
      let g = from_start schedule counted.0 counted.1 in
      let ended : AreEnded g.last.left = zero_ended (edge_view g.last) g.last.left (subst AreZero (sym g.counted) counted.2) in
      let after : Store = stored g.last.store g.last.queue in
      let cycle : IsCycle d before inputs choice schedule (shown_by d order before inputs choice) after =
      record { bits = bits; nets = view.nets; settled = now_settled d order none settles inputs sites before; shows = refl; last = g.last; along = g.along; ended = ended; next = refl } in
      let same = (any_order d order b o before inputs choice none settles steady apart bits).every schedule (shown_by d order before inputs choice) after tt cycle in
      subst (λ (next : Store). IsCycle d before inputs choice schedule (shown_by d order before inputs choice) next) same.1 cycle

  counts_cycle : (shown : List ℕ) (after : Store) → IsCycle d before inputs choice schedule shown after → IsCounted (steps_in_order d.clocked view) schedule
  counts_cycle shown after cycle = (last_steps cycle.last, to_last schedule cycle.last cycle.along, ended_zero (edge_view cycle.last) cycle.last.left cycle.ended)

  pub complete : length choice ≡ cycle_bits d → IsCycle d before inputs choice schedule (shown_by d order before inputs choice) (next_by d order before inputs choice) ↔ IsCounted (steps_in_order d.clocked view) schedule
  complete bits = (counts_cycle (shown_by d order before inputs choice) (next_by d order before inputs choice), completes bits)

  pub incomplete : (index : ℕ) → IsIncompleteAt d before inputs choice schedule index ↔ IsShortAt (steps_in_order d.clocked view) schedule index
  incomplete index = (
    λ short. (short.within, last_steps short.last, to_last (take index schedule) short.last short.along, stuck_short (edge_view short.last) short.last (drop index schedule) short.stuck),
    λ counted.
        let g = from_start (take index schedule) counted.1 counted.2 in
        record {
          within = counted.0;
          last = g.last;
          along = g.along;
          stuck = short_stuck (edge_view g.last) g.last (drop index schedule) (subst (λ (l : List ℕ). IsShort l (drop index schedule)) (sym g.counted) counted.3);
        },
  )
