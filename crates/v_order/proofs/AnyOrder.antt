-- Where processes are apart, steps of two of them change places, so that every schedule does what text order does.
use Rattle.std.proofs.Common.{◌≡◌, ◌≢◌, ◌⊎◌, ◌+◌, ℕ, zero, suc, List, [], ◌∷◌, ◌++◌, length, Some, refl, sym, ap, ◌∙◌, subst, inl, inr, arith}
use Rattle.std.specs.Prelude.{slice_get, slice_set, Bool, true, false}
use Rattle.v_meaning.specs.Views.{Store, View, no_view, Place, Net, Variable, Word, Write, with_bits, changed_at, written_at, applied}
use Rattle.v_meaning.specs.Acts.{Acts, End, Branch, Blocking, Nonblocking, followed}
use Rattle.v_meaning.specs.Designs.{Design, words_from, cycle_bits, Edge, stored, view_over, IsAlong, AreEnded, started, InAnyOrder, IsOutcome}
use Rattle.v_depends.specs.Nodes.{is_in}
use Rattle.v_order.specs.Settling.{Settles, ActsRespect}
use Rattle.v_order.specs.Stepping.{Stepping, finished, all_finished, shown_by, next_of, next_by}
use Rattle.v_order.specs.Steady.{AtOnce, is_written, AreTo, WritesTo, IsWritten, WritesOnlyIn, AreSteadyIn, IsSteady}
use Rattle.v_order.specs.Apart.{Owners, IsOwn, AgreeFor, IsApartIn, AreApartFrom, AreApart}
use Rattle.v_order.proofs.Settled.{Each}
use Rattle.v_order.proofs.ActFrames.{respects_followed}
use Rattle.v_order.proofs.Steps.{changed_other, writes_followed, agree_self, rest_in, behind_step, finished_step, all_ended, now_alone, state, IsKept, Moved, moved}
use Rattle.v_order.proofs.TextOrder.{text_order}

-- ---- writes to different variables and memories

changed_swap : {A : Type 0} (f g : A → A) (xs : List A) (i j : ℕ) → i ≢ j → changed_at g (changed_at f xs i) j ≡ changed_at f (changed_at g xs j) i
changed_swap f g [] i j apart = refl
changed_swap f g (x ∷ xs) zero zero apart = absurd (apart refl)
changed_swap f g (x ∷ xs) zero (suc j) apart = refl
changed_swap f g (x ∷ xs) (suc i) zero apart = refl
changed_swap f g (x ∷ xs) (suc i) (suc j) apart = ap (λ l. x ∷ l) (changed_swap f g xs i j (λ same. apart (ap suc same)))

module _ (o : Owners) (m n : ℕ) (apart : m ≢ n) where
  -- what belongs to one process does not belong to the other
  not_both : (owner : ℕ → ℕ) (i j : ℕ) → owner i ≡ m → owner j ≡ n → i ≢ j
  not_both owner i j p q same = absurd (apart (sym p ∙ ap owner same ∙ q))

  written_swap : (p q : Place) (f g : ℕ → ℕ) (v : View) → IsOwn o m p → IsOwn o n q → written_at q g (written_at p f v) ≡ written_at p f (written_at q g v)
  written_swap (Net i) q f g v h k = absurd h
  written_swap (Variable i) (Net j) f g v h k = absurd k
  written_swap (Variable i) (Variable j) f g v h k =
      ap (λ (words : List ℕ). record v { store = record { variables = words; memories = v.store.memories } }) (changed_swap f g v.store.variables i j (not_both o.variable i j h k))
  written_swap (Variable i) (Word j a) f g v h k = refl
  written_swap (Word i a) (Net j) f g v h k = absurd k
  written_swap (Word i a) (Variable j) f g v h k = refl
  written_swap (Word i a) (Word j c) f g v h k =
      ap (λ (memories : List (List ℕ)). record v { store = record { variables = v.store.variables; memories = memories } })
      (changed_swap (λ words. changed_at f words a) (λ words. changed_at g words c) v.store.memories i j (not_both o.memory i j h k))

  one_swaps : (p : Place) (f : ℕ → ℕ) (v : View) (writes : List Write) → IsOwn o m p → AreTo (IsOwn o n) writes → applied (written_at p f v) writes ≡ written_at p f (applied v writes)
  one_swaps p f v [] h k = refl
  one_swaps p f v (w ∷ writes) h k =
      let g : ℕ → ℕ = with_bits w.low w.width w.value in
      ap (λ (u : View). applied u writes) (written_swap p w.place f g v h k.0) ∙ one_swaps p f (written_at w.place g v) writes h k.1

  pub applied_swap : (v : View) (first second : List Write) → AreTo (IsOwn o m) first → AreTo (IsOwn o n) second → applied (applied v first) second ≡ applied (applied v second) first
  applied_swap v [] second h k = refl
  applied_swap v (w ∷ first) second h k =
      let f : ℕ → ℕ = with_bits w.low w.width w.value in
      applied_swap (written_at w.place f v) first second h.1 k ∙ ap (λ (u : View). applied u first) (one_swaps w.place f v second h.0 k)

  -- ---- what one process writes at once the other does not look at

  agree_here : (b : AtOnce) (v : View) → AgreeFor b o n v v
  agree_here b v = record { inputs = refl; nets = refl; sites = refl; variables = λ k seen. refl; memories = λ k seen. refl }

  agree_on : (b : AtOnce) (u v w : View) → AgreeFor b o n u v → AgreeFor b o n v w → AgreeFor b o n u w
  agree_on b u v w p q = record {
    inputs = p.inputs ∙ q.inputs;
    nets = p.nets ∙ q.nets;
    sites = p.sites ∙ q.sites;
    variables = λ k seen. p.variables k seen ∙ q.variables k seen;
    memories = λ k seen. p.memories k seen ∙ q.memories k seen;
  }

  not_seen : (owner : ℕ → ℕ) (ks : List ℕ) (i k : ℕ) → is_in i ks ≡ true → owner i ≡ m → (is_in k ks ≡ false) ⊎ (owner k ≡ n) → k ≢ i
  not_seen owner ks i k there own (inl out) same = absurd (cc (ap (λ j. is_in j ks) same, there, out))
  not_seen owner ks i k there own (inr other) same = absurd (apart (sym own ∙ ap owner (sym same) ∙ other))

  written_agrees : (b : AtOnce) (p : Place) (f : ℕ → ℕ) (v : View) → is_written b p ≡ true → IsOwn o m p → AgreeFor b o n v (written_at p f v)
  written_agrees b (Net i) f v there own = absurd own
  written_agrees b (Variable i) f v there own = record {
    inputs = refl;
    nets = refl;
    sites = refl;
    variables = λ k seen. sym (changed_other f v.store.variables i k 0 (not_seen o.variable b.variables i k there own seen));
    memories = λ k seen. refl;
  }
  written_agrees b (Word i a) f v there own = record {
    inputs = refl;
    nets = refl;
    sites = refl;
    variables = λ k seen. refl;
    memories = λ k seen. sym (changed_other (λ words. changed_at f words a) v.store.memories i k [] (not_seen o.memory b.memories i k there own seen));
  }

  pub applied_agrees : (b : AtOnce) (v : View) (writes : List Write) → AreTo (IsWritten b) writes → AreTo (IsOwn o m) writes → AgreeFor b o n v (applied v writes)
  applied_agrees b v [] within own = agree_here b v
  applied_agrees b v (w ∷ writes) within own =
      let u : View = written_at w.place (with_bits w.low w.width w.value) v in
      agree_on b v u (applied u writes) (written_agrees b w.place (with_bits w.low w.width w.value) v within.0 own.0) (applied_agrees b u writes within.1 own.1)

  -- nor what it leaves in the end
  finished_agrees : (b : AtOnce) (x : Acts) (s : Stepping) → WritesOnlyIn b x → WritesTo (IsOwn o m) (IsOwn o m) x → AgreeFor b o n s.view (finished x s).view
  finished_agrees b End s within own = agree_here b s.view
  finished_agrees b (Branch f rest) s within own =
      let t : Stepping = finished (f s.view) s in
      agree_on b s.view t.view (finished rest t).view (finished_agrees b (f s.view) s (within.0 s.view) (own.0 s.view)) (finished_agrees b rest t within.1 own.1)
  finished_agrees b (Blocking f rest) s within own =
      let t : Stepping = record { view = applied s.view (f s.view); queue = s.queue } in
      agree_on b s.view t.view (finished rest t).view (applied_agrees b s.view (f s.view) (within.0 s.view) (own.0 s.view)) (finished_agrees b rest t within.1 own.1)
  finished_agrees b (Nonblocking f rest) s within own = finished_agrees b rest (record { view = s.view; queue = s.queue ++ f s.view }) within.1 own.1

applied_more : (v : View) (xs ys : List Write) → applied v (xs ++ ys) ≡ applied (applied v xs) ys
applied_more v [] ys = refl
applied_more v (x ∷ xs) ys = applied_more (written_at x.place (with_bits x.low x.width x.value) v) xs ys

-- ---- writes of one process, and all steps of another

abbrev with_writes : List Write → Stepping → Stepping
with_writes writes s = record { view = applied s.view writes; queue = s.queue }

-- Writes at once may be done before or behind.
pub finished_past : (b : AtOnce) (o : Owners) (m n : ℕ) → m ≢ n → (writes : List Write) → AreTo (IsWritten b) writes → AreTo (IsOwn o m) writes → (x : Acts) (s : Stepping) → WritesTo (IsOwn o n) (IsOwn o n) x → ActsRespect (AgreeFor b o n) x →
    finished x (with_writes writes s) ≡ with_writes writes (finished x s)
finished_past b o m n apart writes within own End s h looks = refl
finished_past b o m n apart writes within own (Branch f rest) s h looks =
    let same : f s.view ≡ f (applied s.view writes) = looks.0 s.view (applied s.view writes) (applied_agrees o m n apart b s.view writes within own) in
    ap (λ (x : Acts). finished rest (finished x (with_writes writes s))) (sym same)
    ∙ ap (finished rest) (finished_past b o m n apart writes within own (f s.view) s (h.0 s.view) (looks.1 s.view))
    ∙ finished_past b o m n apart writes within own rest (finished (f s.view) s) h.1 looks.2
finished_past b o m n apart writes within own (Blocking f rest) s h looks =
    let same : f s.view ≡ f (applied s.view writes) = looks.0 s.view (applied s.view writes) (applied_agrees o m n apart b s.view writes within own) in
    ap (λ (l : List Write). finished rest (record { view = applied (applied s.view writes) l; queue = s.queue })) (sym same)
    ∙ ap (λ (v : View). finished rest (record { view = v; queue = s.queue })) (applied_swap o m n apart s.view writes (f s.view) own (h.0 s.view))
    ∙ finished_past b o m n apart writes within own rest (record { view = applied s.view (f s.view); queue = s.queue }) h.1 looks.1
finished_past b o m n apart writes within own (Nonblocking f rest) s h looks =
    let same : f s.view ≡ f (applied s.view writes) = looks.0 s.view (applied s.view writes) (applied_agrees o m n apart b s.view writes within own) in
    ap (λ (l : List Write). finished rest (record { view = applied s.view writes; queue = s.queue ++ l })) (sym same)
    ∙ finished_past b o m n apart writes within own rest (record { view = s.view; queue = s.queue ++ f s.view }) h.1 looks.1

-- The same view, and a queue that does what the other one does and then these writes.
record Behind (writes : List Write) (s t : Stepping) : Type 0 where
  view : s.view ≡ t.view
  queue : (u : View) → applied u s.queue ≡ applied (applied u t.queue) writes

-- So are nonblocking writes, where they change places with those of the process.
finished_behind : (o : Owners) (n : ℕ) (writes : List Write) → ((u : View) (others : List Write) → AreTo (IsOwn o n) others → applied (applied u writes) others ≡ applied (applied u others) writes) →
    (x : Acts) (s t : Stepping) → WritesTo (IsOwn o n) (IsOwn o n) x → Behind writes s t → Behind writes (finished x s) (finished x t)
finished_behind o n writes swap End s t h near = near
finished_behind o n writes swap (Branch f rest) s t h near =
    let one : Behind writes (finished (f t.view) s) (finished (f t.view) t) = finished_behind o n writes swap (f t.view) s t (h.0 t.view) near in
    finished_behind o n writes swap rest (finished (f s.view) s) (finished (f t.view) t) h.1
    (subst (λ (v : View). Behind writes (finished (f v) s) (finished (f t.view) t)) (sym near.view) one)
finished_behind o n writes swap (Blocking f rest) s t h near =
    finished_behind o n writes swap rest (record { view = applied s.view (f s.view); queue = s.queue }) (record { view = applied t.view (f t.view); queue = t.queue }) h.1
    (record { view = ap (λ (v : View). applied v (f v)) near.view; queue = near.queue })
finished_behind o n writes swap (Nonblocking f rest) s t h near =
    finished_behind o n writes swap rest (record { view = s.view; queue = s.queue ++ f s.view }) (record { view = t.view; queue = t.queue ++ f t.view }) h.1
    (record {
      view = near.view;
      queue = λ u.
          ap (λ (v : View). applied u (s.queue ++ f v)) near.view
          ∙ applied_more u s.queue (f t.view)
          ∙ ap (λ (v : View). applied v (f t.view)) (near.queue u)
          ∙ swap (applied u t.queue) (f t.view) (h.0 t.view)
          ∙ ap (λ (v : View). applied v writes) (sym (applied_more u t.queue (f t.view)));
    })

-- the same view, and a queue that does the same
abbrev Same : Stepping → Stepping → Type 0
Same s t = Behind [] s t

same_here : (s t : Stepping) → s ≡ t → Same s t
same_here s t is = record { view = ap (λ (x : Stepping). x.view) is; queue = λ u. ap (λ (x : Stepping). applied u x.queue) is }

same_more : (s t u : Stepping) → Same s t → Same t u → Same s u
same_more s t u p q = record { view = p.view ∙ q.view; queue = λ v. p.queue v ∙ q.queue v }

same_next : (s t : Stepping) → Same s t → next_of s ≡ next_of t
same_next s t h = ap (λ (v : View). stored v.store s.queue) h.view ∙ ap (λ (v : View). v.store) (h.queue (record no_view { store = t.view.store }))

-- ---- a process may take a step first

-- what is known of a process
pub record IsAlone (b : AtOnce) (o : Owners) (process : ℕ) (acts : Acts) : Type 0 where
  pub within : WritesOnlyIn b acts
  pub apart : IsApartIn b o process acts

module _ (b : AtOnce) (o : Owners) where
  all_same : (n : ℕ) (left : List Acts) (s t : Stepping) → AreApartFrom b o n left → Same s t → Same (all_finished left s) (all_finished left t)
  all_same n [] s t h same = same
  all_same n (x ∷ left) s t h same = all_same (suc n) left (finished x s) (finished x t) h.1 (finished_behind o n [] (λ u others own. refl) x s t h.0.writes same)

  pub alone_at : (n : ℕ) (left : List Acts) (i : ℕ) (a : Acts) → Each (WritesOnlyIn b) left → AreApartFrom b o n left → slice_get left i ≡ Some a → IsAlone b o (i + n) a
  alone_at n [] i a within h is = absurd (cc is)
  alone_at n (x ∷ left) zero a within h is =
      let same : x ≡ a = cc is in
      let number : n ≡ zero + n = omega arith in
      subst (λ k. IsAlone b o k a) number (subst (IsAlone b o n) same (record { within = within.0; apart = h.0 }))
  alone_at n (x ∷ left) (suc i) a within h is =
      let number : i + suc n ≡ suc i + n = omega arith in
      subst (λ k. IsAlone b o k a) number (alone_at (suc n) left i a within.1 h.1 is)

  -- past all steps of one process
  step_past : (m n : ℕ) (a x : Acts) (s : Stepping) → m ≢ n → IsAlone b o m a → IsAlone b o n x → Same (finished x (behind_step a s)) (behind_step a (finished x s))
  step_past m n End x s apart h k = same_here (finished x s) (finished x s) refl
  step_past m n (Branch f rest) x s apart h k = same_here (finished x s) (finished x s) refl
  step_past m n (Blocking f rest) x s apart h k =
      let v : View = (finished x s).view in
      let same : f s.view ≡ f v = h.apart.looks.0 s.view v (finished_agrees o n m (λ e. apart (sym e)) b x s k.within k.apart.writes) in
      same_here (finished x (with_writes (f s.view) s)) (with_writes (f v) (finished x s))
      (finished_past b o m n apart (f s.view) (h.within.0 s.view) (h.apart.writes.0 s.view) x s k.apart.writes k.apart.looks
      ∙ ap (λ (l : List Write). with_writes l (finished x s)) same)
  step_past m n (Nonblocking f rest) x s apart h k =
      let t : Stepping = finished x s in
      let same : f s.view ≡ f t.view = h.apart.looks.0 s.view t.view (finished_agrees o n m (λ e. apart (sym e)) b x s k.within k.apart.writes) in
      let put : Stepping = record { view = s.view; queue = s.queue ++ f s.view } in
      let behind : Behind (f s.view) (finished x put) t =
      finished_behind o n (f s.view) (λ u others own. applied_swap o m n apart u (f s.view) others (h.apart.writes.0 s.view) own) x put s k.apart.writes
      (record { view = refl; queue = λ u. applied_more u s.queue (f s.view) }) in
      record {
        view = behind.view;
        queue = λ u. behind.queue u ∙ sym (applied_more u t.queue (f s.view)) ∙ ap (λ (l : List Write). applied u (t.queue ++ l)) same;
      }

  -- a step over what one process leaves is the same
  rest_past : (m n : ℕ) (a x : Acts) (s : Stepping) → m ≢ n → IsAlone b o m a → IsAlone b o n x → rest_in s.view a ≡ rest_in (finished x s).view a
  rest_past m n End x s apart h k = refl
  rest_past m n (Branch f rest) x s apart h k =
      ap (λ (y : Acts). followed y rest) (h.apart.looks.0 s.view (finished x s).view (finished_agrees o n m (λ e. apart (sym e)) b x s k.within k.apart.writes))
  rest_past m n (Blocking f rest) x s apart h k = refl
  rest_past m n (Nonblocking f rest) x s apart h k = refl

  rest_apart : (n : ℕ) (a : Acts) (v : View) → IsApartIn b o n a → IsApartIn b o n (rest_in v a)
  rest_apart n End v h = h
  rest_apart n (Branch f rest) v h = record {
    writes = writes_followed (IsOwn o n) (IsOwn o n) (f v) rest (h.writes.0 v) h.writes.1;
    looks = respects_followed (AgreeFor b o n) (f v) rest (h.looks.1 v) h.looks.2;
  }
  rest_apart n (Blocking f rest) v h = record { writes = h.writes.1; looks = h.looks.1 }
  rest_apart n (Nonblocking f rest) v h = record { writes = h.writes.1; looks = h.looks.1 }

  pub apart_set : (n : ℕ) (left : List Acts) (i : ℕ) (a : Acts) (v : View) → AreApartFrom b o n left → slice_get left i ≡ Some a → AreApartFrom b o n (slice_set left i (rest_in v a))
  apart_set n [] i a v h is = tt
  apart_set n (x ∷ left) zero a v h is = let same : x ≡ a = cc is in (rest_apart n a v (subst (IsApartIn b o n) same h.0), h.1)
  apart_set n (x ∷ left) (suc i) a v h is = (h.0, apart_set (suc n) left i a v h.1 is)

  any_first : (n : ℕ) (left : List Acts) (i : ℕ) (a : Acts) (s : Stepping) → Each (WritesOnlyIn b) left → AreApartFrom b o n left → slice_get left i ≡ Some a →
      Same (all_finished (slice_set left i (rest_in s.view a)) (behind_step a s)) (all_finished left s)
  any_first n [] i a s within h is = absurd (cc is)
  any_first n (x ∷ left) zero a s within h is =
      let own : x ≡ a = cc is in
      same_here (all_finished left (finished (rest_in s.view a) (behind_step a s))) (all_finished left (finished x s)) (ap (all_finished left) (finished_step a s ∙ ap (λ (y : Acts). finished y s) (sym own)))
  any_first n (x ∷ left) (suc i) a s within h is =
      let t : Stepping = finished x s in
      let own : IsAlone b o (i + suc n) a = alone_at (suc n) left i a within.1 h.1 is in
      let other : IsAlone b o n x = record { within = within.0; apart = h.0 } in
      let apart : i + suc n ≢ n = λ e. absurd (omega (arith, e)) in
      let later : List Acts = slice_set left i (rest_in s.view a) in
      let first : Same (all_finished later (finished x (behind_step a s))) (all_finished later (behind_step a t)) =
      all_same (suc n) later (finished x (behind_step a s)) (behind_step a t) (apart_set (suc n) left i a s.view h.1 is) (step_past (i + suc n) n a x s apart own other) in
      same_more (all_finished later (finished x (behind_step a s))) (all_finished later (behind_step a t)) (all_finished left t) first
      (subst (λ (y : Acts). Same (all_finished (slice_set left i y) (behind_step a t)) (all_finished left t)) (sym (rest_past (i + suc n) n a x s apart own other)) (any_first (suc n) left i a t within.1 h.1 is))

-- ---- every schedule

pub all_within : (d : Design) (order : List ℕ) (b : AtOnce) (left : List Acts) → AreSteadyIn d order b left → Each (WritesOnlyIn b) left
all_within d order b [] h = tt
all_within d order b (x ∷ left) h = (h.0.writes, all_within d order b left h.1)

module _ (d : Design) (order : List ℕ) (none : d.combinational ≡ []) (settles : Settles d order) (inputs sites : List ℕ) (b : AtOnce) (o : Owners) (before : Store) where
  abbrev at_edge : Edge → Stepping
  at_edge = state d order none settles inputs sites b before

  along_same : (schedule : List ℕ) (e last : Edge) → IsAlong d inputs sites e schedule last → AreEnded last.left → IsKept d order none settles inputs sites b before e → AreApartFrom b o 0 e.left →
      Same (at_edge last) (all_finished e.left (at_edge e))
  along_same [] e last along ended kept apart =
      same_here (at_edge last) (all_finished e.left (at_edge e)) (ap at_edge (sym along) ∙ sym (all_ended e.left (at_edge e) (subst (λ (x : Edge). AreEnded x.left) (sym along) ended)))
  along_same (process ∷ schedule) e last along ended kept apart =
      let next : Edge = along.2 in
      let m : Moved d order none settles inputs sites b before e next process = moved d order none settles inputs sites b before e next process along.0 kept along.1 along.3 in
      let left : List Acts = slice_set e.left process (rest_in (at_edge e).view m.acts) in
      let one : Same (all_finished left (behind_step m.acts (at_edge e))) (all_finished e.left (at_edge e)) = any_first b o 0 e.left process m.acts (at_edge e) (all_within d order b e.left kept.steady) apart m.at in
      let later : Same (at_edge last) (all_finished next.left (at_edge next)) =
      along_same schedule next last along.4 ended m.kept (subst (AreApartFrom b o 0) (sym m.moves.left) (apart_set b o 0 e.left process m.acts (at_edge e).view apart m.at)) in
      let is : all_finished next.left (at_edge next) ≡ all_finished left (behind_step m.acts (at_edge e)) = λ i. all_finished (m.moves.left i) (m.moves.state i) in
      same_more (at_edge last) (all_finished left (behind_step m.acts (at_edge e))) (all_finished e.left (at_edge e)) (subst (Same (at_edge last)) is later) one

pub any_order : (d : Design) (order : List ℕ) (b : AtOnce) (o : Owners) (before : Store) (inputs : List ℕ) (choice : List Bool) → d.combinational ≡ [] → Settles d order → IsSteady d order b → AreApart d b o →
    length choice ≡ cycle_bits d → IsOutcome InAnyOrder d before inputs choice (shown_by d order before inputs choice) (next_by d order before inputs choice)
any_order d order b o before inputs choice none settles steady apart bits =
    let sites : List ℕ = words_from d.sites choice in
    let start : Edge = started d before in
    let text = text_order d order b before inputs choice none settles steady bits in
    record {
      some = (text.some.0, tt, text.some.2);
      every = λ schedule other next any cycle. (
        cycle.shows ∙ ap (λ (nets : List ℕ). d.shows (view_over inputs sites before nets)) (now_alone d order none settles inputs sites before cycle.nets cycle.settled),
        cycle.next
            ∙ same_next (state d order none settles inputs sites b before cycle.last) (all_finished d.clocked (state d order none settles inputs sites b before start))
            (along_same d order none settles inputs sites b o before schedule start cycle.last cycle.along cycle.ended (record { steady = steady; agree = agree_self b before }) apart),
      );
    }
