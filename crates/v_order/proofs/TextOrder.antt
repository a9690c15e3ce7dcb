-- In a steady design a cycle in text order is one in which the nets settle once and each clocked process takes all its steps.
use Rattle.std.proofs.Common.{◌≡◌, ◌≢◌, ◌<◌, ◌≤◌, ℕ, zero, suc, List, [], ◌∷◌, ◌++◌, length, Bool, Option, Some, None, refl, sym, ap, ◌∙◌, subst, arith, append_assoc, append-nil, length-append, le_refl}
use Rattle.std.specs.Prelude.{slice_get, slice_set}
use Rattle.v_meaning.specs.Views.{Store, View, Write}
use Rattle.v_meaning.specs.Acts.{Acts, End, Branch, Blocking, Nonblocking, followed}
use Rattle.v_meaning.specs.Designs.{Design, words_from, cycle_bits, Edge, stored, stepped, view_over, IsAlong, AreEnded, started, AscendFrom, InTextOrder, IsOutcome}
use Rattle.v_order.specs.Settling.{Settles}
use Rattle.v_order.specs.Stepping.{Stepping, finished, all_finished, view_by, shown_by, next_of, next_by}
use Rattle.v_order.specs.Steady.{AtOnce, IsSteady}
use Rattle.v_order.proofs.Steps.{agree_self, rest_in, finished_step, ended_at, all_ended, now, now_settled, now_alone, state, IsKept, Moved, moved}

-- ---- lists

get_here : {A : Type 0} (xs : List A) (x : A) (ys : List A) → slice_get (xs ++ x ∷ ys) (length xs) ≡ Some x
get_here [] x ys = refl
get_here (y ∷ xs) x ys = get_here xs x ys

set_here : {A : Type 0} (xs : List A) (x y : A) (ys : List A) → slice_set (xs ++ x ∷ ys) (length xs) y ≡ xs ++ y ∷ ys
set_here [] x y ys = refl
set_here (z ∷ xs) x y ys = ap (λ l. z ∷ l) (set_here xs x y ys)

get_other : {A : Type 0} (xs : List A) (i j : ℕ) (x : A) → j ≢ i → slice_get (slice_set xs i x) j ≡ slice_get xs j
get_other [] i j x apart = refl
get_other (y ∷ xs) zero zero x apart = absurd (apart refl)
get_other (y ∷ xs) zero (suc j) x apart = refl
get_other (y ∷ xs) (suc i) zero x apart = refl
get_other (y ∷ xs) (suc i) (suc j) x apart = get_other xs i j x (λ same. apart (ap suc same))

-- ---- acts

followed_end : (a : Acts) → followed a End ≡ a
followed_end End = refl
followed_end (Branch f rest) = ap (Branch f) (followed_end rest)
followed_end (Blocking f rest) = ap (Blocking f) (followed_end rest)
followed_end (Nonblocking f rest) = ap (Nonblocking f) (followed_end rest)

-- ---- processes that are at their ends

ended_push : (left : List Acts) → AreEnded left → AreEnded (left ++ End ∷ [])
ended_push [] h = (refl, tt)
ended_push (a ∷ left) h = (h.0, ended_push left h.1)

-- all processes before this one
abbrev EndedBefore : List Acts → ℕ → Type 0
EndedBefore left process = (k : ℕ) (a : Acts) → k < process → slice_get left k ≡ Some a → a ≡ End

-- where all before it are at their ends, a process may take some of its steps first
some_first : (left : List Acts) (process : ℕ) (a rest : Acts) (s t : Stepping) → slice_get left process ≡ Some a → finished rest t ≡ finished a s → EndedBefore left process →
    all_finished (slice_set left process rest) t ≡ all_finished left s
some_first [] process a rest s t is same before = absurd (cc is)
some_first (x ∷ left) zero a rest s t is same before = let own : x ≡ a = cc is in ap (all_finished left) (same ∙ ap (λ (y : Acts). finished y s) (sym own))
some_first (x ∷ left) (suc process) a rest s t is same before =
    let end : x ≡ End = before 0 x (omega arith) refl in
    ap (λ (y : Acts). all_finished (slice_set left process rest) (finished y t)) end
    ∙ some_first left process a rest s t is same (λ k y below there. before (suc k) y (omega (arith, below)) there)
    ∙ ap (λ (y : Acts). all_finished left (finished y s)) (sym end)

-- ---- steps

-- a step changes what is left of no other process
step_left : (v : View) (e : Edge) (process : ℕ) (o : Option Acts) (next : Edge) → stepped v e process o ≡ Some next → (rest : Acts) × (next.left ≡ slice_set e.left process rest)
step_left v e process None next is = absurd (cc is)
step_left v e process (Some End) next is = absurd (cc is)
step_left v e process (Some (Branch f rest)) next is =
    let same : record e { left = slice_set e.left process (followed (f v) rest) } ≡ next = cc is in (followed (f v) rest, ap (λ (x : Edge). x.left) (sym same))
step_left v e process (Some (Blocking f rest)) next is =
    let same : record e { store = stored e.store (f v); left = slice_set e.left process rest } ≡ next = cc is in (rest, ap (λ (x : Edge). x.left) (sym same))
step_left v e process (Some (Nonblocking f rest)) next is =
    let same : record e { queue = e.queue ++ f v; left = slice_set e.left process rest } ≡ next = cc is in (rest, ap (λ (x : Edge). x.left) (sym same))

-- what steps of later processes leave of an earlier one
earlier_stays : (d : Design) (inputs sites : List ℕ) (e last : Edge) (least : ℕ) (schedule : List ℕ) → AscendFrom least schedule → IsAlong d inputs sites e schedule last →
    (k : ℕ) → k < least → slice_get last.left k ≡ slice_get e.left k
earlier_stays d inputs sites e last least [] h along k below = ap (λ (x : Edge). slice_get x.left k) (sym along)
earlier_stays d inputs sites e last least (process ∷ schedule) h along k below =
    let r = step_left (view_over inputs sites e.store along.0) e process (slice_get e.left process) along.2 along.3 in
    earlier_stays d inputs sites along.2 last process schedule h.1 along.4 k (omega (arith, below, h.0))
    ∙ ap (λ (l : List Acts). slice_get l k) r.1
    ∙ get_other e.left process k r.0 (λ same. absurd (omega (arith, same, below, h.0)))

-- ---- there is a complete schedule in text order

-- the edge goes on to its end under a schedule whose entries are this number or greater
record Completes (d : Design) (inputs sites : List ℕ) (least : ℕ) (e : Edge) : Type 0 where
  schedule : List ℕ
  ascends : AscendFrom least schedule
  last : Edge
  along : IsAlong d inputs sites e schedule last
  ended : AreEnded last.left

ascend_less : (least more : ℕ) (schedule : List ℕ) → least ≤ more → AscendFrom more schedule → AscendFrom least schedule
ascend_less least more [] h k = tt
ascend_less least more (process ∷ schedule) h k = (omega (arith, h, k.0), k.1)

module _ (d : Design) (order : List ℕ) (none : d.combinational ≡ []) (settles : Settles d order) (inputs sites : List ℕ) where
  abbrev look : Store → View
  look = now d order none settles inputs sites

  abbrev edge : Store → List Write → List Acts → Edge
  edge store queue left = record { store = store; queue = queue; left = left }

  module _ (ended more : List Acts) where
    abbrev Ends : Acts → Type 0
    Ends a = (store : Store) (queue : List Write) → Completes d inputs sites (length ended) (edge store queue (ended ++ a ∷ more))

    -- behind a step that leaves this
    step_ends : (a rest : Acts) (store later : Store) (queue after : List Write) →
        stepped (look store) (edge store queue (ended ++ a ∷ more)) (length ended) (Some a) ≡ Some (edge later after (slice_set (ended ++ a ∷ more) (length ended) rest)) →
        Ends rest → Completes d inputs sites (length ended) (edge store queue (ended ++ a ∷ more))
    step_ends a rest store later queue after is h =
        let e : Edge = edge store queue (ended ++ a ∷ more) in
        let left : List Acts = slice_set (ended ++ a ∷ more) (length ended) rest in
        let c : Completes d inputs sites (length ended) (edge later after left) =
        subst (λ (l : List Acts). Completes d inputs sites (length ended) (edge later after l)) (sym (set_here ended a rest more)) (h later after) in
        record {
          schedule = length ended ∷ c.schedule;
          ascends = (le_refl (length ended), c.ascends);
          last = c.last;
          along = (
            (look store).nets,
            now_settled d order none settles inputs sites store,
            edge later after left,
            subst (λ (o : Option Acts). stepped (look store) e (length ended) o ≡ Some (edge later after left)) (sym (get_here ended a more)) is,
            c.along,
          );
          ended = c.ended;
        }

    one_ends : (a rest : Acts) → Ends rest → Ends (followed a rest)
    one_ends End rest h store queue = h store queue
    one_ends (Branch f more_acts) rest h store queue =
        step_ends (Branch f (followed more_acts rest)) (followed (f (look store)) (followed more_acts rest)) store store queue queue refl (one_ends (f (look store)) (followed more_acts rest) (one_ends more_acts rest h))
    one_ends (Blocking f more_acts) rest h store queue =
        step_ends (Blocking f (followed more_acts rest)) (followed more_acts rest) store (stored store (f (look store))) queue queue refl (one_ends more_acts rest h)
    one_ends (Nonblocking f more_acts) rest h store queue =
        step_ends (Nonblocking f (followed more_acts rest)) (followed more_acts rest) store store queue (queue ++ f (look store)) refl (one_ends more_acts rest h)

  all_end : (left ended : List Acts) (store : Store) (queue : List Write) → AreEnded ended → Completes d inputs sites (length ended) (edge store queue (ended ++ left))
  all_end [] ended store queue h = record {
    schedule = [];
    ascends = tt;
    last = edge store queue (ended ++ []);
    along = refl;
    ended = subst AreEnded (sym (append-nil ended)) h;
  }
  all_end (a ∷ left) ended store queue h =
      let one : Ends ended left (followed a End) = one_ends ended left a End (λ later after.
      let c : Completes d inputs sites (length (ended ++ End ∷ [])) (edge later after (ended ++ End ∷ left)) =
      subst (λ (l : List Acts). Completes d inputs sites (length (ended ++ End ∷ [])) (edge later after l)) (append_assoc ended (End ∷ []) left) (all_end left (ended ++ End ∷ []) later after (ended_push ended h)) in
      let least : length ended ≤ length (ended ++ End ∷ []) = omega (arith, length-append ended (End ∷ [])) in
      record { schedule = c.schedule; ascends = ascend_less (length ended) (length (ended ++ End ∷ [])) c.schedule least c.ascends; last = c.last; along = c.along; ended = c.ended }) in
      subst (λ (x : Acts). Completes d inputs sites (length ended) (edge store queue (ended ++ x ∷ left))) (followed_end a) (one store queue)

  -- ---- each of them does the same

  module _ (b : AtOnce) (before : Store) where
    abbrev at_edge : Edge → Stepping
    at_edge = state d order none settles inputs sites b before

    abbrev Kept : Edge → Type 0
    Kept = IsKept d order none settles inputs sites b before

    one_moved : (e next : Edge) (process : ℕ) → Moved d order none settles inputs sites b before e next process → EndedBefore e.left process →
        all_finished next.left (at_edge next) ≡ all_finished e.left (at_edge e)
    one_moved e next process m ends =
        let rest : Acts = rest_in (at_edge e).view m.acts in
        ap (λ (l : List Acts). all_finished l (at_edge next)) m.moves.left
        ∙ some_first e.left process m.acts rest (at_edge e) (at_edge next) m.at (ap (finished rest) m.moves.state ∙ finished_step m.acts (at_edge e)) ends

    along_finishes : (schedule : List ℕ) (least : ℕ) (e last : Edge) → AscendFrom least schedule → IsAlong d inputs sites e schedule last → AreEnded last.left → Kept e →
        at_edge last ≡ all_finished e.left (at_edge e)
    along_finishes [] least e last ascends along ended kept =
        ap at_edge (sym along) ∙ sym (all_ended e.left (at_edge e) (subst (λ (x : Edge). AreEnded x.left) (sym along) ended))
    along_finishes (process ∷ schedule) least e last ascends along ended kept =
        let ends : EndedBefore e.left process = λ k a below there.
        ended_at last.left k a ended (earlier_stays d inputs sites e last process (process ∷ schedule) (le_refl process, ascends.1) along k below ∙ there) in
        let m = moved d order none settles inputs sites b before e along.2 process along.0 kept along.1 along.3 in
        along_finishes schedule process along.2 last ascends.1 along.4 ended m.kept ∙ one_moved e along.2 process m ends

pub text_order : (d : Design) (order : List ℕ) (b : AtOnce) (before : Store) (inputs : List ℕ) (choice : List Bool) → d.combinational ≡ [] → Settles d order → IsSteady d order b → length choice ≡ cycle_bits d →
    IsOutcome InTextOrder d before inputs choice (shown_by d order before inputs choice) (next_by d order before inputs choice)
text_order d order b before inputs choice none settles steady bits =
    let sites : List ℕ = words_from d.sites choice in
    let start : Edge = started d before in
    let c : Completes d inputs sites 0 start = all_end d order none settles inputs sites d.clocked [] before [] tt in
    let finishes : (schedule : List ℕ) (last : Edge) → InTextOrder schedule → IsAlong d inputs sites start schedule last → AreEnded last.left → next_by d order before inputs choice ≡ stored last.store last.queue = λ schedule last ascends along ended.
    sym (ap next_of (along_finishes d order none settles inputs sites b before schedule 0 start last ascends along ended (record { steady = steady; agree = agree_self b before }))) in
    record {
      some = (
        c.schedule,
        c.ascends,
        record {
          bits = bits;
          nets = (view_by d order inputs sites before).nets;
          settled = now_settled d order none settles inputs sites before;
          shows = refl;
          last = c.last;
          along = c.along;
          ended = c.ended;
          next = finishes c.schedule c.last c.ascends c.along c.ended;
        },
      );
      every = λ schedule other next ascends cycle. (
        cycle.shows ∙ ap (λ (nets : List ℕ). d.shows (view_over inputs sites before nets)) (now_alone d order none settles inputs sites before cycle.nets cycle.settled),
        cycle.next ∙ sym (finishes schedule cycle.last ascends cycle.along cycle.ended),
      );
    }
