-- The steps of processes one after another, and the store behind writes.
use Rattle.std.proofs.Common.{◌≡◌, ◌≤◌, ◌+◌, length, length-append, arith, zero, suc, drop, ap, sym, ◌∙◌, refl, ℕ, List, [], ◌∷◌, ◌++◌, append_assoc, map, Bool, true, false, cond}
use Rattle.std.specs.Prelude.{if◌then◌else◌, filter}
use Rattle.v_meaning.specs.Views.{View, Store, Place, Net, Variable, Word, Write, no_view, applied, written_at, with_bits}
use Rattle.v_meaning.specs.Acts.{Acts}
use Rattle.v_meaning.specs.Designs.{stored}
use Rattle.v_meaning.specs.declared.names.Entry.{Entry}
use Rattle.v_core.specs.declared.modules.TypedProcess.{TypedProcess}
use Rattle.v_core.specs.Cores.{acts_where}
use Rattle.v_core.specs.Statements.{acts_in}
use Rattle.v_machine.specs.Runnable.{process_counts}
use Rattle.v_machine.proofs.Finishing.{finished_view}
use Rattle.v_order.specs.Counting.{steps_in_order, steps_of}
use Rattle.v_order.specs.Stepping.{Stepping, all_finished, finished}

abbrev pub is_clocked : TypedProcess → Bool
is_clocked p = p.clocked

abbrev acts_of : List Entry → TypedProcess → Acts
acts_of names p = acts_in p.body names

chosen : (b : Bool) (p : TypedProcess) (kept : List TypedProcess) (names : List Entry) (s : Stepping) →
    all_finished (map (acts_of names) (cond b (p ∷ kept) kept)) s ≡ all_finished (map (acts_of names) kept) (if b then finished (acts_in p.body names) s else s)
chosen true p kept names s = refl
chosen false p kept names s = refl

-- what is left of processes leaves what all of them leave
pub steps_next : (names : List Entry) (p : TypedProcess) (left more : List TypedProcess) (s next whole : Stepping) → left ≡ p ∷ more →
    next ≡ (if p.clocked then finished (acts_in p.body names) s else s) → all_finished (acts_where is_clocked names left) s ≡ whole →
    all_finished (acts_where is_clocked names more) next ≡ whole
steps_next names p left more s next whole is e before =
    ap (all_finished (acts_where is_clocked names more)) e ∙ sym (chosen p.clocked p (filter is_clocked more) names s)
    ∙ sym (ap (λ (ps : List TypedProcess). all_finished (acts_where is_clocked names ps) s) is) ∙ before

counted_chosen : (b : Bool) (p : TypedProcess) (kept : List TypedProcess) (names : List Entry) (s : Stepping) (counts : List ℕ) →
    counts ++ steps_in_order (map (acts_of names) (cond b (p ∷ kept) kept)) s.view
    ≡ (counts ++ (if b then steps_of (acts_in p.body names) s.view ∷ [] else [])) ++ steps_in_order (map (acts_of names) kept) (if b then finished (acts_in p.body names) s else s).view
counted_chosen true p kept names s counts =
    ap (λ (v : View). counts ++ steps_of (acts_in p.body names) s.view ∷ steps_in_order (map (acts_of names) kept) v) (sym (finished_view (acts_in p.body names) s))
    ∙ sym (append_assoc counts (steps_of (acts_in p.body names) s.view ∷ []) (steps_in_order (map (acts_of names) kept) (finished (acts_in p.body names) s).view))
counted_chosen false p kept names s counts = sym (append_assoc counts [] (steps_in_order (map (acts_of names) kept) s.view))

-- the counts of what is left of processes stand behind the others
pub counted_next : (names : List Entry) (p : TypedProcess) (left more : List TypedProcess) (s next : Stepping) (counts pushed whole : List ℕ) → left ≡ p ∷ more →
    next ≡ (if p.clocked then finished (acts_in p.body names) s else s) → pushed ≡ counts ++ (if p.clocked then steps_of (acts_in p.body names) s.view ∷ [] else []) →
    counts ++ steps_in_order (acts_where is_clocked names left) s.view ≡ whole → pushed ++ steps_in_order (acts_where is_clocked names more) next.view ≡ whole
counted_next names p left more s next counts pushed whole is e push before =
    (λ i. push i ++ steps_in_order (acts_where is_clocked names more) (e i).view) ∙ sym (counted_chosen p.clocked p (filter is_clocked more) names s counts)
    ∙ sym (ap (λ (ps : List TypedProcess). counts ++ steps_in_order (acts_where is_clocked names ps) s.view) is) ∙ before

pub one_more : (b : Bool) (counts pushed : List ℕ) (n i : ℕ) → pushed ≡ counts ++ (if b then n ∷ [] else []) → length counts ≤ i → length pushed ≤ i + 1
one_more true counts pushed n i push few = omega (arith, few, ap (λ (ns : List ℕ). length ns) push, length-append counts (n ∷ []))
one_more false counts pushed n i push few = omega (arith, few, ap (λ (ns : List ℕ). length ns) push, length-append counts [])

pub left_less : (processes : List TypedProcess) (i : ℕ) → process_counts (drop i processes) ≤ process_counts processes
left_less [] zero = omega arith
left_less [] (suc i) = omega arith
left_less (p ∷ processes) zero = omega arith
left_less (p ∷ processes) (suc i) = omega (arith, left_less processes i)

-- ---- the store

store_written : (place : Place) (f : ℕ → ℕ) (v w : View) → v.store ≡ w.store → (written_at place f v).store ≡ (written_at place f w).store
store_written (Net k) f v w same = same
store_written (Variable k) f v w same = ap (λ (s : Store). (written_at (Variable k) f (record no_view { store = s })).store) same
store_written (Word k i) f v w same = ap (λ (s : Store). (written_at (Word k i) f (record no_view { store = s })).store) same

store_applied : (writes : List Write) (v w : View) → v.store ≡ w.store → (applied v writes).store ≡ (applied w writes).store
store_applied [] v w same = same
store_applied (x ∷ writes) v w same =
    store_applied writes (written_at x.place (with_bits x.low x.width x.value) v) (written_at x.place (with_bits x.low x.width x.value) w)
    (store_written x.place (with_bits x.low x.width x.value) v w same)

pub stored_is : (v : View) (writes : List Write) → (applied v writes).store ≡ stored v.store writes
stored_is v writes = store_applied writes v (record no_view { store = v.store }) refl
