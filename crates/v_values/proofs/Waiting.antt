-- The writes of a queue from one on, and those before it.
use Rattle.std.proofs.Common.{◌≡◌, ◌-◌, ap, sym, ◌∙◌, ℕ, length, take, drop, ◌++◌, List}
use Rattle.std.proofs.lemmas.List.{take-map, drop-map, length-drop}
use Rattle.std.proofs.Math.Seq.{take-length, take-append_seam}
use Rattle.v_meaning.specs.Views as view
use Rattle.v_values.specs.declared.writing.Write.{Write}
use Rattle.v_values.specs.Queues.{QueueValue}
use Rattle.v_values.specs.Writes.{write_in, writes_in}

take_to_end : {X : Type 0} (n : ℕ) (xs : List X) → take (length xs - n) (drop n xs) ≡ drop n xs
take_to_end n xs = rw (sym (length-drop n xs)) (take-length (drop n xs))

pub from_is : (q : QueueValue) (ws all : List Write) (room i : ℕ) → record { writes = writes_in ws; room = room } ≡ q → all ≡ ws →
    writes_in (take (length all - i) (drop i all)) ≡ drop i q.writes
from_is q ws all room i view_is same =
    ap writes_in (take_to_end i all) ∙ ap (λ (r : List Write). writes_in (drop i r)) same ∙ sym (drop-map write_in i ws) ∙ ap (λ (r : QueueValue). drop i r.writes) view_is

pub before_is : (q : QueueValue) (ws kept : List Write) (room i : ℕ) → record { writes = writes_in ws; room = room } ≡ q → kept ≡ take i ws → writes_in kept ≡ take i q.writes
before_is q ws kept room i view_is is = ap writes_in is ∙ sym (take-map write_in i ws) ∙ ap (λ (r : QueueValue). take i r.writes) view_is

-- a queue to which writes came, and which lost them again
pub back_again : (q added last : QueueValue) (ws : List view.Write) (n : ℕ) → n ≡ length q.writes → added.writes ≡ q.writes ++ ws → added.room ≡ q.room →
    last.writes ≡ take n added.writes → last.room ≡ added.room → last ≡ q
back_again q added last ws n count more same kept room =
    let e : last.writes ≡ q.writes = kept ∙ (λ i. take (count i) (more i)) ∙ take-append_seam q.writes ws in
    λ i. record { writes = e i; room = (room ∙ same) i }
