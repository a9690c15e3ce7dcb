-- A small module has one process of one step, so that each complete schedule is text order.
use Rattle.std.proofs.Common.{◌≡◌, ℕ, zero, suc, List, [], ◌∷◌, Bool, refl}
use Rattle.lz_base.specs.WordValue.{WordValue}
use Rattle.v_syntax.specs.declared.small.SmallModule.{SmallModule}
use Rattle.v_meaning.specs.Cycle.{next_store, IsComplete, text_order}

pub one_order : (s : SmallModule) (store : List Bool) (inputs : List WordValue) (choice : List Bool) (schedule : List ℕ)
    → IsComplete s store inputs choice schedule → next_store s store inputs choice schedule ≡ next_store s store inputs choice (text_order s)
one_order s store inputs choice [] whole = absurd (cc)
one_order s store inputs choice (zero ∷ []) whole = refl
one_order s store inputs choice (zero ∷ zero ∷ schedule) whole = absurd (cc)
one_order s store inputs choice (zero ∷ suc p ∷ schedule) whole = absurd (cc)
one_order s store inputs choice (suc p ∷ schedule) whole = absurd (cc)
