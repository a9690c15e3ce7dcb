-- Lists moved by places.
use Rattle.std.specs.Prelude.{ℕ, List, ◌++◌, length, take, drop, replicate, Bool, true, false}

-- To the left: so many copies come in before the first item, and as many last items are lost. To the right: they come in
-- behind the last item, and as many first items are lost.
abbrev pub moved : {X : Type 0} → Bool → ℕ → X → List X → List X
moved true places fill items = take (length items) (replicate places fill ++ items)
moved false places fill items = drop places (items ++ replicate places fill)
