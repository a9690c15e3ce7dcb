use Rattle.std.proofs.Common.{◌≡◌, ◌≤◌, length, [], ◌∷◌}
use Rattle.v_parser.specs.Reading.{more_at}
use Rattle.v_parser.proofs.lists.more.Given as goal

abbrev pub invariant-loop-alloc : goal.invariant-loop-alloc
invariant-loop-alloc g l = record { same : more_at g.P.Part.reading l.parts l.left ≡ more_at g.P.Part.reading (l.fn.first ∷ []) l.tokens; shorter : length l.left ≤ length l.tokens }

abbrev pub decreases-loop-alloc : goal.decreases-loop-alloc
decreases-loop-alloc g l = length l.left
