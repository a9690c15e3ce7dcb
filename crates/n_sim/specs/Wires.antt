-- Lists of nets that are filled up with net 0.
use Rattle.std.specs.Prelude.{◌≡◌, ◌≤◌, ℕ, List, [], ◌∷◌, drop, ⊤}
use Rattle.n_cells.specs.Leaves.{most_leaves}

-- all are net 0
abbrev pub AreZero : List ℕ → Type 0
AreZero [] = ⊤
AreZero (x ∷ xs) = (x ≡ 0) × AreZero xs

-- so many nets, and net 0 behind them
abbrev pub AreFilled : ℕ → List ℕ → Type 0
AreFilled count nets = (count ≤ most_leaves) × AreZero (drop count nets)
