-- Numbers of steps that are all taken. No public clause names these.
use Rattle.std.specs.Prelude.{ℕ, ◌==◌, List, Bool}
use Rattle.std.specs.List.{list_all}

abbrev pub are_none : List ℕ → Bool
are_none steps = list_all (λ (n : ℕ). n == 0) steps
