-- What the lines of netlists and of networks share: ports, and the clock of flip-flops.
use Rattle.std.specs.Prelude.{ℕ, ◌+◌, ◌≤◌, List, [], ◌∷◌, Option, IsSome, ⊤}
use Rattle.lz_base.specs.declared.name.Port.{Port}

-- how many bits the ports have together
abbrev pub port_bits : List Port → ℕ
port_bits [] = 0
port_bits (p ∷ ps) = p.width + port_bits ps

-- ports of 1 to 128 bits
abbrev pub HaveWidths : List Port → Type 0
HaveWidths [] = ⊤
HaveWidths (p ∷ ps) = (1 ≤ p.width) × (p.width ≤ 128) × HaveWidths ps

-- flip-flops stand only behind a clock line
abbrev pub HasClock : {F : Type 0} → Option (List ℕ) → List F → Type 0
HasClock clock [] = ⊤
HasClock clock (f ∷ fs) = IsSome clock
