-- When words fit ports.
use Rattle.std.specs.Prelude.{◌≡◌, ◌<◌, ◌^◌, List, [], ◌∷◌, ⊤}
use Rattle.lz_base.specs.WordValue.{WordValue}
use Rattle.lz_base.specs.declared.name.Port.{Port}

-- one word for each port, of its width
abbrev pub FitPorts : List Port → List WordValue → Type 0
FitPorts [] [] = ⊤
FitPorts [] (w ∷ ws) = ⊥
FitPorts (p ∷ ps) [] = ⊥
FitPorts (p ∷ ps) (w ∷ ws) = (w.width ≡ p.width) × (w.value < 2 ^ w.width) × FitPorts ps ws
