-- The sections of a text that a netlist or a network has: the clock's line, the lines of inputs, of flip-flops, of cells or
-- gates and of outputs, and the end.
use Rattle.std.specs.Prelude.{ℕ, List, [], ◌∷◌, ◌++◌, codes, flat_map, Option, Bool, true, false, ◌&&◌, ◌||◌, not, if◌then◌else◌}
use Rattle.lz_base.specs.declared.name.Port.{Port}
use Rattle.lz_lines.specs.Shared.{clock_line, input_line}

pub data Section : Type 0 where
  Clock : Section
  Inputs : Section
  Flops : Section
  Cells : Section
  Outputs : Section
  End : Section

-- Whether a line of a section may come next: for whether there are no outputs, cells and flip-flops yet, whether there is
-- a clock, and whether there are no inputs yet.
abbrev pub may_come : Bool → Bool → Bool → Bool → Bool → Section → Bool
may_come outputs cells flops clock inputs Clock = outputs && (cells && (flops && (not clock && inputs)))
may_come outputs cells flops clock inputs Inputs = outputs && (cells && flops)
may_come outputs cells flops clock inputs Flops = outputs && (cells && (not flops || clock))
may_come outputs cells flops clock inputs Cells = outputs
may_come outputs cells flops clock inputs Outputs = true
may_come outputs cells flops clock inputs End = true

abbrev pub none : {A : Type 0} → List A → Bool
none [] = true
none (x ∷ xs) = false

-- the items for which a test holds
abbrev pub those : {A : Type 0} → (A → Bool) → List A → List A
those test [] = []
those test (x ∷ xs) = if test x then x ∷ those test xs else those test xs

-- the lines between the model's and the end
abbrev pub sections : {F C : Type 0} → (F → List ℕ) → (C → List ℕ) → Option (List ℕ) → List Port → List F → List C → List ℕ → List ℕ
sections flop_line cell_line clock inputs flops cells outputs = clock_line clock ++ flat_map input_line inputs ++ flat_map flop_line flops ++ flat_map cell_line cells ++ outputs

abbrev pub end_line : List ℕ
end_line = codes "end" ++ 10 ∷ []
