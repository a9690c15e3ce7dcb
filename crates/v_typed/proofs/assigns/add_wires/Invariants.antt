use Rattle.std.proofs.Common.{◌≡◌, ◌++◌, ℕ, List, map, flat_map, take}
use Rattle.std.specs.Prelude.{All}
use Rattle.v_syntax.specs.declared.module.Declared.{Declared}
use Rattle.v_meaning.specs.Modules.{wire_assign}
use Rattle.v_core.specs.Cores.{assign_in}
use Rattle.v_typed.specs.Forms.{are_formed_assigns, are_measured}
use Rattle.v_typed.specs.Sited.{ValueRead, are_sited_assigns}
use Rattle.v_typed.proofs.assigns.add_wires.Given as goal

abbrev pub invariant-loop-wire : goal.invariant-loop-wire
invariant-loop-wire l =
    (map (assign_in l.names) l.assigns ≡ map (assign_in l.names) l.initial.assigns ++ flat_map (λ (d : Declared). wire_assign l.names l.sites d.name d.value) (take l.wire-index l.wires))
    × (are_formed_assigns l.names l.assigns ≡ are_formed_assigns l.names l.initial.assigns)
    × (are_measured l.names l.assigns ≡ are_measured l.names l.initial.assigns)
    × ((widths : List ℕ) → All (λ (d : Declared). ValueRead widths l.sites l.names d.value) l.wires → are_sited_assigns l.assigns l.names widths ≡ are_sited_assigns l.initial.assigns l.names widths)
