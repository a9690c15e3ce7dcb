use Rattle.std.proofs.Common.{◌≡◌, ◌++◌, ℕ, List, map, flat_map, take}
use Rattle.std.specs.Prelude.{All}
use Rattle.v_syntax.specs.declared.module.Setting.{Setting}
use Rattle.v_meaning.specs.Modules.{net_assign}
use Rattle.v_core.specs.Cores.{assign_in}
use Rattle.v_typed.specs.Forms.{are_formed_assigns, are_measured}
use Rattle.v_typing.specs.Sited.{IsRead}
use Rattle.v_typed.specs.Sited.{are_sited_assigns}
use Rattle.v_typed.proofs.assigns.add_assigns.Given as goal

abbrev pub invariant-loop-setting : goal.invariant-loop-setting
invariant-loop-setting l =
    (map (assign_in l.names) l.assigns ≡ map (assign_in l.names) l.initial.assigns ++ flat_map (λ (s : Setting). net_assign l.names l.sites s.name s.value.expr) (take l.setting-index l.settings))
    × (are_formed_assigns l.names l.assigns ≡ are_formed_assigns l.names l.initial.assigns)
    × (are_measured l.names l.assigns ≡ are_measured l.names l.initial.assigns)
    × ((widths : List ℕ) → All (λ (s : Setting). IsRead widths l.sites l.names s.value.expr) l.settings → are_sited_assigns l.assigns l.names widths ≡ are_sited_assigns l.initial.assigns l.names widths)
