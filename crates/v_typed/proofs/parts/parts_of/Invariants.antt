use Rattle.std.proofs.Common.{◌≡◌, ℕ, List, map, flat_map, take, not, true}
use Rattle.std.specs.Prelude.{All}
use Rattle.v_meaning.specs.Modules.{item_assigns, item_combinational, item_clocked}
use Rattle.v_core.specs.Cores.{assign_in, acts_where}
use Rattle.v_typed.specs.Forms.{are_formed_assigns, are_formed_processes, are_measured}
use Rattle.v_typed.specs.Sited.{ItemRead, are_sited_assigns, are_sited_processes}
use Rattle.v_typed.proofs.parts.parts_of.Given as goal

abbrev pub invariant-loop-item : goal.invariant-loop-item
invariant-loop-item l =
    (map (assign_in l.names) l.parts.assigns ≡ flat_map (item_assigns l.names l.sites) (take l.item-index l.items))
    × (acts_where (λ p. not p.clocked) l.names l.parts.processes ≡ flat_map (item_combinational l.names l.sites) (take l.item-index l.items))
    × (acts_where (λ p. p.clocked) l.names l.parts.processes ≡ flat_map (item_clocked l.names l.sites) (take l.item-index l.items))
    × (are_formed_assigns l.names l.parts.assigns ≡ true)
    × (are_formed_processes l.names l.parts.processes ≡ true)
    × (are_measured l.names l.parts.assigns ≡ true)
    × ((widths : List ℕ) → All (ItemRead widths l.sites l.names) l.items → are_sited_assigns l.parts.assigns l.names widths ≡ true)
    × ((widths : List ℕ) → All (ItemRead widths l.sites l.names) l.items → are_sited_processes l.parts.processes l.names widths ≡ true)
