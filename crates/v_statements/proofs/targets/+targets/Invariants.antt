use Rattle.std.proofs.Common.{◌≡◌, ◌+◌, ℕ, List, drop, map, true}
use Rattle.std.specs.Prelude.{All}
use Rattle.std.specs.List.{list_all}
use Rattle.v_meaning.specs.Targets.{parts_width, target_of}
use Rattle.v_core.specs.declared.statement.TypedTarget.{TypedTarget}
use Rattle.v_core.specs.Statements.{target_in}
use Rattle.v_core.specs.Formed.{has}
use Rattle.v_core.specs.FormedCores.{target_form, target_parts}
use Rattle.v_core.specs.SitedCores.{is_sited_target}
use Rattle.v_statements.specs.Sited.{TargetRead}
use Rattle.v_statements.proofs.Turns.{AreSame}
use Rattle.v_statements.proofs.targets.+targets.Given as goal

abbrev pub invariant-joined-loop-part : goal.invariant-joined-loop-part
invariant-joined-loop-part l =
    AreSame (λ (t : TypedTarget). target_in t l.names) (target_of l.names l.sites) l.typed l.parts l.part-index
    × (l.width + parts_width (map (target_of l.names l.sites) (drop l.part-index l.parts)) ≡ parts_width (map (target_of l.names l.sites) l.parts))
    × (has l.width (target_parts (map target_form l.typed) l.names) ≡ true)
    × ((widths : List ℕ) → All (TargetRead widths l.sites l.names) l.parts → list_all (λ (x : TypedTarget). is_sited_target x l.names widths) l.typed ≡ true)
