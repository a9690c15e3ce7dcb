use Rattle.std.proofs.Common.{◌≡◌, List, [], ap, map, ◌∙◌}
use Rattle.std.proofs.lemmas.Result.{IfOk-weaker}
use Rattle.v_meaning.specs.Uses as m
use Rattle.v_meaning.specs.ProcessRules.{assign_targets, assigned_again, circular, combinational_of}
use Rattle.v_uses.specs.declared.gathered.AssignUses.{AssignUses}
use Rattle.v_uses.specs.Gathered.{assign_in, uses_in}
use Rattle.v_uses.specs.Seen.{assign_seen, seen_of}
use Rattle.v_depends.specs.Turning.{AreAllTurns}
use Rattle.v_depends.specs.Orders.{IsOrder, names_from, row_of}
use Rattle.v_depends.proofs.Orders.{ordered_uses}
use Rattle.v_depends.proofs.ordering.order.Goals as goal

pub returns : goal.returns
returns c =
    let assigns = c.as_slice-assigns.result.now in
    let rows = c.as_slice.ensures.value ∙ c.in_ok-rows.ensures (names_from [] (map assign_in assigns)) c.in_ok-numbers.ensures
    ∙ ap (λ (l : List AssignUses). map (row_of (names_from [] (map assign_in l))) (map assign_in l)) c.as_slice-assigns.ensures in
    IfOk-weaker c.all_turns.result (λ order. AreAllTurns c.as_slice.result.now order.items)
    (λ order. (u : m.Uses) → uses_in c.args.uses.now ≡ seen_of u → combinational_of u ≡ [] → assigned_again [] (assign_targets u) ≡ [] → circular u ≡ [] → IsOrder (map assign_seen u.assigns) order.items)
    (λ order t u is clocked once acyclic. ordered_uses c.args.uses.now u c.as_slice.result.now order.items is clocked once acyclic rows t)
    c.all_turns.ensures
