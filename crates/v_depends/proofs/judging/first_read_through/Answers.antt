use Rattle.std.proofs.Common.{None, List, ap, flat_map, map, ◌∙◌}
use Rattle.v_meaning.specs.ProcessRules.{places_if}
use Rattle.v_scope.specs.Firsts.{least_from}
use Rattle.v_uses.specs.declared.gathered.AssignUses.{AssignUses}
use Rattle.v_uses.specs.declared.gathered.ProcessUses.{ProcessUses}
use Rattle.v_uses.specs.Gathered.{assign_in, process_in}
use Rattle.v_depends.specs.Pairs.{blocking_of, dependences_of, follows}
use Rattle.v_depends.proofs.Gathering.{reads_of}
use Rattle.v_depends.proofs.Least.{read_through_of}
use Rattle.v_depends.proofs.judging.first_read_through.Goals as goal

pub returns : goal.returns
returns c = λ u same clocked.
    let uses = c.args.uses.now in
    let assigns = c.as_slice.result.now in
    let processes = c.as_slice-processes.result.now in
    let ds = dependences_of (map assign_in assigns) in
    let ons = flat_map blocking_of (map process_in processes) in
    let graph = c.in_ok-graph.ensures in
    c.least_read.ensures graph.0 ons ds graph.1.numbered (c.in_ok-marks.ensures graph.0 ons ds graph.1 (c.in_ok-on.ensures graph.0 graph.1.numbered))
    ∙ ap (λ (l : List AssignUses). least_from None (places_if (follows (dependences_of (map assign_in l)) ons) (reads_of processes))) c.as_slice.ensures
    ∙ ap (λ (l : List ProcessUses). least_from None (places_if (follows (dependences_of (map assign_in uses.assigns)) (flat_map blocking_of (map process_in l))) (reads_of l))) c.as_slice-processes.ensures
    ∙ ap (least_from None) (read_through_of uses u same clocked)
