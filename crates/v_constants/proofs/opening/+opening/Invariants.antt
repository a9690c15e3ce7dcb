use Rattle.std.proofs.Common.{◌≡◌, ◌<◌, ◌≤◌, drop}
use Rattle.std.specs.Prelude.{◌^◌}
use Rattle.std.specs.List.{list_all}
use Rattle.v_meaning.specs.Senses.{chained, joined, joined_behind}
use Rattle.v_constants.specs.Bodies.{sense_in, IsOpen}
use Rattle.v_constants.specs.Verdicts.{senses, link_senses, are_links_proper, is_part}
use Rattle.v_constants.proofs.Steps.{word_sense}
use Rattle.v_constants.proofs.opening.+opening.Given as goal

abbrev pub invariant-chained-loop-operator : goal.invariant-chained-loop-operator
invariant-chained-loop-operator l = record {
  sense : chained (sense_in l.all) (link_senses l.names (drop l.operator-index l.links)) ≡ chained (sense_in l.initial.all) (link_senses l.names l.links);
  kept : IsOpen l.all;
  proper : are_links_proper l.names (drop l.operator-index l.links) ≡ are_links_proper l.names l.links;
}

abbrev pub invariant-joined-loop-x : goal.invariant-joined-loop-x
invariant-joined-loop-x l = record {
  sense : joined_behind (word_sense l.width l.value) (senses l.names (drop l.x-index l.parts)) ≡ joined (senses l.names l.parts);
  within : l.width ≤ 128;
  below : l.value < 2 ^ l.width;
  proper : list_all (is_part l.names) (drop l.x-index l.parts) ≡ list_all (is_part l.names) l.parts;
}
