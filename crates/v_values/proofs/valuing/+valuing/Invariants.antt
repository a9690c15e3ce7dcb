use Rattle.std.proofs.Common.{◌≡◌, drop}
use Rattle.v_core.specs.Values.{chain_value, link_values}
use Rattle.v_core.specs.Formed.{Formed}
use Rattle.v_values.specs.Chains.{Begins}
use Rattle.v_values.proofs.Chains.{Follows}
use Rattle.v_values.proofs.Parts.{AreLeft}
use Rattle.v_values.proofs.valuing.+valuing.Given as goal

abbrev pub invariant-chained-loop-link : goal.invariant-chained-loop-link
invariant-chained-loop-link l = record {
  value : chain_value l.left (link_values (drop l.link-index l.links)) l.names l.now.view ≡ chain_value l.first (link_values l.links) l.names l.now.view;
  follows : (form : Formed) → Begins form l.first l.links l.names → Follows form l.links (drop l.link-index l.links) l.names l.left;
}

abbrev pub invariant-joined-loop-bits : goal.invariant-joined-loop-bits
invariant-joined-loop-bits l = AreLeft l.parts (drop l.bits-index l.parts) l.names l.now.view l.width l.all
