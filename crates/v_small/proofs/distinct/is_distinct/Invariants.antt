use Rattle.std.proofs.Common.{ℕ, List, map, take, Bor}
use Rattle.lz_base.specs.Met.{Met}
use Rattle.lz_base.specs.Names.{AreDistinct}
use Rattle.v_small.proofs.distinct.is_distinct.Given as goal

abbrev pub invariant-loop-name : goal.invariant-loop-name
invariant-loop-name l = record {
  distinct : AreDistinct (map (λ (n : Bor (List ℕ)). n.now) (take l.name-index l.names));
  met : Met l.met (map (λ (n : Bor (List ℕ)). n.now) (take l.name-index l.names));
}
