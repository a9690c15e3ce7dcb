use Rattle.std.proofs.Common.{◌≡◌, ◌+◌, ◌++◌, ◌∷◌, [], length, map, ap, sym, subst, ◌∙◌, arith, length-append}
use Rattle.lz_circuit.specs.Values.{value_at}
use Rattle.n_cells.specs.Netlist.{AllBelow}
use Rattle.n_sim.proofs.Cells.{below_wider}
use Rattle.n_sim.proofs.Places.{all_more, front_more}
use Rattle.n_sim.proofs.layout.front_places.Goals as goal

pub loop-i-preserved : goal.loop-i-preserved
loop-i-preserved c =
    let i = c.loop-i.i in
    let old = c.loop-i.places in
    let new : c.push.new.self ≡ old ++ i ∷ [] = c.in_ok-push.ensures.ok ∙ ap (λ p. old ++ p ∷ []) c.in_ok-place.ensures in
    record {
      count = omega (arith, ap length new, length-append old (i ∷ []), c.loop-i.invariant.count);
      there = subst (AllBelow (i + 1)) (sym new) (all_more (i + 1) old i (below_wider i (i + 1) old (omega arith) c.loop-i.invariant.there) (omega arith));
      same = λ front le. ap (map (value_at front)) new ∙ front_more front old i (omega (arith, le)) (c.loop-i.invariant.same front (omega (arith, le)));
    }
