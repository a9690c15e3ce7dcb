use Rattle.std.proofs.Common.{◌<◌, List, ℕ, length, map, take, ◌++◌, [], ◌∷◌, ap, sym, ◌∙◌, arith}
use Rattle.std.proofs.Math.ListN.{length-set}
use Rattle.std.proofs.lemmas.List.{take_more_set, map-append}
use Rattle.lz_base.specs.Bits.{word_of}
use Rattle.lz_base.specs.WordValue.{WordValue}
use Rattle.lz_circuit.specs.Values.{value_at}
use Rattle.lz_base.proofs.Lists.{take_next}
use Rattle.n_sim.proofs.sim.show.Goals as goal

pub loop-i-preserved : goal.loop-i-preserved
loop-i-preserved c =
    let lt : c.loop-i.i < length c.loop-i.out = omega (arith, ap length c.outputs-i-end.ensures.ports) in
    let f = λ (nets : List ℕ). word_of (map (value_at c.args.nets.now) nets) in
    let front = take c.loop-i.i c.args.netlist.now.nets in (
      omega (arith, length-set {A = WordValue}),
      take_more_set c.loop-i.out c.loop-i.i c.word_at.result lt
          ∙ ap (λ l. l ++ c.word_at.result ∷ []) c.loop-i.invariant.1
          ∙ ap (λ w. map f front ++ w ∷ []) c.word_at.ensures
          ∙ sym (map-append f front (c.output_nets.result.now ∷ []))
          ∙ ap (map f) (sym (take_next c.args.netlist.now.nets c.loop-i.i c.output_nets.result.now c.output_nets.ensures.nets)),
    )
