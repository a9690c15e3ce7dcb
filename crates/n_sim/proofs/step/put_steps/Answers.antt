use Rattle.std.proofs.Common.{◌≡◌, ◌<◌, ◌+◌, ◌∷◌, ◌∙◌, ℕ, length, take, drop, get_or, ap, sym, arith, refl, add-one, drop-cons}
use Rattle.std.proofs.Math.ListN.{length-set}
use Rattle.n_sim.specs.declared.step.Step.{Step}
use Rattle.n_sim.specs.Lanes.{stream}
use Rattle.n_sim.specs.Steps.{run_steps}
use Rattle.n_sim.proofs.Steps.{word_on}
use Rattle.n_sim.proofs.step.put_steps.Goals as goal

pub loop-step-preserved : goal.loop-step-preserved
loop-step-preserved c =
    let d : Step = record { base = 0; change = 0; by = 0 } in
    let i = c.loop-step.step-index in
    let steps = c.args.steps.now in
    let lt : i < length steps = omega arith in
    let more : drop i steps ≡ get_or steps i d ∷ drop (i + 1) steps = drop-cons steps i d lt ∙ rw (add-one i) refl in
    let back = rw more at c.loop-step.invariant.back in
    let here : c.loop-step.next < length c.loop-step.words = omega (arith, c.loop-step.invariant.next, c.loop-step.invariant.long) in
    record {
      next = omega (arith, c.loop-step.invariant.next);
      long = omega (arith, length-set {A = ℕ}, c.loop-step.invariant.long);
      back = back.1;
      run = λ j.
          ap (λ l. run_steps l (drop (i + 1) steps)) (word_on j c.loop-step.words c.loop-step.next (get_or steps i d) here back.0)
          ∙ ap (run_steps (take c.loop-step.next (stream j c.loop-step.words))) (sym more)
          ∙ c.loop-step.invariant.run j;
    }
