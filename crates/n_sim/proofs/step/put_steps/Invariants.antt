use Rattle.std.proofs.Common.{◌≡◌, ◌+◌, ℕ, length, take, drop}
use Rattle.n_sim.specs.Lanes.{stream}
use Rattle.n_sim.specs.Steps.{AreBackwards, run_steps}
use Rattle.n_sim.proofs.step.put_steps.Given as goal

abbrev pub invariant-loop-step : goal.invariant-loop-step
invariant-loop-step l = record {
  next : l.next ≡ l.first + l.step-index;
  long : length l.words ≡ length l.initial.words;
  back : AreBackwards l.next (drop l.step-index l.steps);
  run : (j : ℕ) → run_steps (take l.next (stream j l.words)) (drop l.step-index l.steps) ≡ run_steps (take l.first (stream j l.initial.words)) l.steps;
}
