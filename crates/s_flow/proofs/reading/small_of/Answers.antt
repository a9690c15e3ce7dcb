use Rattle.s_flow.proofs.reading.small_of.Goals as goal

pub returns-in-Some : goal.returns-in-Some
returns-in-Some c = record {
  module_ = c.in_ok-core_of.ensures.module_;
  derived = c.in_ok-core_of.ensures.derived;
  kept = c.in_ok-core_of.ensures.kept;
  small = rw c.tokens.ensures.value at (rw c.in-Some.is at c.in_ok-small.ensures.found);
}
