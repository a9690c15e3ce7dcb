use Rattle.std.proofs.Common.{◌≡◌, ◌<◌, ℕ, true, length, take}
use Rattle.v_depends.specs.Nodes.{is_in, row}
use Rattle.v_depends.proofs.turns.wait_for.Given as goal

abbrev pub invariant-loop-on : goal.invariant-loop-on
invariant-loop-on l = record {
  long : length l.waiting.items ≡ length l.initial.waiting.items;
  keeps : (other on : ℕ) → is_in other (row l.initial.waiting.items on) ≡ true → is_in other (row l.waiting.items on) ≡ true;
  adds : (on : ℕ) → is_in on (take l.on-index l.needed) ≡ true → on < length l.initial.waiting.items → is_in l.node (row l.waiting.items on) ≡ true;
}
