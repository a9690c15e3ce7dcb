use Rattle.std.proofs.Common.{◌≡◌, ◌+◌, [], length, take, drop}
use Rattle.std.specs.List.{AllWithin}
use Rattle.m_valid.specs.Validity.{first_broken, leaves_hold, roots_of}
use Rattle.m_valid.specs.Walk.{IsReady, Tells}
use Rattle.m_valid.proofs.leaves.wrong_leaves.Given as goal

abbrev pub invariant-loop-i : goal.invariant-loop-i
invariant-loop-i l = record {
  first : first_broken (l.i + 1) (leaves_hold l.nodes l.most (roots_of (take l.i l.lines)) (drop l.i l.lines)) ≡ first_broken 1 (leaves_hold l.nodes l.most [] l.lines);
  roots : Tells l.roots (roots_of (take l.i l.lines));
  ready : AllWithin (IsReady (length l.nodes)) l.lines 0 l.i;
}
