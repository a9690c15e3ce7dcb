use Rattle.std.proofs.Common.{◌≡◌, ◌<◌, ◌+◌, length, drop}
use Rattle.std.specs.List.{AllWithin}
use Rattle.g_net.specs.declared.proposal.Line.{Line}
use Rattle.m_valid.specs.Validity.{first_broken, roots_hold}
use Rattle.m_valid.proofs.roots.wrong_root.Given as goal

abbrev pub invariant-loop-i : goal.invariant-loop-i
invariant-loop-i l = record {
  first : first_broken (l.i + 1) (roots_hold l.nodes l.least (drop l.i l.lines)) ≡ first_broken 1 (roots_hold l.nodes 0 l.lines);
  there : AllWithin (λ (m : Line). m.root < length l.nodes) l.lines 0 l.i;
}
