use Rattle.std.proofs.Common.{◌≡◌, ◌<◌, ◌+◌, ℕ, None, map, drop}
use Rattle.m_valid.specs.Validity.{first_broken, is_covered, has_table, cones_hold, tables_hold}
use Rattle.m_valid.specs.Walk.{known, sooner}
use Rattle.m_valid.proofs.cones.walk_lines.Given as goal

abbrev pub invariant-loop-i : goal.invariant-loop-i
invariant-loop-i l = record {
  unmarked : (later k : ℕ) → l.i < later → known l.marks later k ≡ None;
  covered : first_broken (l.i + 1) (map (is_covered l.nodes) (drop l.i l.lines)) ≡ first_broken 1 (cones_hold l.nodes l.lines);
  first : sooner l.wrong (first_broken (l.i + 1) (map (has_table l.nodes) (drop l.i l.lines))) ≡ first_broken 1 (tables_hold l.nodes l.lines);
}
