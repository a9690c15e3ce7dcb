use Rattle.std.proofs.Common.{List}
use Rattle.v_meaning.specs.declared.names.Entry.{Entry}
use Rattle.v_rules.proofs.Clocked.{AllFrom}
use Rattle.v_rules.proofs.checking.is_clocked.Given as goal

abbrev pub invariant-loop-item : goal.invariant-loop-item
invariant-loop-item l = (names : List Entry) → AllFrom names l.item-items l.item-index
