use Rattle.std.proofs.Common.{List}
use Rattle.v_meaning.specs.declared.names.Entry.{Entry}
use Rattle.v_scope.proofs.Judging.{TwiceGoes}
use Rattle.v_scope.proofs.rules.first_twice.Given as goal

abbrev pub invariant-loop-occurrence : goal.invariant-loop-occurrence
invariant-loop-occurrence l = (names : List Entry) → TwiceGoes names l.all l.occurrence-index l.met l.first
