use Rattle.std.proofs.Common.{List}
use Rattle.v_meaning.specs.declared.names.Entry.{Entry}
use Rattle.v_scope.proofs.Judging.{NumbersGo}
use Rattle.v_scope.proofs.rules.first_wrong_number.Given as goal

abbrev pub invariant-loop-occurrence : goal.invariant-loop-occurrence
invariant-loop-occurrence l = (names : List Entry) → NumbersGo names l.all l.occurrence-index l.first
