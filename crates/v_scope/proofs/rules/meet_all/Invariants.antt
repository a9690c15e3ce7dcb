use Rattle.std.proofs.Common.{List, []}
use Rattle.lz_base.specs.Met.{Met}
use Rattle.v_meaning.specs.declared.names.Entry.{Entry}
use Rattle.v_scope.proofs.Judging.{NamesGo}
use Rattle.v_scope.proofs.rules.meet_all.Given as goal

abbrev pub invariant-loop-occurrence : goal.invariant-loop-occurrence
invariant-loop-occurrence l = (names : List Entry) → Met l.initial.known [] → Met l.initial.parameters [] → NamesGo names l.all l.occurrence-index l.known l.parameters
