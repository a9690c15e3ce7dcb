use Rattle.std.proofs.Common.{List, ℕ}
use Rattle.lz_base.specs.Met.{Met}
use Rattle.v_meaning.specs.declared.names.Entry.{Entry}
use Rattle.v_scope.proofs.Judging.{EarlyGoes}
use Rattle.v_scope.proofs.rules.first_among.Given as goal

abbrev pub invariant-loop-occurrence : goal.invariant-loop-occurrence
invariant-loop-occurrence l = (names : List Entry) (ks ps : List (List ℕ)) → Met l.known ks → Met l.parameters ps → EarlyGoes names ks ps l.all l.occurrence-index l.ended l.first
