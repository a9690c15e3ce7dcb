use Rattle.v_machine.proofs.FirstWords.{AreLeft}
use Rattle.v_machine.proofs.making.first_words.Given as goal

abbrev pub invariant-loop : goal.invariant-loop
invariant-loop l = AreLeft l.width l.count l.counter l.bits l.words.items l.left
