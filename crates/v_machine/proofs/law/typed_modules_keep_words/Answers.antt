use Rattle.v_machine.proofs.TypedWords.{words_kept}
use Rattle.v_machine.proofs.law.typed_modules_keep_words.Goals as goal

pub returns : goal.returns
returns c = words_kept c.names_are_numbered.ensures c.first_values_fit.ensures
