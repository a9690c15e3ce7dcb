use Rattle.v_lexer.proofs.Steps.{word_begins}
use Rattle.v_lexer.proofs.words.word.Goals as goal

pub returns : goal.returns
returns c = word_begins _ _ _ _ c.requires c.in_ok-word_lexeme.ensures.form c.in_ok-word_lexeme.ensures.bytes c.split.ensures.front c.split.ensures.rest
