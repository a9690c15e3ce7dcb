use Rattle.v_lexer.proofs.Steps.{plain_begins}
use Rattle.v_lexer.proofs.numbers.decimal.Goals as goal

pub returns : goal.returns
returns c = plain_begins _ _ _ _ c.requires c.in_ok-new.ensures c.split.ensures.front c.split.ensures.rest
