use Rattle.v_lexer.proofs.Steps.{cast_begins, no_cast}
use Rattle.v_lexer.proofs.words.cast.Goals as goal

pub returns-in-Some-clause-found : goal.returns-in-Some-clause-found
returns-in-Some-clause-found c = cast_begins _ _ _ _ c.requires c.in-Some.ensures.found c.split.ensures.front c.split.ensures.rest

pub returns-in-None-clause-none : goal.returns-in-None-clause-none
returns-in-None-clause-none c = no_cast _ _ c.requires c.in-None.ensures.none c.split.ensures.front
