use Rattle.std.proofs.Common.{sym}
use Rattle.v_lexer.proofs.Steps.{no_token, some_without_token}
use Rattle.v_lexer.proofs.lexing.lexeme.Goals as goal

pub returns-in-White-clause-none : goal.returns-in-White-clause-none
returns-in-White-clause-none c = no_token _ _ (sym c.kind_of.ensures) (some_without_token _ c.in-White.is)
