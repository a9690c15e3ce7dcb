use Rattle.v_lexer.proofs.OneReading.{one_list, one_place, not_both}
use Rattle.v_lexer.proofs.lexing.one_reading.Goals as goal

pub returns-clause-tokens : goal.returns-clause-tokens
returns-clause-tokens c = one_list

pub returns-clause-place : goal.returns-clause-place
returns-clause-place c = one_place

pub returns-clause-apart : goal.returns-clause-apart
returns-clause-apart c = not_both
