use Rattle.std.proofs.Common.{sym, ◌∙◌}
use Rattle.v_parser.proofs.ModuleRules.{reads_module}
use Rattle.v_parser.proofs.Refused.{found_at_end, only_at_end, refused_behind, none_behind, none_stopped}
use Rattle.v_parser.proofs.parsing.parse_tokens.Goals as goal

pub returns-then-is_empty-clause-found : goal.returns-then-is_empty-clause-found
returns-then-is_empty-clause-found c = found_at_end reads_module c.args.tokens.now c.in-Ok.rest.now c.in-Ok.module c.in-Ok.ensures.gives (sym c.is_empty.ensures ∙ c.if-is_empty.true)

pub returns-then-is_empty-clause-only : goal.returns-then-is_empty-clause-only
returns-then-is_empty-clause-only c = λ m h. only_at_end reads_module c.args.tokens.now c.in-Ok.rest.now c.in-Ok.module m c.in-Ok.ensures.gives (sym c.is_empty.ensures ∙ c.if-is_empty.true) h

pub returns-else-is_empty-clause-only : goal.returns-else-is_empty-clause-only
returns-else-is_empty-clause-only c = λ m h. none_behind reads_module c.args.tokens.now c.in-Ok.rest.now c.in-Ok.module m c.in-Ok.ensures.gives (sym c.is_empty.ensures ∙ c.if-is_empty.false) h

pub returns-else-is_empty-clause-refused : goal.returns-else-is_empty-clause-refused
returns-else-is_empty-clause-refused c =
    refused_behind reads_module c.args.tokens.now c.in-Ok.rest.now c.in-Ok.module c.args.end c.fault_at.result c.in-Ok.ensures.gives (sym c.is_empty.ensures ∙ c.if-is_empty.false) c.fault_at.ensures

pub returns-in-Err-At-clause-only : goal.returns-in-Err-At-clause-only
returns-in-Err-At-clause-only c = λ m h. none_stopped reads_module c.args.tokens.now m c.in-Err-At.field-0 _ c.in-Err-At.field-0-is c.in-Err-At.ensures.gives h
