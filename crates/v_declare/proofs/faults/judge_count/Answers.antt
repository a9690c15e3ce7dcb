use Rattle.std.proofs.Common.{List, ap, sym, ◌∙◌}
use Rattle.v_meaning.specs.declared.names.Entry.{Entry}
use Rattle.v_meaning.specs.Proper.{is_count, proper_value}
use Rattle.v_declare.proofs.Walking.{at_place, no_place}
use Rattle.v_declare.proofs.ExprFaults.{count_is}
use Rattle.v_declare.proofs.faults.judge_count.Goals as goal

pub returns-then-is_between_1_and_128 : goal.returns-then-is_between_1_and_128
returns-then-is_between_1_and_128 c =
    no_place (is_count c.args.names.now c.args.x.now) c.args.at
    (sym (count_is c.args.names.now c.args.x.now _ _ (c.in_ok-proper_value.ensures ∙ ap (λ (names : List Entry). proper_value names c.args.x.now) c.names.ensures) c.is_between_1_and_128.ensures)
    ∙ c.if-is_between_1_and_128.true)

pub returns-else-is_between_1_and_128 : goal.returns-else-is_between_1_and_128
returns-else-is_between_1_and_128 c =
    at_place (is_count c.args.names.now c.args.x.now) c.args.at _
    (sym (count_is c.args.names.now c.args.x.now _ _ (c.in_ok-proper_value.ensures ∙ ap (λ (names : List Entry). proper_value names c.args.x.now) c.names.ensures) c.is_between_1_and_128.ensures)
    ∙ c.if-is_between_1_and_128.false) c.improper.ensures
