use Rattle.std.proofs.Common.{refl, ap, sym, ◌∙◌, ℕ}
use Rattle.std.specs.Prelude.{not}
use Rattle.v_syntax.specs.declared.expr.BinaryOperator.{BinaryOperator}
use Rattle.v_syntax.specs.declared.expr.Expr.{Expr}
use Rattle.v_meaning.specs.Senses.{Sense, constant, prefixed, recast, chosen, chained, joined, replicated}
use Rattle.v_meaning.specs.Names.{or_zero}
use Rattle.v_meaning.specs.Proper.{is_proper, is_between_1_and_128}
use Rattle.v_constants.specs.Bodies.{sense_in}
use Rattle.v_constants.specs.Constants.{constant_sense}
use Rattle.v_constants.specs.Verdicts.{senses, link_senses, are_links_proper, is_part, are_parts}
use Rattle.v_constants.proofs.OpenLaws.{both, not_first, not_second}
use Rattle.v_constants.proofs.SenseLaws.{sense_unary, sense_cast, sense_conditional, sense_chain, sense_concat, sense_replicate}
use Rattle.v_constants.proofs.ProperLaws.{proper_unary, proper_cast, proper_conditional, proper_chain, proper_concat, proper_replicate}
use Rattle.v_constants.proofs.Turns.{this_decides, others_decide, all_passed}
use Rattle.v_constants.proofs.Steps.{missed, missed_word, chained_next, chained_done, joined_next, joined_done, too_wide, count_between}
use Rattle.v_constants.proofs.opening.+opening.Goals as goal

pub opened-returns-in-Number : goal.opened-returns-in-Number
opened-returns-in-Number t c =
    rw c.in-Number.is (c.number.ensures c.args.names.now)

pub opened-returns-in_err-x-in-Unary : goal.opened-returns-in_err-x-in-Unary
opened-returns-in_err-x-in-Unary t c =
    missed (is_proper c.args.names.now c.get.result.now) (is_proper c.args.names.now c.args.x.now) (constant_sense c.args.names.now c.args.x.now) _ _ c.from_residual.ensures.1 c.in_err-x-in-Unary.ensures (λ h. proper_unary c.args.names.now c.args.x.now _ _ _ c.in-Unary.is c.get.ensures ∙ h)

pub opened-returns-in_ok-o-in-Unary : goal.opened-returns-in_ok-o-in-Unary
opened-returns-in_ok-o-in-Unary t c =
    record {
      is_proper = proper_unary c.args.names.now c.args.x.now _ _ _ c.in-Unary.is c.get.ensures ∙ c.in_ok-x-in-Unary.ensures.is_proper;
      sense = c.in_ok-o-in-Unary.ensures.sense ∙ ap (prefixed c.in-Unary.operator) c.in_ok-x-in-Unary.ensures.sense ∙ sym (sense_unary c.args.names.now c.args.x.now _ _ _ c.in-Unary.is c.get.ensures);
      kept = c.in_ok-o-in-Unary.ensures.kept;
    }

pub opened-returns-in_err-x-in-Cast : goal.opened-returns-in_err-x-in-Cast
opened-returns-in_err-x-in-Cast t c =
    missed (is_proper c.args.names.now c.get-in-Cast.result.now) (is_proper c.args.names.now c.args.x.now) (constant_sense c.args.names.now c.args.x.now) _ _ c.from_residual-in_err-x-in-Cast.ensures.1 c.in_err-x-in-Cast.ensures (λ h. proper_cast c.args.names.now c.args.x.now _ _ _ c.in-Cast.is c.get-in-Cast.ensures ∙ h)

pub opened-returns-in_ok-x-in-Cast : goal.opened-returns-in_ok-x-in-Cast
opened-returns-in_ok-x-in-Cast t c =
    record {
      is_proper = proper_cast c.args.names.now c.args.x.now _ _ _ c.in-Cast.is c.get-in-Cast.ensures ∙ c.in_ok-x-in-Cast.ensures.is_proper;
      sense = c.recast.ensures.sense ∙ ap (recast c.in-Cast.sign) c.in_ok-x-in-Cast.ensures.sense ∙ sym (sense_cast c.args.names.now c.args.x.now _ _ _ c.in-Cast.is c.get-in-Cast.ensures);
      kept = c.recast.ensures.kept;
    }

pub opened-returns-in_err-c-in-Conditional : goal.opened-returns-in_err-c-in-Conditional
opened-returns-in_err-c-in-Conditional t c =
    missed (is_proper c.args.names.now c.get-in-Conditional.result.now) (is_proper c.args.names.now c.args.x.now) (constant_sense c.args.names.now c.args.x.now) _ _ c.from_residual-in_err-c-in-Conditional.ensures.1 c.in_err-c-in-Conditional.ensures (λ h. proper_conditional c.args.names.now c.args.x.now _ _ _ _ _ _ c.in-Conditional.is c.get-in-Conditional.ensures refl refl ∙ not_first _ _ (not_first _ _ h))

pub opened-returns-in_err-x-in-Conditional : goal.opened-returns-in_err-x-in-Conditional
opened-returns-in_err-x-in-Conditional t c =
    missed (is_proper c.args.names.now c.get-in-Conditional-2.result.now) (is_proper c.args.names.now c.args.x.now) (constant_sense c.args.names.now c.args.x.now) _ _ c.from_residual-in_err-x-in-Conditional.ensures.1 c.in_err-x-in-Conditional.ensures (λ h. proper_conditional c.args.names.now c.args.x.now _ _ _ _ _ _ c.in-Conditional.is c.get-in-Conditional.ensures c.get-in-Conditional-2.ensures refl ∙ not_first _ _ (not_second _ _ h))

pub opened-returns-in_err-y-in-Conditional : goal.opened-returns-in_err-y-in-Conditional
opened-returns-in_err-y-in-Conditional t c =
    missed (is_proper c.args.names.now c.get-in-Conditional-3.result.now) (is_proper c.args.names.now c.args.x.now) (constant_sense c.args.names.now c.args.x.now) _ _ c.from_residual-in_err-y-in-Conditional.ensures.1 c.in_err-y-in-Conditional.ensures (λ h. proper_conditional c.args.names.now c.args.x.now _ _ _ _ _ _ c.in-Conditional.is c.get-in-Conditional.ensures c.get-in-Conditional-2.ensures c.get-in-Conditional-3.ensures ∙ not_second _ _ h)

pub opened-returns-in_ok-y-in-Conditional : goal.opened-returns-in_ok-y-in-Conditional
opened-returns-in_ok-y-in-Conditional t c =
    record {
      is_proper = proper_conditional c.args.names.now c.args.x.now _ _ _ _ _ _ c.in-Conditional.is c.get-in-Conditional.ensures c.get-in-Conditional-2.ensures c.get-in-Conditional-3.ensures ∙ both _ _ (both _ _ c.in_ok-c-in-Conditional.ensures.is_proper c.in_ok-x-in-Conditional.ensures.is_proper) c.in_ok-y-in-Conditional.ensures.is_proper;
      sense = c.chosen.ensures.sense ∙ (λ i. chosen (c.in_ok-c-in-Conditional.ensures.sense i) (c.in_ok-x-in-Conditional.ensures.sense i) (c.in_ok-y-in-Conditional.ensures.sense i)) ∙ sym (sense_conditional c.args.names.now c.args.x.now _ _ _ _ _ _ c.in-Conditional.is c.get-in-Conditional.ensures c.get-in-Conditional-2.ensures c.get-in-Conditional-3.ensures);
      kept = c.chosen.ensures.kept;
    }

pub opened-returns-in_err-first-in-Chain : goal.opened-returns-in_err-first-in-Chain
opened-returns-in_err-first-in-Chain t c =
    missed (is_proper c.args.names.now c.get-in-Chain.result.now) (is_proper c.args.names.now c.args.x.now) (constant_sense c.args.names.now c.args.x.now) _ _ c.from_residual-in_err-first-in-Chain.ensures.1 c.in_err-first-in-Chain.ensures (λ h. proper_chain c.args.names.now c.args.x.now _ _ _ _ c.in-Chain.is c.get-in-Chain.ensures refl ∙ not_first _ _ h)

pub opened-returns-in_err-o-in-Chain : goal.opened-returns-in_err-o-in-Chain
opened-returns-in_err-o-in-Chain t c =
    missed (are_links_proper c.args.names.now c.as_slice.result.now) (is_proper c.args.names.now c.args.x.now) (constant_sense c.args.names.now c.args.x.now) _ _ c.from_residual-in_err-o-in-Chain.ensures.1 c.in_err-o-in-Chain.ensures (λ h. proper_chain c.args.names.now c.args.x.now _ _ _ _ c.in-Chain.is c.get-in-Chain.ensures c.as_slice.ensures ∙ not_second _ _ h)

pub opened-returns-in_ok-o-in-Chain : goal.opened-returns-in_ok-o-in-Chain
opened-returns-in_ok-o-in-Chain t c =
    record {
      is_proper = proper_chain c.args.names.now c.args.x.now _ _ _ _ c.in-Chain.is c.get-in-Chain.ensures c.as_slice.ensures ∙ both _ _ c.in_ok-first-in-Chain.ensures.is_proper c.in_ok-o-in-Chain.ensures.is_proper;
      sense = c.in_ok-o-in-Chain.ensures.sense ∙ ap (λ (s : Sense). chained s (link_senses c.args.names.now c.as_slice.result.now)) c.in_ok-first-in-Chain.ensures.sense
          ∙ sym (sense_chain c.args.names.now c.args.x.now _ _ _ _ c.in-Chain.is c.get-in-Chain.ensures c.as_slice.ensures);
      kept = c.in_ok-o-in-Chain.ensures.kept;
    }

pub opened-returns-in_err-word-in-Concat : goal.opened-returns-in_err-word-in-Concat
opened-returns-in_err-word-in-Concat t c =
    missed (are_parts c.args.names.now 1 c.as_slice-in-Concat.result.now) (is_proper c.args.names.now c.args.x.now) (constant_sense c.args.names.now c.args.x.now) _ _ c.from_residual-in_err-word-in-Concat.ensures.1 c.in_err-word-in-Concat.ensures (λ h. proper_concat c.args.names.now c.args.x.now _ _ _ c.in-Concat.is c.as_slice-in-Concat.ensures ∙ h)

pub opened-returns-in_ok-word-in-Concat : goal.opened-returns-in_ok-word-in-Concat
opened-returns-in_ok-word-in-Concat t c =
    record {
      is_proper = proper_concat c.args.names.now c.args.x.now _ _ _ c.in-Concat.is c.as_slice-in-Concat.ensures ∙ c.in_ok-word-in-Concat.ensures.is_proper;
      sense = c.unsigned.ensures.sense ∙ c.in_ok-word-in-Concat.ensures.sense ∙ sym (sense_concat c.args.names.now c.args.x.now _ _ _ c.in-Concat.is c.as_slice-in-Concat.ensures);
      kept = c.unsigned.ensures.kept;
    }

pub opened-returns-in_err-count-in-Replicate : goal.opened-returns-in_err-count-in-Replicate
opened-returns-in_err-count-in-Replicate t c =
    missed (is_proper c.args.names.now c.get-in-Replicate.result.now) (is_proper c.args.names.now c.args.x.now) (constant_sense c.args.names.now c.args.x.now) _ _ c.from_residual-in_err-count-in-Replicate.ensures.1 c.in_err-count-in-Replicate.ensures (λ h. proper_replicate c.args.names.now c.args.x.now _ _ _ _ _ _ _ c.in-Replicate.is c.get-in-Replicate.ensures refl ∙ not_first _ _ (not_first _ _ h))

pub opened-returns-in_err-count-in-Replicate-2 : goal.opened-returns-in_err-count-in-Replicate-2
opened-returns-in_err-count-in-Replicate-2 t c =
    missed (is_between_1_and_128 (constant (sense_in c.in_ok-count-in-Replicate.count))) (is_proper c.args.names.now c.args.x.now) (constant_sense c.args.names.now c.args.x.now) _ _ c.from_residual-in_err-count-in-Replicate-2.ensures.1 c.in_err-count-in-Replicate-2.ensures (λ h. proper_replicate c.args.names.now c.args.x.now _ _ _ _ _ _ _ c.in-Replicate.is c.get-in-Replicate.ensures refl ∙ not_first _ _ (not_second _ _ (ap (λ (s : Sense). is_between_1_and_128 (constant s)) (sym c.in_ok-count-in-Replicate.ensures.sense) ∙ h)))

pub opened-returns-in_err-word-in-Replicate : goal.opened-returns-in_err-word-in-Replicate
opened-returns-in_err-word-in-Replicate t c =
    missed (are_parts c.args.names.now c.in_ok-count-in-Replicate-2.count c.as_slice-in-Replicate.result.now) (is_proper c.args.names.now c.args.x.now) (constant_sense c.args.names.now c.args.x.now) _ _ c.from_residual-in_err-word-in-Replicate.ensures.1 c.in_err-word-in-Replicate.ensures (λ h. proper_replicate c.args.names.now c.args.x.now _ _ _ _ _ _ _ c.in-Replicate.is c.get-in-Replicate.ensures c.as_slice-in-Replicate.ensures ∙ not_second _ _ (ap (λ (k : ℕ). are_parts c.args.names.now k c.as_slice-in-Replicate.result.now) (ap (λ (s : Sense). or_zero (constant s)) (sym c.in_ok-count-in-Replicate.ensures.sense) ∙ ap or_zero c.in_ok-count-in-Replicate-2.ensures.counted) ∙ h))

pub opened-returns-in_ok-word-in-Replicate : goal.opened-returns-in_ok-word-in-Replicate
opened-returns-in_ok-word-in-Replicate t c =
    record {
      is_proper = proper_replicate c.args.names.now c.args.x.now _ _ _ _ _ _ _ c.in-Replicate.is c.get-in-Replicate.ensures c.as_slice-in-Replicate.ensures
          ∙ both _ _ (both _ _ c.in_ok-count-in-Replicate.ensures.is_proper (ap (λ (s : Sense). is_between_1_and_128 (constant s)) (sym c.in_ok-count-in-Replicate.ensures.sense) ∙ count_between _ _ c.in_ok-count-in-Replicate-2.ensures))
          (ap (λ (k : ℕ). are_parts c.args.names.now k c.as_slice-in-Replicate.result.now) (ap (λ (s : Sense). or_zero (constant s)) (sym c.in_ok-count-in-Replicate.ensures.sense) ∙ ap or_zero c.in_ok-count-in-Replicate-2.ensures.counted) ∙ c.in_ok-word-in-Replicate.ensures.is_proper);
      sense = c.replicated.ensures.sense ∙ ap (replicated c.in_ok-count-in-Replicate-2.count) c.in_ok-word-in-Replicate.ensures.sense
          ∙ ap (λ (k : ℕ). replicated k (joined (senses c.args.names.now c.as_slice-in-Replicate.result.now))) (sym (ap (λ (s : Sense). or_zero (constant s)) (sym c.in_ok-count-in-Replicate.ensures.sense) ∙ ap or_zero c.in_ok-count-in-Replicate-2.ensures.counted))
          ∙ sym (sense_replicate c.args.names.now c.args.x.now _ _ _ _ _ _ _ c.in-Replicate.is c.get-in-Replicate.ensures c.as_slice-in-Replicate.ensures);
      kept = c.replicated.ensures.kept;
    }

pub chained-returns-in_err-y : goal.chained-returns-in_err-y
chained-returns-in_err-y t c =
    missed (is_proper c.args.names.now c.loop-operator-item.result.1) (are_links_proper c.args.names.now c.args.links.now) (chained (sense_in c.args.first) (link_senses c.args.names.now c.args.links.now)) _ _ c.from_residual.ensures.1 c.in_err-y.ensures
    (λ h. this_decides (λ (l : BinaryOperator × Expr). is_proper c.args.names.now l.1) c.args.links.now _ _ _ c.loop-operator-test.true c.loop-operator-item.is h c.loop-operator.invariant.proper)

pub chained-loop-operator-preserved : goal.chained-loop-operator-preserved
chained-loop-operator-preserved t c =
    record {
      sense = chained_next c.args.names.now _ _ _ _ c.args.links.now _ _ c.loop-operator-test.true c.loop-operator-item.is c.in_ok-y.ensures.sense c.in_ok-all.ensures.sense c.loop-operator.invariant.sense;
      kept = c.in_ok-all.ensures.kept;
      proper = others_decide (λ (l : BinaryOperator × Expr). is_proper c.args.names.now l.1) c.args.links.now _ _ _ c.loop-operator-test.true c.loop-operator-item.is c.in_ok-y.ensures.is_proper c.loop-operator.invariant.proper;
    }

pub chained-returns : goal.chained-returns
chained-returns t c =
    record {
      is_proper = all_passed (λ (l : BinaryOperator × Expr). is_proper c.args.names.now l.1) c.args.links.now _ _ c.loop-operator-test.false c.loop-operator.invariant.proper;
      sense = chained_done c.args.names.now _ _ c.args.links.now _ c.loop-operator-test.false c.loop-operator.invariant.sense;
      kept = c.loop-operator.invariant.kept;
    }

pub joined-returns-in_err-part : goal.joined-returns-in_err-part
joined-returns-in_err-part t c =
    missed_word c.args.count (is_proper c.args.names.now c.x-item.result) (are_parts c.args.names.now c.args.count c.args.parts.now) (joined (senses c.args.names.now c.args.parts.now)) _ _ c.from_residual.ensures.1 c.in_err-part.ensures
    (λ h. not_first _ _ (this_decides (is_part c.args.names.now) c.args.parts.now _ _ _ c.loop-x-test.true c.x-item.is (not_second _ _ h) c.loop-x.invariant.proper))

pub joined-returns : goal.joined-returns
joined-returns t c =
    joined_done c.args.names.now c.args.count c.args.parts.now _ _ _ _ c.loop-x-test.false c.loop-x.invariant.sense c.loop-x.invariant.proper c.whole.ensures

pub joined-returns-then-width-part-gt128 : goal.joined-returns-then-width-part-gt128
joined-returns-then-width-part-gt128 t c =
    not_second _ _
    (too_wide c.args.names.now c.args.count c.args.parts.now _ _ _ _ c.in_ok-part.part _ c.requires.has_one c.loop-x-test.true c.x-item.is c.in_ok-part.ensures.sense c.loop-x.invariant.sense
    c.if-width-part-gt128.true)

pub joined-loop-x-preserved : goal.joined-loop-x-preserved
joined-loop-x-preserved t c = record {
  sense = joined_next c.args.names.now c.args.parts.now _ _ _ _ c.in_ok-part.part _ _ _ c.loop-x-test.true c.x-item.is c.in_ok-part.ensures.sense c.own.ensures.value c.beside-value.ensures.value
      c.loop-x.invariant.sense;
  within = c.if-width-part-gt128.false;
  below = c.beside-value.ensures.below;
  proper = others_decide (is_part c.args.names.now) c.args.parts.now _ _ _ c.loop-x-test.true c.x-item.is
      (both _ _ (ap not (sym c.is_unsized.ensures ∙ c.if-is_unsized.false)) c.in_ok-part.ensures.is_proper) c.loop-x.invariant.proper;
}
