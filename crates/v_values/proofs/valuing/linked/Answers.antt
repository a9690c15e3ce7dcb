use Rattle.std.proofs.Common.{◌≡◌, ◌<◌, sym, ap, subst, ◌∙◌, ℕ, true}
use Rattle.std.specs.Prelude.{◌^◌}
use Rattle.v_meaning.specs.Senses.{class_of, operation}
use Rattle.v_core.specs.Formed.{is_width}
use Rattle.v_words.specs.Operands.{AreOperands}
use Rattle.v_values.proofs.Tests.{has_bit, within}
use Rattle.v_values.proofs.Links.{word_of_link, operands_of_link, at_any_width, link_result}
use Rattle.v_values.proofs.valuing.linked.Goals as goal

pub operate-requires : goal.operate-requires
operate-requires c =
    let h = c.requires.kept.2 in
    let word = subst (λ (w : ℕ). is_width w ≡ true) (sym c.working_width.ensures) (word_of_link (class_of c.args.link.operator) c.args.link c.requires.kept.0 c.requires.kept.1 h.kept) in
    record {
      has_bit = has_bit _ word;
      within = within _ word;
      operands = subst (λ (w : ℕ). AreOperands (class_of c.args.link.operator) w c.args.left c.args.right) (sym c.working_width.ensures) (operands_of_link c.args.link c.requires.kept.0 c.requires.kept.1 c.args.left c.args.right h);
    }

pub returns : goal.returns
returns c =
    let same = c.operate.ensures.value ∙ ap (λ (w : ℕ). operation c.args.link.operator w c.args.link.signed c.args.left c.args.right) c.working_width.ensures ∙ at_any_width c.args.link.operator c.args.link.width c.args.link.signed c.args.left c.args.right in
    let below = subst (λ (w : ℕ). c.operate.result < 2 ^ w) c.working_width.ensures c.operate.ensures.below in
    record {
      value = same;
      below = λ x y. link_result c.args.link.operator c.args.link x y c.args.link.signed c.args.left c.args.right c.operate.result same below;
    }
