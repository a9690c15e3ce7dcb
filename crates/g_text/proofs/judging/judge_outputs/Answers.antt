use Rattle.std.proofs.Common.{◌≡◌, ◌∙◌, ◌++◌, ◌+◌, ◌≤◌, ◌<◌, ◌^◌, [], ◌∷◌, List, ℕ, Err, Some, slice_get, length, drop, flat_map, refl, ap, sym, arith}
use Rattle.std.proofs.lemmas.List.{drop_all}
use Rattle.std.proofs.lemmas.Result.{err_from_is_err_and}
use Rattle.lz_base.specs.declared.rule.Rule.TheVariants.{G2}
use Rattle.lz_base.proofs.Lists.{drop_next, item_there}
use Rattle.lz_lines.proofs.Listed.{flat_length}
use Rattle.lz_lines.proofs.MetNames.{judges_more}
use Rattle.g_net.specs.declared.network.Output.{Output}
use Rattle.g_text.specs.Referred.{wrong_outputs}
use Rattle.g_text.specs.Text.{named_line}
use Rattle.g_text.proofs.judging.judge_outputs.Goals as goal

pub returns-in_err-at : goal.returns-in_err-at
returns-in_err-at c names met =
    let outputs = c.args.outputs.now in
    let i = c.loop-output.output-index in
    let bound : i < length outputs = omega arith in
    let split : drop i outputs ≡ c.output-item.result ∷ drop (i + 1) outputs = drop_next outputs i _ (item_there outputs i c.output-item.result bound c.output-item.is) in
    let g = c.loop-output.invariant.names names met in
    let p = err_from_is_err_and c.from_residual.result c.from_residual.ensures.1 in
    judges_more G2 c.from_residual.result _ _ _ _ _ (p.1 ∙ ap Err p.2) (c.in_err-at.ensures.judged g.0 g.1) (g.2 ∙ ap (wrong_outputs g.0 c.args.count c.loop-output.at) split)

pub loop-output-preserved : goal.loop-output-preserved
loop-output-preserved c =
    let outputs = c.args.outputs.now in
    let i = c.loop-output.output-index in
    let o = c.output-item.result in
    let bound : i < length outputs = omega arith in
    let split : drop i outputs ≡ o ∷ drop (i + 1) outputs = drop_next outputs i _ (item_there outputs i o bound c.output-item.is) in
    let counted : length (flat_map named_line (drop i outputs)) ≡ length (named_line o) + length (flat_map named_line (drop (i + 1) outputs)) =
    ap (λ (os : List Output). length (flat_map named_line os)) split ∙ flat_length named_line o (drop (i + 1) outputs) in
    record {
      place = omega (arith, c.loop-output.invariant.place, counted, c.in_ok-at.ensures.place);
      names = λ names met.
          let g = c.loop-output.invariant.names names met in (
            g.0 ++ o.name ∷ [],
            c.in_ok-at.ensures.met g.0 g.1,
            g.2 ∙ ap (wrong_outputs g.0 c.args.count c.loop-output.at) split
                ∙ ap (λ l. l ++ wrong_outputs (g.0 ++ o.name ∷ []) c.args.count (c.loop-output.at + length (named_line o)) (drop (i + 1) outputs)) (c.in_ok-at.ensures.judged g.0 g.1).1
                ∙ ap (λ k. wrong_outputs (g.0 ++ o.name ∷ []) c.args.count k (drop (i + 1) outputs)) (sym c.in_ok-at.ensures.place),
          );
    }

pub returns : goal.returns
returns c names met =
    let past : length c.args.outputs.now ≤ c.loop-output.output-index = omega arith in
    let none : drop c.loop-output.output-index c.args.outputs.now ≡ [] = drop_all c.loop-output.output-index c.args.outputs.now past in
    let g = c.loop-output.invariant.names names met in
    let counted : length (flat_map named_line (drop c.loop-output.output-index c.args.outputs.now)) ≡ 0 = ap (λ (os : List Output). length (flat_map named_line os)) none in
    (omega (arith, c.loop-output.invariant.place, counted), g.2 ∙ ap (wrong_outputs g.0 c.args.count c.loop-output.at) none)
