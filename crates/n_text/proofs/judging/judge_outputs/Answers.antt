use Rattle.std.proofs.Common.{◌≡◌, ◌∙◌, ◌++◌, ◌+◌, ◌≤◌, ◌<◌, [], ◌∷◌, List, ℕ, Err, length, drop, get_or, ap, sym, arith}
use Rattle.std.proofs.lemmas.List.{drop_all, length-append}
use Rattle.std.proofs.lemmas.Result.{err_from_is_err_and}
use Rattle.lz_base.specs.declared.name.Port.{Port}
use Rattle.lz_base.specs.declared.rule.Rule.TheVariants.{N2}
use Rattle.lz_lines.specs.Shared.{output_line}
use Rattle.lz_lines.proofs.MetNames.{judges_more}
use Rattle.n_cells.specs.Text.{output_lines}
use Rattle.n_text.specs.Referred.{wrong_outputs}
use Rattle.n_text.proofs.Outputs.{filled_next, output_lines_next, output_there, outputs_next}
use Rattle.n_text.proofs.judging.judge_outputs.Goals as goal

pub returns-in_err-at : goal.returns-in_err-at
returns-in_err-at c names met =
    let ports = c.args.ports.now in
    let nets = c.args.nets.now in
    let i = c.loop-i.i in
    let bound : i < length ports = omega arith in
    let there = output_there ports nets i c.index-ports-i.result c.as_slice.result.now c.index-nets-i.result c.requires.filled bound c.index-nets-i.is c.as_slice.ensures in
    let g = c.loop-i.invariant.names names met in
    let p = err_from_is_err_and c.from_residual.result c.from_residual.ensures.1 in
    judges_more N2 c.from_residual.result _ _ _ _ _ (p.1 ∙ ap Err p.2) (c.in_err-at.ensures.judged g.0 g.1) (g.2 ∙ outputs_next g.0 c.args.count c.loop-i.at ports nets i _ _ there.0 there.1)

pub loop-i-preserved : goal.loop-i-preserved
loop-i-preserved c =
    let ports = c.args.ports.now in
    let nets = c.args.nets.now in
    let i = c.loop-i.i in
    let port = get_or ports i c.index-ports-i.result in
    let line = output_line port.name c.as_slice.result.now in
    let bound : i < length ports = omega arith in
    let there = output_there ports nets i c.index-ports-i.result c.as_slice.result.now c.index-nets-i.result c.requires.filled bound c.index-nets-i.is c.as_slice.ensures in
    let counted : length (output_lines (drop i ports) (drop i nets)) ≡ length line + length (output_lines (drop (i + 1) ports) (drop (i + 1) nets)) =
    ap (λ (l : List ℕ). length l) (output_lines_next ports nets i _ _ there.0 there.1) ∙ length-append line (output_lines (drop (i + 1) ports) (drop (i + 1) nets)) in
    record {
      place = omega (arith, c.loop-i.invariant.place, counted, c.in_ok-at.ensures.place);
      filled = filled_next ports nets i _ _ there.0 there.1 c.loop-i.invariant.filled;
      names = λ names met.
          let g = c.loop-i.invariant.names names met in (
            g.0 ++ port.name ∷ [],
            c.in_ok-at.ensures.met g.0 g.1,
            g.2 ∙ outputs_next g.0 c.args.count c.loop-i.at ports nets i _ _ there.0 there.1
                ∙ ap (λ l. l ++ wrong_outputs (g.0 ++ port.name ∷ []) c.args.count (c.loop-i.at + length line) (drop (i + 1) ports) (drop (i + 1) nets)) (c.in_ok-at.ensures.judged g.0 g.1).1
                ∙ ap (λ k. wrong_outputs (g.0 ++ port.name ∷ []) c.args.count k (drop (i + 1) ports) (drop (i + 1) nets)) (sym c.in_ok-at.ensures.place),
          );
    }

pub returns : goal.returns
returns c names met =
    let past : length c.args.ports.now ≤ c.loop-i.i = omega arith in
    let none : drop c.loop-i.i c.args.ports.now ≡ [] = drop_all c.loop-i.i c.args.ports.now past in
    let g = c.loop-i.invariant.names names met in
    let counted : length (output_lines (drop c.loop-i.i c.args.ports.now) (drop c.loop-i.i c.args.nets.now)) ≡ 0 = ap (λ (ps : List Port). length (output_lines ps (drop c.loop-i.i c.args.nets.now))) none in
    (omega (arith, c.loop-i.invariant.place, counted), g.2 ∙ ap (λ (ps : List Port). wrong_outputs g.0 c.args.count c.loop-i.at ps (drop c.loop-i.i c.args.nets.now)) none)
