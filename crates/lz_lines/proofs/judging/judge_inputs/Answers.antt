use Rattle.std.proofs.Common.{◌≡◌, ◌∙◌, ◌++◌, ◌+◌, ◌≤◌, ◌<◌, [], ◌∷◌, List, ℕ, Err, Some, slice_get, length, drop, map, flat_map, refl, ap, sym, subst, arith, append-nil}
use Rattle.std.proofs.lemmas.List.{drop_all}
use Rattle.std.proofs.lemmas.Option.{slice_get_read}
use Rattle.std.proofs.lemmas.Result.{err_from_is_err_and}
use Rattle.lz_base.specs.declared.name.Port.{Port}
use Rattle.lz_lines.specs.Shared.{input_line}
use Rattle.lz_base.specs.Met.{Met}
use Rattle.lz_lines.specs.References.{wrong_inputs}
use Rattle.lz_base.proofs.Lists.{drop_next}
use Rattle.lz_lines.proofs.Listed.{flat_length}
use Rattle.lz_lines.proofs.MetNames.{judges_more, inputs_next, inputs_step}
use Rattle.lz_lines.proofs.judging.judge_inputs.Goals as goal

pub returns-in_err-at-clause-judged : goal.returns-in_err-at-clause-judged
returns-in_err-at-clause-judged c names met =
    let ports = c.args.ports.now in
    let i = c.loop-port.port-index in
    let bound : i < length ports = omega arith in
    let here : slice_get ports i ≡ Some c.port-item.result = slice_get_read ports (length ports) i c.port-item.result refl bound c.port-item.is in
    let g = c.loop-port.invariant.names names met in
    let p = err_from_is_err_and c.from_residual.result c.from_residual.ensures.1 in
    judges_more c.args.rule c.from_residual.result _ _ _ _ _ (p.1 ∙ ap Err p.2) (c.in_err-at.ensures.judged g.known g.met_them) (g.wrong ∙ inputs_next g.known c.loop-port.at (drop i ports) (drop (i + 1) ports) c.port-item.result (drop_next ports i _ here))

pub loop-port-preserved : goal.loop-port-preserved
loop-port-preserved c =
    let ports = c.args.ports.now in
    let i = c.loop-port.port-index in
    let bound : i < length ports = omega arith in
    let here : slice_get ports i ≡ Some c.port-item.result = slice_get_read ports (length ports) i c.port-item.result refl bound c.port-item.is in
    let split : drop i ports ≡ c.port-item.result ∷ drop (i + 1) ports = drop_next ports i _ here in
    let counted : length (flat_map input_line (drop i ports)) ≡ length (input_line c.port-item.result) + length (flat_map input_line (drop (i + 1) ports)) =
    ap (λ (ps : List Port). length (flat_map input_line ps)) split ∙ flat_length input_line c.port-item.result (drop (i + 1) ports) in
    record {
      place = omega (arith, c.loop-port.invariant.place, counted, c.in_ok-at.ensures.place);
      names = λ names met.
          let g = c.loop-port.invariant.names names met in
          inputs_step c.loop-port.met c.judge_input.new.met c.loop-port.at c.in_ok-at.at c.args.at (drop i ports) (drop (i + 1) ports) ports names c.port-item.result g split
          (c.in_ok-at.ensures.judged g.known g.met_them).1 c.in_ok-at.ensures.place (c.in_ok-at.ensures.met g.known g.met_them);
    }

pub returns-clause-judged : goal.returns-clause-judged
returns-clause-judged c names met =
    let past : length c.args.ports.now ≤ c.loop-port.port-index = omega arith in
    let none : drop c.loop-port.port-index c.args.ports.now ≡ [] = drop_all c.loop-port.port-index c.args.ports.now past in
    let g = c.loop-port.invariant.names names met in
    let counted : length (flat_map input_line (drop c.loop-port.port-index c.args.ports.now)) ≡ 0 = ap (λ (ps : List Port). length (flat_map input_line ps)) none in
    (omega (arith, c.loop-port.invariant.place, counted), g.wrong ∙ ap (λ (ps : List Port). wrong_inputs g.known c.loop-port.at ps) none)

pub returns-clause-met : goal.returns-clause-met
returns-clause-met c names met =
    let past : length c.args.ports.now ≤ c.loop-port.port-index = omega arith in
    let none : drop c.loop-port.port-index c.args.ports.now ≡ [] = drop_all c.loop-port.port-index c.args.ports.now past in
    let g = c.loop-port.invariant.names names met in
    let all_ : g.known ≡ names ++ map (λ (p : Port). p.name) c.args.ports.now = sym (append-nil g.known) ∙ ap (λ (ps : List Port). g.known ++ map (λ (p : Port). p.name) ps) (sym none) ∙ g.whole in
    subst (λ (ns : List (List ℕ)). Met c.loop-port.met ns) all_ g.met_them
