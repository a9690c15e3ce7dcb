use Rattle.std.proofs.Common.{rules, List, ℕ, ◌++◌, ◌∷◌, [], subst, sym, ap, ◌∙◌, ◌+◌, length, false, ◌≡◌, not}
use Rattle.lz_base.specs.Met.{Met}
use Rattle.lz_base.specs.Names.{is_among}
use Rattle.lz_lines.specs.Fields.{field}
use Rattle.lz_lines.specs.References.{wrong_numbers}
use Rattle.lz_lines.proofs.MetNames.{met_again, wrong_more}
use Rattle.lz_lines.proofs.judging.judge_output.Goals as goal

pub returns-clause-met : goal.returns-clause-met
returns-clause-met c names met = subst (λ (name : List ℕ). Met c.meet.new.met (names ++ name ∷ [])) c.bytes-bytes.ensures.value ((c.in_ok-is_new.ensures names met).1)

pub returns-then-not-is_new-clause-judged : goal.returns-then-not-is_new-clause-judged
returns-then-not-is_new-clause-judged c names met =
    let known : false ≡ not (is_among c.args.name.now names) = search rules in
    let back = wrong_numbers c.args.high (c.args.at + 6 + length (field c.args.name.now)) c.args.ns.now in
    wrong_more c.args.rule c.wrong.result ((c.args.at + 7) ∷ []) back _ c.wrong.ensures (ap (λ l. l ++ back) (met_again names (c.args.at + 7) c.args.name.now known))
