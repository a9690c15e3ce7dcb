use Rattle.std.proofs.Common.{◌≡◌, ◌∙◌, [], Err, ap, rules, sym, subst}
use Rattle.std.proofs.lemmas.Result.{err_from_is_err_and}
use Rattle.lz_base.specs.declared.rule.Rule.TheVariants.{G1, G2}
use Rattle.lz_lines.specs.References.{IsWrong}
use Rattle.lz_lines.proofs.Places.{unread_only, whole_is, whole_only}
use Rattle.g_net.specs.declared.network.Network.{Network}
use Rattle.g_net.specs.Network.{NetworkValue}
use Rattle.g_text.specs.Answers.{IsText, IsTextOf}
use Rattle.g_text.specs.Parts.{parts_value}
use Rattle.g_text.specs.Referred.{wrong_places}
use Rattle.g_text.proofs.Referring.{none_wrong, well_formed}
use Rattle.g_text.proofs.Texts.{answers_wrong, broken_fault, refused, text_of}
use Rattle.g_text.proofs.reading.read.Goals as goal

pub returns-in-Err-clause-only : goal.returns-in-Err-clause-only
returns-in-Err-clause-only c n form formed spelled = unread_only IsText G1 c.args.bytes.now c.in-Err.unread c.stop.result c.stop.ensures c.in-Err.ensures n (form, spelled)

pub returns-in-Err-clause-fault : goal.returns-in-Err-clause-fault
returns-in-Err-clause-fault c = broken_fault Network c.args.bytes.now c.in-Err.unread c.stop.result c.in-Err.ensures c.stop.ensures

pub returns-in_err-judge-clause-only : goal.returns-in_err-judge-clause-only
returns-in_err-judge-clause-only c n form formed spelled =
    let same : c.in-Ok.raw ≡ n = whole_only c.in-Ok.ensures n (form, spelled) in
    let lent : parts_value c.parts.result ≡ n = c.parts.ensures ∙ same in
    let p = err_from_is_err_and c.from_residual.result c.from_residual.ensures.1 in
    answers_wrong (λ m. m) c.from_residual.result c.in_err-judge.field-0.0 n (wrong_places (parts_value c.parts.result)) (p.1 ∙ ap Err p.2) c.in_err-judge.ensures.fault (ap wrong_places lent ∙ none_wrong n formed)

pub returns-in_err-judge-clause-fault : goal.returns-in_err-judge-clause-fault
returns-in_err-judge-clause-fault c =
    let p = err_from_is_err_and c.from_residual.result c.from_residual.ensures.1 in
    refused c.from_residual.result c.in_err-judge.field-0.0 c.args.bytes.now c.in-Ok.raw (p.1 ∙ ap Err p.2)
    (subst (λ (m : NetworkValue). IsWrong G2 (wrong_places m) c.in_err-judge.field-0.0) c.parts.ensures c.in_err-judge.ensures.fault) (text_of c.args.bytes.now c.in-Ok.raw c.in-Ok.ensures)

pub make-requires : goal.make-requires
make-requires c = well_formed c.in-Ok.raw (whole_is c.in-Ok.ensures).0 (ap wrong_places (sym c.parts.ensures) ∙ c.in_ok-judge.ensures.right)

pub returns-clause-text : goal.returns-clause-text
returns-clause-text c = subst (λ (m : NetworkValue). IsTextOf c.args.bytes.now m) (sym c.in_ok-make.ensures.same) (text_of c.args.bytes.now c.in-Ok.raw c.in-Ok.ensures)

pub returns-clause-only : goal.returns-clause-only
returns-clause-only c n form formed spelled = c.in_ok-make.ensures.same ∙ whole_only c.in-Ok.ensures n (form, spelled)
