use Rattle.std.proofs.Common.{◌≡◌, ◌∙◌, [], Err, ap, sym, subst}
use Rattle.std.proofs.lemmas.Result.{err_from_is_err_and}
use Rattle.lz_base.specs.declared.rule.Rule.TheVariants.{N2}
use Rattle.lz_lines.specs.References.{IsWrong}
use Rattle.lz_lines.proofs.Places.{whole_is, whole_only}
use Rattle.n_cells.specs.declared.netlist.Netlist.{Netlist}
use Rattle.n_cells.specs.Netlist.{NetlistValue}
use Rattle.n_text.specs.Lent.{lent_value}
use Rattle.n_text.specs.Referred.{wrong_places}
use Rattle.n_text.proofs.Referring.{none_wrong, well_formed}
use Rattle.n_text.proofs.Texts.{answers_wrong, broken_fault, broken_only, refused, text_of}
use Rattle.n_text.proofs.reading.read_in.Goals as goal

pub returns-in-Err-clause-only : goal.returns-in-Err-clause-only
returns-in-Err-clause-only c n form formed spelled =
    broken_only c.args.format (λ r. r) (λ r. []) c.args.bytes.now (λ (m : NetlistValue). m) c.read_raw.result c.in-Err.unread c.stop.result n c.in-Err.is c.read_raw.ensures c.stop.ensures (form, spelled)

pub returns-in-Err-clause-fault : goal.returns-in-Err-clause-fault
returns-in-Err-clause-fault c =
    broken_fault Netlist c.args.format (λ r. r) (λ r. []) c.args.bytes.now c.read_raw.result c.in-Err.unread c.stop.result c.in-Err.is c.read_raw.ensures c.stop.ensures

pub returns-in_err-judge-clause-only : goal.returns-in_err-judge-clause-only
returns-in_err-judge-clause-only c n form formed spelled =
    let same : c.in-Ok.raw ≡ n = whole_only c.in-Ok.ensures n (form, spelled) in
    let lent : lent_value c.lend.result ≡ n = c.lend.ensures ∙ same in
    let p = err_from_is_err_and c.from_residual.result c.from_residual.ensures.1 in
    answers_wrong (λ m. m) c.from_residual.result c.in_err-judge.field-0.0 n (wrong_places c.args.format (lent_value c.lend.result)) (p.1 ∙ ap Err p.2) c.in_err-judge.ensures.fault (ap (wrong_places c.args.format) lent ∙ none_wrong c.args.format n formed)

pub returns-in_err-judge-clause-fault : goal.returns-in_err-judge-clause-fault
returns-in_err-judge-clause-fault c =
    let p = err_from_is_err_and c.from_residual.result c.from_residual.ensures.1 in
    refused c.args.format c.from_residual.result c.in_err-judge.field-0.0 c.args.bytes.now c.in-Ok.raw (p.1 ∙ ap Err p.2)
    (subst (λ (m : NetlistValue). IsWrong N2 (wrong_places c.args.format m) c.in_err-judge.field-0.0) c.lend.ensures c.in_err-judge.ensures.fault) (text_of c.args.format c.args.bytes.now c.in-Ok.raw c.in-Ok.ensures)

pub make-requires : goal.make-requires
make-requires c =
    well_formed c.args.format c.in-Ok.raw (whole_is c.in-Ok.ensures).0 (ap (wrong_places c.args.format) (sym c.lend.ensures) ∙ c.in_ok-judge.ensures.right)
