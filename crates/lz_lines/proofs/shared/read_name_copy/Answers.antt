use Rattle.std.proofs.Common.{List, ℕ, Err, subst, sym, ap, ◌∙◌}
use Rattle.std.proofs.lemmas.Result.{err_from_is_err_and}
use Rattle.lz_lines.specs.Fields.{IsNameField}
use Rattle.lz_lines.specs.Forms.{Parted, Takes}
use Rattle.lz_lines.proofs.Forms.{obtains_err}
use Rattle.lz_lines.proofs.shared.read_name_copy.Goals as goal

pub returns-in_err-name : goal.returns-in_err-name
returns-in_err-name c =
    let p = err_from_is_err_and c.from_residual.result c.from_residual.ensures.1 in
    obtains_err _ _ _ _ _ c.from_residual.result _ (p.1 ∙ ap Err p.2) c.in_err-name.ensures.reads

pub returns : goal.returns
returns c = subst (λ (name : List ℕ). Takes IsNameField Parted c.args.bytes.now name c.in_ok-name.rest.now) (sym c.in_ok-new.ensures) c.in_ok-name.ensures.reads
