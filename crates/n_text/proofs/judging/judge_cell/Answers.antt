use Rattle.std.proofs.Common.{Err, [], arith, ap, sym, ◌∙◌, append-nil}
use Rattle.std.proofs.lemmas.Result.{err_from_is_err_and}
use Rattle.lz_base.specs.declared.rule.Rule.TheVariants.{N2}
use Rattle.lz_lines.proofs.MetNames.{judges_more}
use Rattle.n_cells.specs.declared.netlist.Stored.TheVariants as stored
use Rattle.n_cells.specs.Netlist.{HasShape}
use Rattle.n_text.proofs.Lengths.{lut_length, lut_places}
use Rattle.n_text.proofs.judging.judge_cell.Goals as goal

pub returns-in_err-behind-in-Lut : goal.returns-in_err-behind-in-Lut
returns-in_err-behind-in-Lut c =
    let shape : HasShape (stored.Lut c.in-Lut.leaves.now c.in-Lut.table) = rw c.in-Lut.is at c.requires.shape in
    let p = err_from_is_err_and c.from_residual.result c.from_residual.ensures.1 in
    rw c.in-Lut.is
    (judges_more N2 c.from_residual.result _ _ _ [] _ (p.1 ∙ ap Err p.2) c.in_err-behind-in-Lut.ensures (lut_places c.args.next c.args.at c.in-Lut.leaves.now c.in-Lut.table shape.0 ∙ sym (append-nil _)))

pub returns-in_ok-behind-in-Lut : goal.returns-in_ok-behind-in-Lut
returns-in_ok-behind-in-Lut c =
    let shape : HasShape (stored.Lut c.in-Lut.leaves.now c.in-Lut.table) = rw c.in-Lut.is at c.requires.shape in
    rw c.in-Lut.is
    (omega (arith, lut_length c.in-Lut.leaves.now c.in-Lut.table shape.0, c.digit_count.ensures, c.in_ok-behind-in-Lut.ensures.0), lut_places c.args.next c.args.at c.in-Lut.leaves.now c.in-Lut.table shape.0 ∙ c.in_ok-behind-in-Lut.ensures.1)
