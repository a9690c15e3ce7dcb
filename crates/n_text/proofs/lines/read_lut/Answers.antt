use Rattle.std.proofs.Common.{Some, List, ℕ, ◌≡◌, subst, ◌∙◌, ap}
use Rattle.lz_lines.specs.Forms.{Anything, Ended, Obtains, Takes}
use Rattle.lz_lines.specs.Tables.{IsTable}
use Rattle.lz_lines.proofs.Forms.{then_broken, then_obtains}
use Rattle.lz_lines.proofs.Standing.{hand_on, some_ended}
use Rattle.n_cells.specs.declared.netlist.Stored.{Stored}
use Rattle.n_cells.specs.declared.netlist.Stored.TheVariants as stored
use Rattle.n_cells.specs.Form.{leaves_of}
use Rattle.n_text.specs.declared.line.Line.TheVariants as line
use Rattle.n_text.specs.Grammar.{LutEnd}
use Rattle.n_text.proofs.lines.read_lut.Goals as goal

pub returns-in_err-table : goal.returns-in_err-table
returns-in_err-table c =
    let read = subst (λ n. Obtains (IsTable n) Anything (λ r. (c.read_table.new.numbers.items, r.0)) (λ r. r.1.now) c.args.bytes.now c.read_table.result) c.most_leaves.ensures.most c.read_table.ensures in
    hand_on _ _ _ _ _ _ _ _ _ _ c.from_residual.result c.read_table.result _ c.from_residual.ensures.1 c.in_err-table.was read
    (λ l b. then_broken (IsTable (leaves_of c.args.format)) Anything LutEnd Anything (λ t text is. some_ended (Some (line.Cell (stored.Lut t.0 t.1)))) (λ t v text behind is d. tt) b)

pub returns : goal.returns
returns c =
    let nets = c.read_table.new.numbers.items in
    let table = subst (λ n. Takes (IsTable n) Anything c.args.bytes.now (nets, c.in_ok-table.table) c.in_ok-table.rest.now) c.most_leaves.ensures.most c.in_ok-table.ensures in
    let same : c.lut-cell.result ≡ stored.Lut nets c.in_ok-table.table = c.lut-cell.ensures ∙ ap (λ (ls : List ℕ). stored.Lut ls c.in_ok-table.table) (c.new.ensures ∙ c.deref.ensures.value) in
    then_obtains (IsTable (leaves_of c.args.format)) Anything LutEnd Anything _ _ c.end_line.result (λ t v text behind is d. tt) table
    (subst (λ (s : Stored). Obtains (Ended (Some (line.Cell s))) Anything (λ r. r.0) (λ r. r.1.now) c.in_ok-table.rest.now c.end_line.result) same c.end_line.ensures.reads)
