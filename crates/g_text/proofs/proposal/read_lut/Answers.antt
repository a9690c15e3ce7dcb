use Rattle.std.proofs.Common.{Option, Some, List, ℕ, ◌≡◌, ◌∙◌, ap, subst}
use Rattle.lz_lines.specs.Fields.{IsNumber, greatest}
use Rattle.lz_lines.specs.Forms.{Anything, Ended, Obtains, Parted}
use Rattle.lz_lines.specs.Tables.{IsTable}
use Rattle.lz_lines.proofs.Forms.{after_breaks, after_obtains, after_start, after_then, then_broken}
use Rattle.lz_lines.proofs.Standing.{hand_broken, hand_on, some_ended}
use Rattle.g_net.specs.declared.proposal.Line.{Line}
use Rattle.g_text.specs.Luts.{LutEnd, LutTable, Tail}
use Rattle.g_text.specs.declared.proposal.Head.TheVariants as head
use Rattle.g_text.proofs.Luts.{table_parted, table_some}
use Rattle.g_text.proofs.proposal.read_lut.Goals as goal

pub returns-in_err-root : goal.returns-in_err-root
returns-in_err-root c =
    hand_broken _ _ _ _ _ c.from_residual.result _ c.from_residual.ensures.1
    (then_broken (IsNumber 0 greatest) Parted LutTable Anything table_some (λ a v text behind is d. table_parted a v text behind is) c.in_err-root.ensures.reads)

pub returns-in_err-table : goal.returns-in_err-table
returns-in_err-table c =
    let root = c.in_ok-root.root in
    let one = after_then (IsNumber 0 greatest) Parted LutTable (after_start (Tail head.Lut) Anything c.args.bytes.now) (λ a v text behind is d. table_parted a v text behind is) c.in_ok-root.ensures.reads in
    hand_on _ _ _ _ _ _ _ _ _ _ c.from_residual-in_err-table.result c.read_table.result _ c.from_residual-in_err-table.ensures.1 c.in_err-table.was c.read_table.ensures
    (λ l b. after_breaks one (then_broken (IsTable 6) Anything (LutEnd root) Anything (λ t text is. some_ended (Some (record { root = root; leaves = t.0; table = t.1 }))) (λ t v text behind is d. tt) b))

pub returns : goal.returns
returns c =
    let root = c.in_ok-root.root in
    let ns = c.read_table.new.numbers.items in
    let one = after_then (IsNumber 0 greatest) Parted LutTable (after_start (Tail head.Lut) Anything c.args.bytes.now) (λ a v text behind is d. table_parted a v text behind is) c.in_ok-root.ensures.reads in
    let two = after_then (IsTable 6) Anything (LutEnd root) one (λ t v text behind is d. tt) c.in_ok-table.ensures in
    let kept : c.in_ok-leaves.leaves ≡ ns = c.in_ok-leaves.ensures.leaves ∙ c.deref.ensures.value in
    let same : Some (record { root = root; leaves = c.in_ok-leaves.leaves; table = c.in_ok-table.table }) ≡ Some (record { root = root; leaves = ns; table = c.in_ok-table.table }) =
    ap (λ (ls : List ℕ). Some (record { root = root; leaves = ls; table = c.in_ok-table.table })) kept in
    after_obtains _ _ c.end_line.result two (subst (λ (l : Option Line). Obtains (Ended l) Anything (λ r. r.0) (λ r. r.1.now) c.in_ok-table.rest.now c.end_line.result) same c.end_line.ensures.reads)
