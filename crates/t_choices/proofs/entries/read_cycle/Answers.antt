use Rattle.std.proofs.Common.{[], refl, flat_map}
use Rattle.std.specs.Prelude.{codes}
use Rattle.lz_lines.specs.Fields.{number}
use Rattle.lz_lines.proofs.Forms.{after_breaks, after_takes}
use Rattle.lz_lines.proofs.Standing.{hand_broken, hand_on}
use Rattle.t_choices.specs.ScheduleTexts.{AreProcesses, BeforeEnd}
use Rattle.t_choices.proofs.KeyedLines.{key_read, key_broken, fields_read, fields_broken}
use Rattle.t_choices.proofs.entries.read_cycle.Goals as goal

pub returns-in_err-rest-clause-reads : goal.returns-in_err-rest-clause-reads
returns-in_err-rest-clause-reads c =
    hand_broken _ _ _ _ _ c.from_residual.result _ c.from_residual.ensures.1 (key_broken (codes "cycle") (flat_map number) (AreProcesses c.args.processes) ([], tt) c.in_err-rest.ensures.reads)

pub returns-in_err-line-clause-reads : goal.returns-in_err-line-clause-reads
returns-in_err-line-clause-reads c =
    let key = key_read (codes "cycle") (flat_map number) (AreProcesses c.args.processes) c.in_ok-rest.ensures.reads in
    hand_on _ _ _ _ _ _ _ _ _ _ c.from_residual-in_err-line.result c.read_entries.result _ c.from_residual-in_err-line.ensures.1 c.in_err-line.was c.read_entries.ensures.reads
    (λ l b. fields_broken (codes "cycle") (flat_map number) (AreProcesses c.args.processes) BeforeEnd (λ v behind. (behind, refl)) key b)

pub returns-in_err-entries-clause-reads : goal.returns-in_err-entries-clause-reads
returns-in_err-entries-clause-reads c =
    let key = key_read (codes "cycle") (flat_map number) (AreProcesses c.args.processes) c.in_ok-rest.ensures.reads in
    let fields = fields_read (codes "cycle") (flat_map number) (AreProcesses c.args.processes) BeforeEnd c.in_ok-line.line.entries (λ v behind. (behind, refl)) key c.in_ok-line.ensures.reads in
    hand_on _ _ _ _ _ _ _ _ _ _ c.from_residual-in_err-entries.result c.end_line.result _ c.from_residual-in_err-entries.ensures.1 c.in_err-entries.was c.end_line.ensures.reads (λ l b. after_breaks fields b)

pub returns-clause-reads : goal.returns-clause-reads
returns-clause-reads c =
    let key = key_read (codes "cycle") (flat_map number) (AreProcesses c.args.processes) c.in_ok-rest.ensures.reads in
    after_takes (fields_read (codes "cycle") (flat_map number) (AreProcesses c.args.processes) BeforeEnd c.in_ok-line.line.entries (λ v behind. (behind, refl)) key c.in_ok-line.ensures.reads) c.in_ok-entries.ensures.reads
