use Rattle.std.proofs.Common.{List, ◌++◌, flat_map, map, take, ap, subst, ◌∙◌, sym}
use Rattle.std.proofs.lemmas.List.{append-nil}
use Rattle.v_uses.specs.declared.gathered.ProcessUses.{ProcessUses}
use Rattle.v_uses.specs.Gathered.{process_in}
use Rattle.v_depends.specs.Pairs.{blocking_of}
use Rattle.v_depends.specs.Graphs.{AreMarked}
use Rattle.v_depends.proofs.Gathering.{blocking_processes_more, from_next}
use Rattle.v_depends.proofs.judging.blocking.Goals as goal

pub loop-process-preserved : goal.loop-process-preserved
loop-process-preserved c = λ names n.
    let processes = c.args.processes.now in
    let found = flat_map blocking_of (map process_in (take c.loop-process.process-index processes)) in
    subst (AreMarked names c.mark_blocking.new.marks)
    (ap (λ l. found ++ l) (sym (append-nil (blocking_of (process_in c.process-item.result))))
    ∙ sym (from_next (λ (ps : List ProcessUses). flat_map blocking_of (map process_in ps)) blocking_processes_more processes c.loop-process.process-index c.process-item.result c.loop-process-test.true c.process-item.is))
    (c.mark_blocking.ensures names found n (c.loop-process.invariant names n))
