use Rattle.std.proofs.Common.{None, [], ◌∷◌, map, take, ap, ◌∙◌, sym}
use Rattle.std.proofs.lemmas.List.{append-nil}
use Rattle.v_meaning.specs.ProcessRules.{places_if}
use Rattle.v_scope.specs.Firsts.{least_from}
use Rattle.v_depends.specs.Pairs.{follows}
use Rattle.v_depends.proofs.Gathering.{from_next, reads_more, reads_of}
use Rattle.v_depends.proofs.Least.{least_behind}
use Rattle.v_depends.proofs.judging.least_read.Goals as goal

pub loop-process-preserved : goal.loop-process-preserved
loop-process-preserved c = λ names ons ds n f.
    let process = c.process-item.result in
    least_behind None c.loop-process.first c.note_reads-first.result (follows ds ons) (reads_of (take c.loop-process.process-index c.args.processes.now)) (reads_of (process ∷ [])) _
    (from_next reads_of reads_more c.args.processes.now c.loop-process.process-index process c.loop-process-test.true c.process-item.is) (c.loop-process.invariant names ons ds n f)
    (c.note_reads-first.ensures names ons ds n f
    ∙ ap (λ l. least_from c.loop-process.first (places_if (follows ds ons) l)) (ap (map (λ r. r.now)) c.as_slice.ensures ∙ sym (append-nil (map (λ r. r.now) process.reads))))
