use Rattle.std.proofs.Common.{map, take, ap, ◌∙◌}
use Rattle.v_meaning.specs.MarkRules.{place_if}
use Rattle.v_scope.specs.Firsts.{least_from}
use Rattle.v_depends.specs.Pairs.{follows}
use Rattle.v_depends.specs.Graphs.{marked_name}
use Rattle.v_depends.proofs.Gathering.{from_next, idents_more}
use Rattle.v_depends.proofs.Least.{least_push}
use Rattle.v_depends.proofs.judging.note_reads.Goals as goal

pub loop-read-preserved : goal.loop-read-preserved
loop-read-preserved c = λ names ons ds n f.
    let read = c.read-item.result.now in
    let follows_is = c.is_marked.ensures names n ∙ ap (marked_name names c.args.marks.now) c.bytes.ensures.value ∙ f read.name in
    least_push c.args.first c.loop-read.first c.note-first.result (follows ds ons) (map (λ r. r.now) (take c.loop-read.read-index c.args.reads.now)) _ read
    (from_next (map (λ r. r.now)) idents_more c.args.reads.now c.loop-read.read-index c.read-item.result c.loop-read-test.true c.read-item.is) (c.loop-read.invariant names ons ds n f)
    (c.note-first.ensures ∙ ap (λ b. least_from c.loop-read.first (place_if b read.at)) follows_is)
