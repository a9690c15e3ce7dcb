use Rattle.std.proofs.Common.{ℕ, List, ◌++◌, subst, take}
use Rattle.v_depends.specs.Graphs.{IsGraph, name_added}
use Rattle.v_depends.proofs.Gathering.{all_reads, next_read, read_pairs}
use Rattle.v_depends.proofs.graph.add_assign.Goals as goal

pub loop-read-preserved : goal.loop-read-preserved
loop-read-preserved c = λ pairs g.
    let target = c.args.assign.now.target.now.name in
    let reads = c.as_slice-read-items.result.now in
    let before = c.loop-read.invariant pairs g in
    let names = name_added (name_added before.0 target) c.read-item.result.now.name in (
      names,
      subst (λ (l : List (List ℕ × List ℕ)). IsGraph c.add_read.new.graph names l) (next_read pairs target reads c.loop-read.read-index c.read-item.result c.loop-read-test.true c.read-item.is)
          (c.in_ok-add_read.ensures before.0 (pairs ++ read_pairs target (take c.loop-read.read-index reads)) before.1),
    )

pub returns : goal.returns
returns c = λ pairs g.
    let before = c.loop-read.invariant pairs g in (
      before.0,
      subst (λ (l : List (List ℕ × List ℕ)). IsGraph c.loop-read.graph before.0 l)
          (all_reads pairs c.args.assign.now.target.now.name c.args.assign.now.reads c.as_slice-read-items.result.now c.loop-read.read-index c.loop-read-test.false c.as_slice-read-items.ensures) before.1,
    )
