use Rattle.v_depends.specs.Graphs.{name_added}
use Rattle.v_depends.proofs.Places.{edge_more}
use Rattle.v_depends.proofs.graph.add_read.Goals as goal

pub returns : goal.returns
returns c = λ names pairs g.
    let r = edge_more c.args.graph.now.numbers c.number.new.numbers c.number-2.new.numbers names c.bytes.result.now c.bytes-2.result.now c.args.target.now.name c.args.read.now.name c.in_ok-from.from
    c.in_ok-to.to pairs c.args.graph.now.edges.items c.push.new.self.items c.bytes.ensures.value c.bytes-2.ensures.value (c.in_ok-from.ensures names)
    (c.in_ok-to.ensures (name_added names c.bytes.result.now)) c.in_ok-push.ensures.items g.numbered g.edged in
    record { numbered = r.0; edged = r.1 }
