use Rattle.std.proofs.Common.{◌≡◌, ◌+◌, ◌-◌, suc, arith}
use Rattle.s_flow.proofs.InTurn.{lines_on}
use Rattle.s_flow.proofs.turns.push_lines.Goals as goal

pub loop-index-preserved : goal.loop-index-preserved
loop-index-preserved c =
    let one : c.args.count - c.loop-index.index ≡ suc (c.args.count - (c.loop-index.index + 1)) = omega arith in
    lines_on c.args.ports.now c.args.lanes.now c.loop-index.index _ _ c.loop-index.cycles c.push.new.self _ _ one c.in_ok-words_at.ensures c.in_ok-push.ensures.ok c.loop-index.invariant
