use Rattle.std.proofs.Common.{get_or, length, ◌∙◌}
use Rattle.v_depends.proofs.TurnByTurn.{wait_keeps, wait_adds}
use Rattle.v_depends.proofs.turns.wait_for.Goals as goal

pub loop-on-preserved : goal.loop-on-preserved
loop-on-preserved c =
    let before = c.loop-on.waiting.items in
    let after = c.add_source.new.rows.items in
    record {
      long = c.in_ok-add_source.ensures.long ∙ c.loop-on.invariant.long;
      keeps = λ other on there.
          wait_keeps before after (c.args.node, get_or c.args.needed.now c.loop-on.on-index 0) c.in_ok-add_source.ensures.each other on (c.loop-on.invariant.keeps other on there);
      adds = wait_adds before after c.args.node c.args.needed.now c.loop-on.on-index (length c.args.waiting.now.items) c.loop-on-test.true c.loop-on.invariant.long c.in_ok-add_source.ensures.each
          c.loop-on.invariant.adds;
    }
