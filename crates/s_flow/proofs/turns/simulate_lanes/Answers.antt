use Rattle.std.proofs.Common.{◌≡◌, ◌≤◌, ◌+◌, ◌++◌, ◌⊎◌, List, length, sym, ap, subst, ◌∙◌, arith, length-append}
use Rattle.lz_base.specs.WordValue.{WordValue}
use Rattle.s_flow.proofs.Fitting.{fit_parts}
use Rattle.s_flow.proofs.InTurn.{IsUnderWay, under_way, over, whole_turn, parts, is_zero}
use Rattle.s_flow.proofs.turns.simulate_lanes.Goals as goal

pub turn-requires-clause-fit : goal.turn-requires-clause-fit
turn-requires-clause-fit c = rw c.split_at.ensures.front (fit_parts _ c.loop-rest.rest.now c.min.result c.loop-rest.invariant.fit).0

pub loop-rest-preserved : goal.loop-rest-preserved
loop-rest-preserved c =
    let rest = c.loop-rest.rest.now in
    let lines = c.split_at.result.0.now in
    let left = c.split_at.result.1.now in
    let split : rest ≡ lines ++ left = rw (c.split_at.ensures.front, c.split_at.ensures.back) (parts c.min.result rest) in
    let few : length lines ≤ c.args.count = omega arith in
    let whole : (length lines ≡ c.args.count) ⊎ (length left ≡ 0) =
    whole_turn (length rest) c.args.count (length lines) (length left) (omega arith) (ap length split ∙ length-append lines left) in
    let t = c.in_ok-turn.ensures.turn in
    record {
      netlist = c.turn.ensures.netlist;
      input = c.turn.ensures.input;
      out = c.turn.ensures.out;
      fit = rw c.split_at.ensures.back (fit_parts _ rest c.min.result c.loop-rest.invariant.fit).1;
      on = subst (λ (l : List (List WordValue)). IsUnderWay c.args.netlist.now c.args.count c.turn.new.streams.lanes.state c.args.stimulus.now.cycles left l) (sym t.1)
          (under_way c.args.netlist.now c.args.count _ _ c.args.stimulus.now.cycles rest lines left c.loop-rest.cycles t.0 c.loop-rest.invariant.on split t.2 few whole);
    }

pub returns : goal.returns
returns c =
    over c.args.netlist.now c.args.count _ c.args.stimulus.now.cycles c.loop-rest.rest.now c.loop-rest.cycles c.loop-rest.invariant.on (is_zero _ c.loop-rest-test.ensures)
