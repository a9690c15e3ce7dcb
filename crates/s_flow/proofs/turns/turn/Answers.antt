use Rattle.std.proofs.Common.{◌≡◌, ◌<◌, ◌++◌, ℕ, List, length, sym, ap, subst, ◌∙◌, arith}
use Rattle.lz_base.specs.declared.name.Port.{Port}
use Rattle.n_cells.specs.Netlist.{NetlistValue}
use Rattle.n_sim.specs.Lanes.{stream, IsCycleOf}
use Rattle.s_flow.specs.SideBySide.{lines_from}
use Rattle.s_flow.proofs.Fitting.{line_fits, bits_fit}
use Rattle.s_flow.proofs.InTurn.{turned, given_back}
use Rattle.s_flow.proofs.turns.turn.Goals as goal

pub put_lines-requires-clause-room : goal.put_lines-requires-clause-room
put_lines-requires-clause-room c = λ j line is.
    omega (arith, bits_fit c.args.netlist.now.inputs line (line_fits c.args.netlist.now.inputs c.args.lines.now c.requires.fit j line is), ap length c.as_mut_slice.ensures.value)

pub returns-clause-turn : goal.returns-clause-turn
returns-clause-turn c =
    let n = c.args.netlist.now in
    let input = c.as_slice.result.now in
    let before = c.args.streams.now.lanes.state in
    let out = c.as_slice-2.result.now in
    let after = c.cycle.new.self.state in
    let put : input ≡ c.put_lines.new.lanes = given_back _ _ _ _ c.as_slice.ensures.value (omega arith) in
    let shown : out ≡ c.cycle.new.out = given_back _ _ _ _ c.as_slice-2.ensures.value (omega arith) in
    let cycle : (j : ℕ) → j < 64 → IsCycleOf n input before out after j = λ j below.
    subst (λ (l : List ℕ). IsCycleOf n input before l after j) (sym shown) (subst (λ (m : NetlistValue). IsCycleOf m input before c.cycle.new.out after j) c.requires.netlist (c.cycle.ensures.cycle j below)) in (
      lines_from n.outputs out 0 (length c.args.lines.now),
      c.in_ok-push_lines.ensures ∙ ap (λ (ps : List Port). c.args.cycles.now ++ lines_from ps out 0 (length c.args.lines.now)) c.outputs.ensures.ports,
      turned n input before out after c.args.lines.now c.requires.formed c.requires.few (line_fits n.inputs c.args.lines.now c.requires.fit) (λ j line is. ap (stream j) put ∙ c.put_lines.ensures j line is) cycle,
    )
