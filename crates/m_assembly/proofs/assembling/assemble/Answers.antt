use Rattle.std.proofs.Common.{◌∙◌, ap, sym, subst, arith}
use Rattle.n_cells.specs.Netlist.{IsWellFormed}
use Rattle.m_valid.specs.Assembly.{assembled}
use Rattle.m_assembly.specs.Cursor.{AreCuts}
use Rattle.m_assembly.proofs.Ascending.{valid_cuts}
use Rattle.m_assembly.proofs.assembling.assemble.Goals as goal

pub parts_of-requires : goal.parts_of-requires
parts_of-requires c = subst (AreCuts 0) (sym c.as_slice.ensures) (valid_cuts c.args.network.now c.args.proposal.now.lines 6 (omega arith) c.requires.valid)

pub make-requires : goal.make-requires
make-requires c =
    subst IsWellFormed (sym (c.in_ok-parts.ensures ∙ ap (assembled c.args.network.now) c.as_slice.ensures))
    (c.assembly_agrees.ensures.formed c.args.network.now c.args.proposal.now.lines 6 (omega arith) c.requires.valid c.gates-gates.ensures.formed)
