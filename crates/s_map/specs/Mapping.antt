-- What the mapping of a network answers.
use Rattle.std.specs.Prelude.{◌≡◌, ℕ, List, Option, None, Some}
use Rattle.lz_machine.specs.Machine.{Realises}
use Rattle.n_cells.specs.declared.format.Format.TheVariants.{Two}
use Rattle.n_cells.specs.AsMachine.{netlist_machine}
use Rattle.n_cells.specs.Form.{HasForm}
use Rattle.n_cells.specs.Netlist.{NetlistValue, IsWellFormed}
use Rattle.n_cells.specs.Text.{text}
use Rattle.g_net.specs.declared.proposal.Line.{Line}
use Rattle.g_net.specs.AsMachine.{network_machine}
use Rattle.g_net.specs.Network.{NetworkValue}
use Rattle.m_valid.specs.declared.verdict.Verdict.{Verdict}
use Rattle.m_valid.specs.declared.verdict.Verdict.TheVariants.{Valid, Broken}
use Rattle.m_valid.specs.Assembly.{assembled}
use Rattle.m_valid.specs.Plain.{plain_of}
use Rattle.m_valid.specs.Validity.{verdict}
use Rattle.s_map.specs.Notes.{note_on}
use Rattle.s_map.specs.Texts.{IsNetwork}

-- the lines that make the netlist: those that are proposed, where they are valid, and else the plain ones
abbrev pub lines_by : NetworkValue → List Line → Verdict → List Line
lines_by n lines Valid = lines
lines_by n lines (Broken check place) = plain_of n

abbrev pub lines_for : NetworkValue → Option (List Line) → List Line
lines_for n None = plain_of n
lines_for n (Some lines) = lines_by n lines (verdict n lines 6)

-- the netlist of a network for which these lines are proposed, or none
abbrev pub mapped : NetworkValue → Option (List Line) → NetlistValue
mapped n offer = assembled n (lines_for n offer)

-- The output for a network and what is proposed for it: the text of their netlist, which realises the network. It has the
-- form that the reader of netlists asks for, so that the text is read back as this netlist. And the note.
pub record IsMapped (n : NetworkValue) (offer : Option (List Line)) (output note : List ℕ) : Type 0 where
  pub form : HasForm Two (mapped n offer)
  pub formed : IsWellFormed (mapped n offer)
  pub realised : Realises (network_machine n) (netlist_machine (mapped n offer))
  pub printed : output ≡ text Two (mapped n offer)
  pub noted : note ≡ note_on n offer

-- The output for the text of a network, where this may be proposed for it.
pub record IsMapping (network : List ℕ) (Offers : NetworkValue → Option (List Line) → Type 0) (output note : List ℕ) : Type 0 where
  pub read : NetworkValue
  pub offer : Option (List Line)
  pub is : IsNetwork network read
  pub alone : (other : NetworkValue) → IsNetwork network other → other ≡ read
  pub offered : Offers read offer
  pub made : IsMapped read offer output note
