-- What is noted of a proposal that did not make the netlist.
use Rattle.std.specs.Prelude.{ℕ, List, [], ◌∷◌, ◌++◌, codes, Option, None, Some}
use Rattle.lz_lines.specs.Fields.{number}
use Rattle.g_net.specs.declared.proposal.Line.{Line}
use Rattle.g_net.specs.Network.{NetworkValue}
use Rattle.m_valid.specs.declared.verdict.Check.{Check}
use Rattle.m_valid.specs.declared.verdict.Check.TheVariants.{V1, V2, V3, V4, V5}
use Rattle.m_valid.specs.declared.verdict.Verdict.{Verdict}
use Rattle.m_valid.specs.declared.verdict.Verdict.TheVariants.{Valid, Broken}
use Rattle.m_valid.specs.Validity.{verdict}

abbrev pub check_text : Check → List ℕ
check_text V1 = codes "V1"
check_text V2 = codes "V2"
check_text V3 = codes "V3"
check_text V4 = codes "V4"
check_text V5 = codes "V5"

-- as in `note: proposal refused V4 at 1`: the first check that is broken, and the line, from 1, or the node of the check V5
abbrev pub refusal_note : Check → ℕ → List ℕ
refusal_note check place = codes "note: proposal refused " ++ check_text check ++ codes " at" ++ number place ++ 10 ∷ []

-- nothing is noted of a valid proposal
abbrev pub verdict_note : Verdict → List ℕ
verdict_note Valid = []
verdict_note (Broken check place) = refusal_note check place

abbrev pub unreadable_note : List ℕ
unreadable_note = codes "note: proposal unreadable" ++ 10 ∷ []

-- the note on lines that were proposed for a network, or that none could be read
abbrev pub note_on : NetworkValue → Option (List Line) → List ℕ
note_on n None = unreadable_note
note_on n (Some lines) = verdict_note (verdict n lines 6)
