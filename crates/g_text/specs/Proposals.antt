-- The one spelling of a proposal, and what its reader answers.
use Rattle.std.specs.Prelude.{◌≡◌, ℕ, ◌^◌, ◌<◌, ◌≤◌, List, [], ◌∷◌, ◌++◌, codes, flat_map, length, Result, Ok, Err, ⊤}
use Rattle.lz_lines.specs.Fields.{AllUpTo, Each, greatest, number}
use Rattle.lz_lines.specs.Places.{HasText, IsPlace}
use Rattle.lz_lines.specs.Tables.{table_fields}
use Rattle.lz_lines.specs.Sections.{end_line}
use Rattle.g_net.specs.declared.proposal.Line.{Line}
use Rattle.g_net.specs.declared.proposal.Proposal.{Proposal}
use Rattle.g_text.specs.declared.proposal.ProposalEnd.{ProposalEnd}
use Rattle.g_text.specs.declared.proposal.ProposalEnd.TheVariants.{Unreadable, OutOfMemory}

-- lut ROOT K NODE .. TABLE
abbrev pub lut_line : Line → List ℕ
lut_line l = codes "lut" ++ number l.root ++ table_fields l.leaves l.table ++ 10 ∷ []

abbrev pub first_line : List ℕ
first_line = codes "proposal 1" ++ 10 ∷ []

-- the whole text
abbrev pub proposal_text : List Line → List ℕ
proposal_text lines = first_line ++ flat_map lut_line lines ++ end_line

-- at most six leaves, and a table over them
abbrev pub HasTable : Line → Type 0
HasTable l = (length l.leaves ≤ 6) × (l.table < 2 ^ (2 ^ length l.leaves))

-- the fields of a line
abbrev pub IsLut : Line → Type 0
IsLut l = (l.root ≤ greatest) × AllUpTo greatest l.leaves × HasTable l

-- These bytes are the text of these lines.
pub record IsProposal (lines : List Line) (bytes : List ℕ) : Type 0 where
  pub fields : Each IsLut lines
  pub spelled : bytes ≡ proposal_text lines

-- want of memory aside, the answer is a proposal of these lines
abbrev pub Gives : Result Proposal ProposalEnd → List Line → Type 0
Gives (Ok p) lines = p.lines ≡ lines
Gives (Err (Unreadable place)) lines = ⊥
Gives (Err OutOfMemory) lines = ⊤

-- The bytes are the text of no proposal, and leave these texts at the place.
pub record IsUnreadableAt (bytes : List ℕ) (place : ℕ) : Type 0 where
  pub place_is : IsPlace (HasText IsProposal) bytes place
  pub none : (lines : List Line) → IsProposal lines bytes → ⊥

-- where the answer is that the bytes are unreadable, it tells where
abbrev pub TellsWhere : {X : Type 0} → Result X ProposalEnd → List ℕ → Type 0
TellsWhere (Ok x) bytes = ⊤
TellsWhere (Err (Unreadable place)) bytes = IsUnreadableAt bytes place
TellsWhere (Err OutOfMemory) bytes = ⊤
