-- The texts from which a network is mapped.
use Rattle.std.specs.Prelude.{◌≡◌, ℕ, ◌≤◌, List, length, Option, None, Some}
use Rattle.lz_base.specs.Limits.{text_limit}
use Rattle.g_net.specs.declared.proposal.Line.{Line}
use Rattle.g_net.specs.declared.proposal.Proposal.{Proposal}
use Rattle.g_net.specs.Network.{NetworkValue, IsWellFormed}
use Rattle.g_text.specs.Form.{HasForm}
use Rattle.g_text.specs.Proposals.{IsProposal}
use Rattle.g_text.specs.Text.{text}

-- the bytes are the text of this network
pub record IsNetwork (bytes : List ℕ) (n : NetworkValue) : Type 0 where
  pub within : length bytes ≤ text_limit
  pub form : HasForm n
  pub formed : IsWellFormed n
  pub printed : bytes ≡ text n

-- the bytes are the text of a proposal with these lines
pub record IsOffer (bytes : List ℕ) (lines : List Line) : Type 0 where
  pub within : length bytes ≤ text_limit
  pub printed : IsProposal lines bytes

-- What a file proposes: these lines and no others, or none, where it is the text of no proposal or too long for one.
abbrev pub Proposes : List ℕ → Option (List Line) → Type 0
Proposes bytes None = (lines : List Line) → IsOffer bytes lines → ⊥
Proposes bytes (Some lines) = IsOffer bytes lines × ((others : List Line) → IsOffer bytes others → others ≡ lines)

-- what a mapper proposes: the lines of one of its told answers
abbrev pub IsAnswered : (Proposal → Type 0) → Option (List Line) → Type 0
IsAnswered Told None = ⊥
IsAnswered Told (Some lines) = Told (record { lines = lines })
