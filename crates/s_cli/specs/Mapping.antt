-- What the mapping of a network answers.
use Rattle.std.specs.Prelude.{◌≡◌, ◌⊎◌, ℕ, ◌<◌, ◌≤◌, List, length}
use Rattle.lz_base.specs.Limits.{text_limit}
use Rattle.lz_base.specs.declared.fault.Fault.{Fault}
use Rattle.lz_base.specs.declared.rule.Rule.TheVariants.{G1}
use Rattle.g_net.specs.Network.{NetworkValue}
use Rattle.g_net.specs.declared.proposal.Proposal.{Proposal}
use Rattle.g_text.specs.Answers.{IsRefusal}
use Rattle.s_map.specs.Mapping.{IsMapping}
use Rattle.s_map.specs.Texts.{IsAnswered, IsNetwork, Proposes}
use Rattle.s_cli.specs.declared.status.Status.{Status}
use Rattle.s_cli.specs.declared.status.Status.TheVariants as status
use Rattle.s_cli.specs.Status.{IsUnlessMemory, IsRefusedUnlessMemory}

-- which proposals a mapper may answer for a network and a number of leaves
abbrev pub Answering : Type 1
Answering = NetworkValue → ℕ → Proposal → Type 0

-- The output and the note for a network and one of the mapper's answers for it and up to six leaves in a table.
abbrev pub IsMappedBy : Answering → List ℕ → List ℕ → List ℕ → Type 0
IsMappedBy may_answer network output note = IsMapping network (λ n offer. IsAnswered (may_answer n 6) offer) output note

-- The output and the note for a network and what a file proposes. Both files determine them.
abbrev pub IsMappedWith : List ℕ → List ℕ → List ℕ → List ℕ → Type 0
IsMappedWith network proposal output note = IsMapping network (λ _ offer. Proposes proposal offer) output note

-- The network is refused with this fault: it is too long, or its bytes are no text, or a reference is wrong.
abbrev pub IsNetworkFault : List ℕ → Fault → Type 0
IsNetworkFault bytes fault =
    ((text_limit < length bytes) × (fault ≡ record { rule = G1; at = text_limit }))
    ⊎ ((length bytes ≤ text_limit) × IsRefusal bytes fault)

-- What the status is where no call on the files and on the output failed, each unless memory was wanting. Nothing but the
-- network is judged: whatever is proposed for it, the status is the same.
pub record IsNetworkJudged (network : List ℕ) (result : Status) : Type 0 where
  pub bad : ((n : NetworkValue) → IsNetwork network n → ⊥) → IsRefusedUnlessMemory result (IsNetworkFault network)
  pub good : (n : NetworkValue) → IsNetwork network n → IsUnlessMemory result status.Ok
