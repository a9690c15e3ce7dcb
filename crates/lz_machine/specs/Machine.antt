-- Machines, and when one does only what another may do.
use Rattle.std.specs.Prelude.{◌≡◌, ℕ, zero, suc, List, Option, ⊤}
use Rattle.lz_base.specs.Ports.{FitPorts}
use Rattle.lz_base.specs.WordValue.{WordValue}
use Rattle.lz_base.specs.declared.name.Port.{Port}

-- What takes a word for each input in each cycle, and shows a word for each output.
pub record Machine : Type 1 where
  pub State : Type 0
  pub name : List ℕ
  pub clock : Option (List ℕ)
  pub inputs : List Port
  pub outputs : List Port
  -- it may begin in this state: under some first choice, where the machine leaves bits open
  pub Starts : State → Type 0
  -- From this state, with these words at the inputs, it may show these words and go on to this state: under some choice
  -- of the cycle, and then whatever the order in which its parts act.
  pub Does : State → List WordValue → List WordValue → State → Type 0

-- Whatever the second machine does from its state in so many cycles, the first may do from its own. So a choice of the
-- first may look at the words of its cycle and of those before, and at none that come later.
abbrev pub Follows : (A B : Machine) → ℕ → A.State → B.State → Type 0
Follows A B zero a b = ⊤
Follows A B (suc cycles) a b =
    (inputs : List WordValue) → FitPorts B.inputs inputs → (shown : List WordValue) (b' : B.State) → B.Does b inputs shown b'
    → (a' : A.State) × A.Does a inputs shown a' × Follows A B cycles a' b'

-- for so many cycles it does something, whatever the words at the inputs
abbrev pub Lasts : (B : Machine) → ℕ → B.State → Type 0
Lasts B zero b = ⊤
Lasts B (suc cycles) b =
    (inputs : List WordValue) → FitPorts B.inputs inputs
    → ((shown : List WordValue) × (b' : B.State) × B.Does b inputs shown b')
    × ((shown : List WordValue) (b' : B.State) → B.Does b inputs shown b' → Lasts B cycles b')

-- The second machine has the name, the clock and the ports of the first. It begins and never stops, and whatever it
-- shows, for all words at the inputs and for every number of cycles, the first may show.
pub record Realises (A B : Machine) : Type 0 where
  pub name : B.name ≡ A.name
  pub clock : B.clock ≡ A.clock
  pub inputs : B.inputs ≡ A.inputs
  pub outputs : B.outputs ≡ A.outputs
  pub begins : (b : B.State) × B.Starts b
  pub lasts : (b : B.State) → B.Starts b → (cycles : ℕ) → Lasts B cycles b
  pub follows : (b : B.State) → B.Starts b → (a : A.State) × A.Starts a × ((cycles : ℕ) → Follows A B cycles a b)
