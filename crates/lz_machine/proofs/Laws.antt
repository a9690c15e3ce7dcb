-- The laws by which machines that follow each other are composed.
use Rattle.std.proofs.Common.{◌≡◌, ℕ, zero, suc, List, ◌∙◌, subst}
use Rattle.lz_base.specs.Ports.{FitPorts}
use Rattle.lz_base.specs.WordValue.{WordValue}
use Rattle.lz_machine.specs.Machine.{Machine, Follows, Lasts, Realises}

-- related states step to related states
abbrev pub Steps : (A B : Machine) → (A.State → B.State → Type 0) → Type 0
Steps A B R =
    (a : A.State) (b : B.State) → R a b → (inputs : List WordValue) → FitPorts B.inputs inputs → (shown : List WordValue) (b' : B.State) → B.Does b inputs shown b'
    → (a' : A.State) × A.Does a inputs shown a' × R a' b'

-- then they follow each other for every number of cycles
pub follows_by : (A B : Machine) (R : A.State → B.State → Type 0) → Steps A B R → (cycles : ℕ) (a : A.State) (b : B.State) → R a b → Follows A B cycles a b
follows_by A B R step zero a b h = tt
follows_by A B R step (suc cycles) a b h = λ inputs fit shown b' does.
    let one = step a b h inputs fit shown b' does in
    (one.0, one.1, follows_by A B R step cycles one.0 b' one.2)

-- where a fact holds of a state, the machine does something, and the fact holds again
abbrev pub GoesOn : (B : Machine) → (B.State → Type 0) → Type 0
GoesOn B P =
    (b : B.State) → P b → (inputs : List WordValue) → FitPorts B.inputs inputs
    → ((shown : List WordValue) × (b' : B.State) × B.Does b inputs shown b')
    × ((shown : List WordValue) (b' : B.State) → B.Does b inputs shown b' → P b')

-- then it never stops
pub lasts_by : (B : Machine) (P : B.State → Type 0) → GoesOn B P → (cycles : ℕ) (b : B.State) → P b → Lasts B cycles b
lasts_by B P go zero b h = tt
lasts_by B P go (suc cycles) b h = λ inputs fit.
    let on = go b h inputs fit in
    (on.0, λ shown b' does. lasts_by B P go cycles b' (on.1 shown b' does))

-- one behind the other, through a middle machine
pub follows_through : (A B C : Machine) → C.inputs ≡ B.inputs → (cycles : ℕ) (a : A.State) (b : B.State) (c : C.State) → Follows A B cycles a b → Follows B C cycles b c → Follows A C cycles a c
follows_through A B C e zero a b c f g = tt
follows_through A B C e (suc cycles) a b c f g = λ inputs fit shown c' does.
    let two = g inputs fit shown c' does in
    let one = f inputs (subst (λ ports. FitPorts ports inputs) e fit) shown two.0 two.1 in
    (one.0, one.1, follows_through A B C e cycles one.0 two.0 c' one.2 two.2)

-- what realises a machine that realises another realises that one
pub realises_through : (A B C : Machine) → Realises A B → Realises B C → Realises A C
realises_through A B C f g = record {
  name = g.name ∙ f.name;
  clock = g.clock ∙ f.clock;
  inputs = g.inputs ∙ f.inputs;
  outputs = g.outputs ∙ f.outputs;
  begins = g.begins;
  lasts = g.lasts;
  follows = λ c starts.
      let two = g.follows c starts in
      let one = f.follows two.0 two.1 in
      (one.0, one.1, λ cycles. follows_through A B C g.inputs cycles one.0 two.0 c (one.2 cycles) (two.2 cycles));
}
