-- Designs in which each variable and each memory belongs to one process, and no other process looks at what that one writes
-- at once, so that the order of the steps of the processes does not matter (1364-2005, 9.2.1, 9.2.2 and 11.4.2).
use Rattle.std.specs.Prelude.{◌≡◌, ◌⊎◌, ⊤, ℕ, suc, List, [], ◌∷◌, get_or, slice_index, false}
use Rattle.v_meaning.specs.Views.{View, Place, Net, Variable, Word}
use Rattle.v_meaning.specs.Acts.{Acts}
use Rattle.v_meaning.specs.Designs.{Design}
use Rattle.v_depends.specs.Nodes.{is_in}
use Rattle.v_order.specs.Settling.{ActsRespect}
use Rattle.v_order.specs.Steady.{AtOnce, WritesTo}

-- the number of the clocked process to which a variable belongs, and a memory
pub record Owners : Type 0 where
  pub variable : ℕ → ℕ
  pub memory : ℕ → ℕ

-- a variable of this process, or a word of one of its memories
abbrev pub IsOwn : Owners → ℕ → Place → Type 0
IsOwn o process (Net k) = ⊥
IsOwn o process (Variable k) = o.variable k ≡ process
IsOwn o process (Word k i) = o.memory k ≡ process

-- two views that differ in nothing but those of these variables and memories that do not belong to this process
pub record AgreeFor (b : AtOnce) (o : Owners) (process : ℕ) (v w : View) : Type 0 where
  pub inputs : v.inputs ≡ w.inputs
  pub nets : v.nets ≡ w.nets
  pub sites : v.sites ≡ w.sites
  pub variables : (k : ℕ) → (is_in k b.variables ≡ false) ⊎ (o.variable k ≡ process) → slice_index v.store.variables k ≡ slice_index w.store.variables k
  pub memories : (k : ℕ) → (is_in k b.memories ≡ false) ⊎ (o.memory k ≡ process) → get_or v.store.memories k [] ≡ get_or w.store.memories k []

-- A process that writes only what belongs to it, and does not look at those of these variables and memories that belong to
-- another one.
pub record IsApartIn (b : AtOnce) (o : Owners) (process : ℕ) (acts : Acts) : Type 0 where
  pub writes : WritesTo (IsOwn o process) (IsOwn o process) acts
  pub looks : ActsRespect (AgreeFor b o process) acts

-- each with its number, where the first one has this
abbrev pub EachFrom : {A : Type 0} → (ℕ → A → Type 0) → ℕ → List A → Type 0
EachFrom P n [] = ⊤
EachFrom P n (x ∷ xs) = P n x × EachFrom P (suc n) xs

abbrev pub AreApartFrom : AtOnce → Owners → ℕ → List Acts → Type 0
AreApartFrom b o process processes = EachFrom (IsApartIn b o) process processes

-- So is each clocked process, where these variables and memories are those that are written at once.
abbrev pub AreApart : Design → AtOnce → Owners → Type 0
AreApart d b o = AreApartFrom b o 0 d.clocked
