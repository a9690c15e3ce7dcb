-- What the parts of a module look at in a moment of a cycle, and what a write does to it.
use Rattle.std.specs.Prelude.{ℕ, zero, suc, ◌+◌, ◌*◌, ◌/◌, ◌%◌, ◌^◌, List, [], ◌∷◌}

-- What lives from cycle to cycle: a word for each variable that is not combinational, and for each memory its words by
-- ascending address, both in the order of their declarations (1364-2005, 4.2.2 and 4.9).
pub record Store : Type 0 where
  pub variables : List ℕ
  pub memories : List (List ℕ)

-- Within a cycle there are besides: a word for each input but the clock, a word for each net and combinational variable,
-- in the order of their declarations, and a word for each site, whose bits the source leaves open.
pub record View : Type 0 where
  pub inputs : List ℕ
  pub nets : List ℕ
  pub store : Store
  pub sites : List ℕ

-- what constant expressions look at
abbrev pub no_view : View
no_view = record { inputs = []; nets = []; store = record { variables = []; memories = [] }; sites = [] }

-- What is written, by its number in the view: a combinational variable, another variable, or a word of a memory, which
-- has a number from 0 at the lowest address.
pub data Place : Type 0 where
  Net : ℕ → Place
  Variable : ℕ → Place
  Word : ℕ → ℕ → Place

-- These bits of a place, from the number of the lowest one up, become this value.
pub record Write : Type 0 where
  pub place : Place
  pub low : ℕ
  pub width : ℕ
  pub value : ℕ

-- a word with other bits from the number of the lowest one up
abbrev pub with_bits : ℕ → ℕ → ℕ → ℕ → ℕ
with_bits low width value word = word / 2 ^ (low + width) * 2 ^ (low + width) + value * 2 ^ low + word % 2 ^ low

-- one element becomes another
abbrev pub changed_at : {A : Type 0} → (A → A) → List A → ℕ → List A
changed_at f [] i = []
changed_at f (x ∷ xs) zero = f x ∷ xs
changed_at f (x ∷ xs) (suc i) = x ∷ changed_at f xs i

abbrev pub written_at : Place → (ℕ → ℕ) → View → View
written_at (Net k) f v = record v { nets = changed_at f v.nets k }
written_at (Variable k) f v = record v { store = record { variables = changed_at f v.store.variables k; memories = v.store.memories } }
written_at (Word k i) f v =
    record v { store = record { variables = v.store.variables; memories = changed_at (λ words. changed_at f words i) v.store.memories k } }

-- writes one after another
abbrev pub applied : View → List Write → View
applied v [] = v
applied v (w ∷ ws) = applied (written_at w.place (with_bits w.low w.width w.value) v) ws
