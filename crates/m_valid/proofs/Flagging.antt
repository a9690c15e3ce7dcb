-- Flags that are set tell of one number more.
use Rattle.std.proofs.Common.{◌≡◌, ◌<◌, ◌≤◌, ◌+◌, ℕ, zero, suc, List, [], ◌∷◌, ◌++◌, ◌==◌, ◌||◌, length, get_or, Bool, true, false, Some, slice_get, map, take, flat_map, ◌/◌, replicate, subst, refl, ap, sym, ◌∙◌, arith, append_assoc, append-nil, inl, inr}
use Rattle.std.proofs.Math.ListN.{set}
use Rattle.std.proofs.lemmas.List.{get_or-set_same, get_or-set_other}
use Rattle.std.proofs.lemmas.Bool.Decides.{eqb_tells}
use Rattle.std.specs.Option.{option_map}
use Rattle.g_net.specs.declared.network.Flip.{Flip}
use Rattle.g_net.specs.declared.network.Output.{Output}
use Rattle.g_net.specs.declared.network.Gate.{Gate}
use Rattle.g_net.specs.declared.network.Gate.TheVariants.{And, Xor, Carry}
use Rattle.g_net.specs.Network.{NetworkValue, FlipsBelow, ReadsBelow, ReadBackwards, first_gate, gate_nodes, node_count, nodes_of}
use Rattle.m_valid.specs.Validity.{is_among, half, output_uses, flip_uses, carry_uses, uses_of}
use Rattle.m_valid.specs.Walk.{Tells, AllReadBelow}
use Rattle.m_valid.proofs.Lists.{eq_true, take_end}

pub among_more : (k : ℕ) (xs : List ℕ) (n : ℕ) → is_among k (xs ++ n ∷ []) ≡ is_among k xs || (n == k)
among_more k [] n = or_false (n == k)
  where
    or_false : (b : Bool) → b || false ≡ b
    or_false true = refl
    or_false false = refl
among_more k (x ∷ xs) n = ap (λ b. (x == k) || b) (among_more k xs n) ∙ or_or (x == k) (is_among k xs) (n == k)
  where
    or_or : (a b c : Bool) → a || (b || c) ≡ (a || b) || c
    or_or true b c = refl
    or_or false b c = refl

or_true : (b : Bool) → b || true ≡ true
or_true true = refl
or_true false = refl

or_nothing : (b : Bool) → b || false ≡ b
or_nothing true = refl
or_nothing false = refl

pub flag_more : (flags : List Bool) (n : ℕ) → n < length flags → (before : List ℕ) → Tells flags before → Tells (set flags n true) (before ++ n ∷ [])
flag_more flags n lt before h k = elim (eqb_tells n k) [
  | inl e ↦ rw (← e.1) (get_or-set_same flags n true false lt ∙ sym (among_more n before n ∙ ap (λ b. is_among n before || b) (eq_true n n refl) ∙ or_true (is_among n before)))
  | inr e ↦ get_or-set_other flags n k true false (λ s. e.1 (sym s)) ∙ h k ∙ sym (among_more k before n ∙ ap (λ b. is_among k before || b) e.0 ∙ or_nothing (is_among k before))
]

pub no_flag : (count : ℕ) → Tells (replicate count false) []
no_flag zero k = refl
no_flag (suc count) zero = refl
no_flag (suc count) (suc k) = no_flag count k

-- nothing is told of numbers beyond the flags
pub flag_beyond : (flags : List Bool) (k : ℕ) → length flags ≤ k → get_or flags k false ≡ false
flag_beyond [] k past = refl
flag_beyond (b ∷ flags) zero past = absurd (omega arith)
flag_beyond (b ∷ flags) (suc k) past = flag_beyond flags k (omega arith)

-- one number more behind those that are told of
pub tells_on : (flags : List Bool) (before xs ys : List ℕ) (n : ℕ) → ys ≡ xs ++ n ∷ [] → Tells flags ((before ++ xs) ++ n ∷ []) → Tells flags (before ++ ys)
tells_on flags before xs ys n e h k = h k ∙ ap (is_among k) (append_assoc before xs (n ∷ []) ∙ ap (λ l. before ++ l) (sym e))

pub tells_all : (flags : List Bool) (before xs ys zs : List ℕ) → zs ≡ xs ++ ys → Tells flags ((before ++ xs) ++ ys) → Tells flags (before ++ zs)
tells_all flags before xs ys zs e h k = h k ∙ ap (is_among k) (append_assoc before xs ys ∙ ap (λ l. before ++ l) (sym e))

pub tells_none : (flags : List Bool) (before : List ℕ) → Tells flags before → Tells flags (before ++ [])
tells_none flags before h k = h k ∙ ap (is_among k) (sym (append-nil before))

pub tells_end : {X : Type 0} (flags : List Bool) (before : List ℕ) (f : X → List ℕ) (xs : List X) (i : ℕ) → length xs ≤ i → Tells flags (before ++ flat_map f (take i xs)) → Tells flags (before ++ flat_map f xs)
tells_end flags before f xs i past h k = h k ∙ ap (λ l. is_among k (before ++ flat_map f l)) (take_end xs i past)

-- the nodes of a flip-flop are there
pub flips_there : (count : ℕ) (fs : List Flip) (i : ℕ) (d : Flip) → FlipsBelow count fs → i < length fs → (k : ℕ) → k < 2 → get_or ((get_or fs i d).literal ∷ (get_or fs i d).enable ∷ []) k 0 / 2 < count
flips_there count [] i d h lt k two = absurd (omega arith)
flips_there count (f ∷ fs) zero d h lt zero two = h.0
flips_there count (f ∷ fs) zero d h lt (suc zero) two = h.1
flips_there count (f ∷ fs) zero d h lt (suc (suc k)) two = absurd (omega arith)
flips_there count (f ∷ fs) (suc i) d h lt k two = flips_there count fs i d h.2 (omega arith) k two

-- the nodes of an output
pub output_more : (os : List Output) (i : ℕ) (literals : List ℕ) → option_map (λ (o : Output). o.literals) (slice_get os i) ≡ Some literals
    → flat_map output_uses (take (i + 1) os) ≡ flat_map output_uses (take i os) ++ map half literals
output_more [] i literals e = cc
output_more (o ∷ os) zero literals e = let are : o.literals ≡ literals = cc in append-nil (map half o.literals) ∙ ap (map half) are
output_more (o ∷ os) (suc i) literals e =
    let on : suc i + 1 ≡ suc (i + 1) = omega arith in
    ap (λ k. flat_map output_uses (take k (o ∷ os))) on
    ∙ ap (λ l. output_uses o ++ l) (output_more os i literals e)
    ∙ sym (append_assoc (output_uses o) (flat_map output_uses (take i os)) (map half literals))

-- the nodes that gates read are there
reads_wider : (a b : ℕ) (g : Gate) → a ≤ b → ReadsBelow a g → ReadsBelow b g
reads_wider a b (And x y) le h = (omega (arith, h.0), omega (arith, h.1))
reads_wider a b (Xor x y) le h = (omega (arith, h.0), omega (arith, h.1))
reads_wider a b (Carry x y z) le h = (omega (arith, h.0), omega (arith, h.1), omega (arith, h.2))

gates_there : (next high : ℕ) (gs : List Gate) (d : Gate) (i : ℕ) → ReadBackwards next gs → next + gate_nodes gs ≤ high → i < length gs → ReadsBelow high (get_or gs i d)
gates_there next high [] d i h le lt = absurd (omega arith)
gates_there next high (g ∷ gs) d zero h le lt = reads_wider next high g (omega arith) h.0
gates_there next high (g ∷ gs) d (suc i) h le lt = gates_there (next + nodes_of g) high gs d i h.1 (omega (arith, le)) (omega arith)

pub all_there : (n : NetworkValue) (gs : List Gate) (count : ℕ) → gs ≡ n.gates → ReadBackwards (first_gate n) n.gates → count ≡ node_count n → AllReadBelow count gs
all_there n gs count are back e = λ k lt. gates_there (first_gate n) count gs (And 0 0) k (subst (ReadBackwards (first_gate n)) (sym are) back) (omega (arith, e, ap gate_nodes are)) lt

pub uses_told : (flags : List Bool) (n : NetworkValue) (fs : List Flip) (gs : List Gate) → fs ≡ n.flips → gs ≡ n.gates
    → Tells flags ((flat_map output_uses n.outputs ++ flat_map flip_uses fs) ++ flat_map carry_uses gs) → Tells flags (uses_of n)
uses_told flags n fs gs f g h k =
    h k
    ∙ ap (λ xs. is_among k ((flat_map output_uses n.outputs ++ flat_map flip_uses xs) ++ flat_map carry_uses gs)) f
    ∙ ap (λ ys. is_among k ((flat_map output_uses n.outputs ++ flat_map flip_uses n.flips) ++ flat_map carry_uses ys)) g
