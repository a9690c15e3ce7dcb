-- Where gates stand is known with one gate more, and what is found stands there.
use Rattle.std.proofs.Common.{rules, ◌≡◌, ◌<◌, ◌≤◌, ℕ, ◌+◌, ◌-◌, zero, suc, List, [], ◌∷◌, ◌++◌, length, take, get_or, slice_get, Bool, true, false, cond, is_some, if◌then◌else◌, nat_lt, Option, None, Some, refl, sym, ap, subst, ◌∙◌, arith, append_assoc, append-nil, add-zero, zero-add, inl, inr, ◌⊎◌}
use Rattle.std.proofs.lemmas.Bool.Decides.{nat_tests}
use Rattle.indexmap.specs.IndexMap.{get, Updates}
use Rattle.g_net.specs.declared.network.Gate.{Gate}
use Rattle.g_net.specs.declared.network.Gate.TheVariants.{And, Xor, Carry}
use Rattle.g_net.specs.Network.{NetworkValue, nodes_of, gate_nodes, first_gate}
use Rattle.g_net.specs.Walk.{node_of}
use Rattle.g_rules.specs.declared.shapes.Shape.{Shape}
use Rattle.g_rules.specs.declared.shapes.Shape.TheVariants as shape
use Rattle.g_build.specs.Building.{AllDiffer}
use Rattle.g_build.specs.declared.index.Index.{Index}
use Rattle.g_build.specs.Indexing.{is_same, first_place, owned, owners_of, Indexes, shape_of, shapes_of, gate_of}

same_is : (a b : Gate) → is_same a b ≡ true → a ≡ b
same_is a b e = search rules

same_self : (a : Gate) → is_same a a ≡ true
same_self a = search rules

-- the first place of a gate stays where gates come behind
choose : (t : Bool) (s a b p : Option ℕ) → (if t then s else a) ≡ p → (a ≡ p → b ≡ p) → (if t then s else b) ≡ p
choose true s a b p is f = is
choose false s a b p is f = f is

place_stays : (next : ℕ) (gs hs : List Gate) (q : Gate) (p : ℕ) → first_place next gs q ≡ Some p → first_place next (gs ++ hs) q ≡ Some p
place_stays next [] hs q p is = cc
place_stays next (d ∷ gs) hs q p is =
    choose (is_same d q) (Some next) (first_place (next + nodes_of d) gs q) (first_place (next + nodes_of d) (gs ++ hs) q) (Some p) is (place_stays (next + nodes_of d) gs hs q p)

-- another gate behind does not matter
place_other : (next : ℕ) (gs : List Gate) (g q : Gate) → is_same g q ≡ false → first_place next (gs ++ g ∷ []) q ≡ first_place next gs q
place_other next [] g q e = rw e refl
place_other next (d ∷ gs) g q e = ap (λ o. if is_same d q then Some next else o) (place_other (next + nodes_of d) gs g q e)

absent : (t : Bool) (s : ℕ) (a b p : Option ℕ) → (if t then Some s else a) ≡ None → (a ≡ None → b ≡ p) → (if t then Some s else b) ≡ p
absent true s a b p is f = cc
absent false s a b p is f = f is

-- a gate that was not there is found where it came
place_last : (next : ℕ) (gs : List Gate) (g q : Gate) → first_place next gs q ≡ None → is_same g q ≡ true → first_place next (gs ++ g ∷ []) q ≡ Some (next + gate_nodes gs)
place_last next [] g q none e = rw (e, add-zero next) refl
place_last next (d ∷ gs) g q none e =
    let at : next + (nodes_of d + gate_nodes gs) ≡ next + nodes_of d + gate_nodes gs = omega arith in
    absent (is_same d q) next (first_place (next + nodes_of d) gs q) (first_place (next + nodes_of d) (gs ++ g ∷ []) q) (Some (next + (nodes_of d + gate_nodes gs))) none
    (λ rest. place_last (next + nodes_of d) gs g q rest e ∙ ap Some (sym at))

pub place_more : (next : ℕ) (gs : List Gate) (g q : Gate) (t : Bool) → is_same g q ≡ t → first_place next gs g ≡ None
    → first_place next (gs ++ g ∷ []) q ≡ cond t (Some (next + gate_nodes gs)) (first_place next gs q)
place_more next gs g q true e none = place_last next gs g q (subst (λ k. first_place next gs k ≡ None) (same_is g q e) none) e
place_more next gs g q false e none = place_other next gs g q e

-- one that was there is found where it was
pub place_known : (next : ℕ) (gs : List Gate) (g q : Gate) (t : Bool) (p : ℕ) → is_same g q ≡ t → first_place next gs g ≡ Some p → first_place next (gs ++ g ∷ []) q ≡ first_place next gs q
place_known next gs g q true p e is =
    let here : first_place next gs q ≡ Some p = subst (λ k. first_place next gs k ≡ Some p) (same_is g q e) is in
    place_stays next gs (g ∷ []) q p here ∙ sym here
place_known next gs g q false p e is = place_other next gs g q e

-- what is found stands there
Found : ℕ → List Gate → Gate → ℕ → Type 0
Found next gs q p = (i : ℕ) × (slice_get gs i ≡ Some q) × (p ≡ next + gate_nodes (take i gs))

found_on : (next : ℕ) (d : Gate) (gs : List Gate) (q : Gate) (p : ℕ) (t : Bool) → is_same d q ≡ t → (if t then Some next else first_place (next + nodes_of d) gs q) ≡ Some p
    → (first_place (next + nodes_of d) gs q ≡ Some p → Found (next + nodes_of d) gs q p) → Found next (d ∷ gs) q p
unfolding Found
found_on next d gs q p true e is rest =
    let at : next ≡ p = cc in
    (0, ap Some (same_is d q e), omega (arith, at))
found_on next d gs q p false e is rest =
    let there = rest is in
    (suc there.0, there.1, omega (arith, there.2))

place_found : (next : ℕ) (gs : List Gate) (q : Gate) (p : ℕ) → first_place next gs q ≡ Some p → Found next gs q p
place_found next [] q p is = cc
place_found next (d ∷ gs) q p is = found_on next d gs q p (is_same d q) refl is (place_found (next + nodes_of d) gs q p)

-- what is not found does not stand anywhere
place_none : (next : ℕ) (gs : List Gate) (q : Gate) (i : ℕ) → first_place next gs q ≡ None → slice_get gs i ≡ Some q → ⊥
place_none next [] q i none is = cc
place_none next (d ∷ gs) q zero none is =
    let same : d ≡ q = cc in
    let e : is_same d q ≡ true = subst (λ k. is_same d k ≡ true) same (same_self d) in
    let some : Some next ≡ None = subst (λ t. (if t then Some next else first_place (next + nodes_of d) gs q) ≡ None) e none in
    cc
place_none next (d ∷ gs) q (suc i) none is = place_none (next + nodes_of d) gs q i (later (is_same d q) (first_place (next + nodes_of d) gs q) none) is
  where
    later : (t : Bool) (a : Option ℕ) → (if t then Some next else a) ≡ None → a ≡ None
    later true a e = cc
    later false a e = e

-- one gate more has its index at each of its places
owners_more : (index : ℕ) (gs : List Gate) (g : Gate) → owners_of index (gs ++ g ∷ []) ≡ owners_of index gs ++ owned (index + length gs) g
owners_more index [] g = append-nil (owned index g) ∙ ap (λ k. owned k g) (sym (add-zero index))
owners_more index (d ∷ gs) g =
    let at : index + 1 + length gs ≡ index + length (d ∷ gs) = omega arith in
    ap (λ l. owned index d ++ l) (owners_more (index + 1) gs g ∙ ap (λ k. owners_of (index + 1) gs ++ owned k g) at)
    ∙ sym (append_assoc (owned index d) (owners_of (index + 1) gs) (owned (index + length (d ∷ gs)) g))

pub length_owners : (index : ℕ) (gs : List Gate) → length (owners_of index gs) ≡ gate_nodes gs
length_owners index [] = refl
length_owners index (And a b ∷ gs) = omega (arith, length_owners (index + 1) gs)
length_owners index (Xor a b ∷ gs) = omega (arith, length_owners (index + 1) gs)
length_owners index (Carry a b c ∷ gs) = omega (arith, length_owners (index + 1) gs)

-- the gate whose index stands at a place
pub owner_there : (index : ℕ) (gs : List Gate) (k j : ℕ) → slice_get (owners_of index gs) k ≡ Some j
    → (m : ℕ) × (g : Gate) × (j ≡ index + m) × (slice_get gs m ≡ Some g) × (get_or (shapes_of gs) k None ≡ shape_of g)
owner_there index [] k j is = cc
owner_there index (And a b ∷ gs) zero j is = let at : index ≡ j = cc in (0, And a b, omega (arith, at), refl, refl)
owner_there index (And a b ∷ gs) (suc k) j is =
    let r = owner_there (index + 1) gs k j is in
    (suc r.0, r.1, omega (arith, r.2), r.3, r.4)
owner_there index (Xor a b ∷ gs) zero j is = let at : index ≡ j = cc in (0, Xor a b, omega (arith, at), refl, refl)
owner_there index (Xor a b ∷ gs) (suc k) j is =
    let r = owner_there (index + 1) gs k j is in
    (suc r.0, r.1, omega (arith, r.2), r.3, r.4)
owner_there index (Carry a b c ∷ gs) zero j is = let at : index ≡ j = cc in (0, Carry a b c, omega (arith, at), refl, refl)
owner_there index (Carry a b c ∷ gs) (suc zero) j is = let at : index ≡ j = cc in (0, Carry a b c, omega (arith, at), refl, refl)
owner_there index (Carry a b c ∷ gs) (suc (suc k)) j is =
    let r = owner_there (index + 1) gs k j is in
    (suc r.0, r.1, omega (arith, r.2), r.3, r.4)

some_within : (gs : List Gate) (i : ℕ) (g : Gate) → slice_get gs i ≡ Some g → i < length gs
some_within [] i g is = cc
some_within (d ∷ gs) zero g is = omega arith
some_within (d ∷ gs) (suc i) g is = omega (arith, some_within gs i g is)

got : (xs : List ℕ) (k : ℕ) → k < length xs → slice_get xs k ≡ Some (get_or xs k 0)
got [] k h = absurd (omega arith)
got (y ∷ ys) zero h = refl
got (y ∷ ys) (suc k) h = got ys k (omega arith)

owner_at : (index : Index) (gs : List Gate) (owners : List ℕ) (k : ℕ) → Indexes index gs → owners ≡ index.owners.items → k < length owners → slice_get (owners_of 0 gs) k ≡ Some (get_or owners k 0)
owner_at index gs owners k h are within = ap (λ l. slice_get l k) (sym h.owned ∙ sym are) ∙ got owners k within

pub owner_within : (index : Index) (gs : List Gate) (owners : List ℕ) (k : ℕ) → Indexes index gs → owners ≡ index.owners.items → k < length owners → get_or owners k 0 < length gs
owner_within index gs owners k h are within =
    let r = owner_there 0 gs k (get_or owners k 0) (owner_at index gs owners k h are within) in
    omega (arith, r.2, some_within gs r.0 r.1 r.3)

pub owner_shape : (index : Index) (gs : List Gate) (owners : List ℕ) (k : ℕ) (g : Gate) → Indexes index gs → owners ≡ index.owners.items → k < length owners
    → slice_get gs (get_or owners k 0) ≡ Some g → shape_of g ≡ get_or (shapes_of gs) k None
owner_shape index gs owners k g h are within at =
    let r = owner_there 0 gs k (get_or owners k 0) (owner_at index gs owners k h are within) in
    let same : get_or owners k 0 ≡ r.0 = omega (arith, r.2) in
    let gate : Some g ≡ Some r.1 = sym at ∙ ap (slice_get gs) same ∙ r.3 in
    let e : g ≡ r.1 = cc in
    ap shape_of e ∙ sym r.4

none_beyond : (index : ℕ) (gs : List Gate) (k : ℕ) → length (owners_of index gs) ≤ k → get_or (shapes_of gs) k None ≡ None
none_beyond index [] k h = refl
none_beyond index (And a b ∷ gs) zero h = absurd (omega arith)
none_beyond index (And a b ∷ gs) (suc k) h = none_beyond (index + 1) gs k (omega arith)
none_beyond index (Xor a b ∷ gs) zero h = absurd (omega arith)
none_beyond index (Xor a b ∷ gs) (suc k) h = none_beyond (index + 1) gs k (omega arith)
none_beyond index (Carry a b c ∷ gs) zero h = absurd (omega arith)
none_beyond index (Carry a b c ∷ gs) (suc zero) h = absurd (omega arith)
none_beyond index (Carry a b c ∷ gs) (suc (suc k)) h = none_beyond (index + 1) gs k (omega arith)

pub shape_beyond : (index : Index) (gs : List Gate) (owners : List ℕ) (k : ℕ) → Indexes index gs → owners ≡ index.owners.items → length owners ≤ k → None ≡ get_or (shapes_of gs) k None
shape_beyond index gs owners k h are beyond = sym (none_beyond 0 gs k (omega (arith, ap length h.owned, ap length are)))

-- an index knows one gate more: a new one, or one that is there
owned_more : (old new : Index) (gs : List Gate) (g : Gate) (index : ℕ) → Indexes old gs → length gs ≡ index → new.owners.items ≡ old.owners.items ++ owned index g
    → new.owners.items ≡ owners_of 0 (gs ++ g ∷ [])
owned_more old new gs g index h long more =
    let at : 0 + length gs ≡ index = zero-add (length gs) ∙ long in
    more ∙ ap (λ l. l ++ owned index g) h.owned ∙ ap (λ k. owners_of 0 gs ++ owned k g) (sym at) ∙ sym (owners_more 0 gs g)

is_none : (o : Option ℕ) → is_some o ≡ false → o ≡ None
is_none None e = refl
is_none (Some p) e = cc

which : (o : Option ℕ) → is_some o ≡ true → (p : ℕ) × (o ≡ Some p)
which None e = cc
which (Some p) e = (p, refl)

pub indexes_new : (old new : Index) (gs : List Gate) (g : Gate) (index place : ℕ) → Indexes old gs → length gs ≡ index → is_some (get is_same old.places g) ≡ false
    → Updates is_same old.places new.places g (Some place) → place ≡ length old.owners.items → new.owners.items ≡ old.owners.items ++ owned index g → Indexes new (gs ++ g ∷ [])
indexes_new old new gs g index place h long none updates at more =
    let end : place ≡ 0 + gate_nodes gs = omega (arith, at, ap length h.owned, length_owners 0 gs) in
    record {
      found = λ q. updates.0 q
          ∙ ap (cond (is_same g q) (Some place)) (h.found q)
          ∙ ap (λ p. cond (is_same g q) (Some p) (first_place 0 gs q)) end
          ∙ sym (place_more 0 gs g q (is_same g q) refl (sym (h.found g) ∙ is_none (get is_same old.places g) none));
      owned = owned_more old new gs g index h long more;
    }

pub indexes_known : (old new : Index) (gs : List Gate) (g : Gate) (index : ℕ) → Indexes old gs → length gs ≡ index → is_some (get is_same old.places g) ≡ true
    → new.places ≡ old.places → new.owners.items ≡ old.owners.items ++ owned index g → Indexes new (gs ++ g ∷ [])
indexes_known old new gs g index h long some same more =
    let there = which (get is_same old.places g) some in
    record {
      found = λ q. ap (λ m. get is_same m q) same ∙ h.found q ∙ sym (place_known 0 gs g q (is_same g q) there.0 refl (sym (h.found g) ∙ there.1));
      owned = owned_more old new gs g index h long more;
    }

-- the gate of a shape stands where the shape is found
stood : (gs : List Gate) (k : ℕ) (s : Shape) → get_or (shapes_of gs) k None ≡ Some s → (i : ℕ) × (slice_get gs i ≡ Some (gate_of s)) × (k ≡ gate_nodes (take i gs))
stood [] k s is = cc
stood (And a b ∷ gs) zero s is =
    let same : shape.And a b ≡ s = cc in
    (0, ap (λ z. Some (gate_of z)) same, refl)
stood (And a b ∷ gs) (suc k) s is = let r = stood gs k s is in (suc r.0, r.1, omega (arith, r.2))
stood (Xor a b ∷ gs) zero s is =
    let same : shape.Xor a b ≡ s = cc in
    (0, ap (λ z. Some (gate_of z)) same, refl)
stood (Xor a b ∷ gs) (suc k) s is = let r = stood gs k s is in (suc r.0, r.1, omega (arith, r.2))
stood (Carry a b c ∷ gs) zero s is = cc
stood (Carry a b c ∷ gs) (suc zero) s is = cc
stood (Carry a b c ∷ gs) (suc (suc k)) s is = let r = stood gs k s is in (suc r.0, r.1, omega (arith, r.2))

pub shape_found : (n : NetworkValue) (node : ℕ) (s : Shape) (t : Bool) → nat_lt node (first_gate n) ≡ t
    → (if t then None else get_or (shapes_of n.gates) (node - first_gate n) None) ≡ Some s → (i : ℕ) × (slice_get n.gates i ≡ Some (gate_of s)) × (node ≡ node_of n i)
shape_found n node s true e is = cc
shape_found n node s false e is =
    let behind : first_gate n ≤ node = not_below node (first_gate n) e in
    let r = stood n.gates (node - first_gate n) s is in
    (r.0, r.1, omega (arith, r.2, behind))
  where
    not_below : (a b : ℕ) → nat_lt a b ≡ false → b ≤ a
    not_below a b e = grind (arith, nat_tests)

-- there are so many places as nodes of gates
pub places_there : (index : Index) (gs : List Gate) → Indexes index gs → length index.owners.items ≡ gate_nodes gs
places_there index gs h = ap length h.owned ∙ length_owners 0 gs

-- what a network finds
pub finds_some : (n m : NetworkValue) (index : Index) (gate : Gate) (place first : ℕ) → n ≡ m → Indexes index n.gates → Some place ≡ get is_same index.places gate → first ≡ first_gate m
    → (i : ℕ) × (slice_get m.gates i ≡ Some gate) × (first + place ≡ node_of m i)
unfolding Found
finds_some n m index gate place first e h is at =
    let r = place_found 0 n.gates gate place (sym (h.found gate) ∙ sym is) in
    subst (λ (k : NetworkValue). (i : ℕ) × (slice_get k.gates i ≡ Some gate) × (first + place ≡ node_of k i)) e (r.0, r.1, omega (arith, r.2, at, ap first_gate e))

pub finds_none : (n m : NetworkValue) (index : Index) (gate : Gate) → n ≡ m → Indexes index n.gates → None ≡ get is_same index.places gate → (i : ℕ) → slice_get m.gates i ≡ Some gate → ⊥
finds_none n m index gate e h is i at = place_none 0 n.gates gate i (sym (h.found gate) ∙ sym is) (ap (λ (k : NetworkValue). slice_get k.gates i) e ∙ at)

-- gates that differ still do with one that is not among them
got_more : (gs : List Gate) (g h : Gate) (i : ℕ) → slice_get (gs ++ g ∷ []) i ≡ Some h → (slice_get gs i ≡ Some h) ⊎ ((i ≡ length gs) × (h ≡ g))
got_more [] g h zero is = let e : g ≡ h = cc in inr (refl, sym e)
got_more [] g h (suc i) is = cc
got_more (d ∷ gs) g h zero is = inl is
got_more (d ∷ gs) g h (suc i) is = elim (got_more gs g h i is) [
  | inl at ↦ inl at
  | inr at ↦ inr (ap suc at.0, at.1)
]

pub differ_more : (gs : List Gate) (g : Gate) → ((i : ℕ) → slice_get gs i ≡ Some g → ⊥) → AllDiffer gs → AllDiffer (gs ++ g ∷ [])
differ_more gs g new differ = λ i j h at_i at_j. elim (got_more gs g h i at_i) [
  | inl a ↦ (elim (got_more gs g h j at_j) [
    | inl b ↦ differ i j h a b
    | inr b ↦ absurd (new i (a ∙ ap Some b.1))
  ])
  | inr a ↦ (elim (got_more gs g h j at_j) [
    | inl b ↦ absurd (new j (b ∙ ap Some a.1))
    | inr b ↦ a.0 ∙ sym b.0
  ])
]
