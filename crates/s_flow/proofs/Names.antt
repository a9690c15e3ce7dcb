-- Names, their places in a list, and the bits that stand there.
use Rattle.std.proofs.Common.{◌≡◌, ◌<◌, ◌+◌, ℕ, suc, List, [], ◌∷◌, ◌++◌, length, drop, drop-cons, get_or, Bool, true, false, ◌==◌, if◌then◌else◌, refl, sym, ap, ◌∙◌, arith, inl, inr, ◌≤◌, zero-add, map}
use Rattle.std.proofs.lemmas.List.{length-map}
use lib.Pointwise.{pointwise, bytes_decides}
use denote.Ref.{Bor}
use Rattle.lz_base.specs.Names.{IsNew, AreDistinct, IsAmong}
use Rattle.lz_base.specs.declared.name.Port.{Port}
use Rattle.v_syntax.specs.declared.small.SmallPort.{SmallPort}
use Rattle.v_syntax.specs.declared.small.SmallPort.TheVariants.{Input, Register}
use Rattle.v_syntax.specs.Small.{input_names, register_names, port_names}
use Rattle.v_meaning.specs.Cycle.{bit_named, bit_ports}
use Rattle.lz_circuit.specs.Values.{value_at}
use Rattle.s_flow.specs.Made.{place_of, net_among, names_in}

-- equal names are found equal
pub same_name : (a b : List ℕ) → a ≡ b → pointwise ◌==◌ a b ≡ true
same_name a b e = (bytes_decides a b).1 e

-- the bit of a name is the one at its place
pub bit_at_place : (names : List (List ℕ)) (bits : List Bool) (name : List ℕ) → length names ≡ length bits → bit_named names bits name ≡ value_at bits (place_of names name)
bit_at_place [] [] name long = refl
bit_at_place [] (bit ∷ bits) name long = absurd (omega arith)
bit_at_place (n ∷ names) [] name long = absurd (omega arith)
bit_at_place (n ∷ names) (bit ∷ bits) name long =
    let rest = bit_at_place names bits name (omega arith) in
    elim (pointwise ◌==◌ n name) as (λ same. (if same then bit else bit_named names bits name) ≡ value_at (bit ∷ bits) (if same then 0 else suc (place_of names name)))
    [ true ↦ refl | false ↦ rest ]

-- a name that is there has its place within the list
pub place_within : (names : List (List ℕ)) (name : List ℕ) → IsAmong name names → place_of names name < length names
place_within [] name among = absurd among
place_within (n ∷ names) name (inl e) = rw (same_name n name (sym e)) (omega arith)
place_within (n ∷ names) name (inr among) =
    let rest = place_within names name among in
    elim (pointwise ◌==◌ n name) as (λ same. (if same then 0 else suc (place_of names name)) < suc (length names))
    [ true ↦ omega arith | false ↦ omega arith ]

-- the place in two lists, one behind the other, where the name is in the first one
pub place_first : (front back : List (List ℕ)) (name : List ℕ) → place_of front name < length front → place_of (front ++ back) name ≡ place_of front name
place_first [] back name within = absurd (omega arith)
place_first (n ∷ front) back name within =
    elim (pointwise ◌==◌ n name) as (λ same. (if same then 0 else suc (place_of front name)) < suc (length front)
    → (if same then 0 else suc (place_of (front ++ back) name)) ≡ (if same then 0 else suc (place_of front name)))
    [ true ↦ λ h. refl | false ↦ λ h. ap suc (place_first front back name (omega arith)) ] within

-- and where it is not
pub place_second : (front back : List (List ℕ)) (name : List ℕ) → length front ≤ place_of front name → place_of (front ++ back) name ≡ length front + place_of back name
place_second [] back name missing = sym (zero-add (place_of back name))
place_second (n ∷ front) back name missing =
    elim (pointwise ◌==◌ n name) as (λ same. suc (length front) ≤ (if same then 0 else suc (place_of front name))
    → (if same then 0 else suc (place_of (front ++ back) name)) ≡ suc (length front) + place_of back name)
    [ true ↦ λ h. absurd (omega arith) | false ↦ λ h. omega (arith, place_second front back name (omega arith)) ] missing

-- a name stays among more names
among_more : (front back : List (List ℕ)) (n name : List ℕ) → IsAmong name (front ++ back) → IsAmong name (front ++ n ∷ back)
among_more [] back n name among = inr among
among_more (m ∷ front) back n name (inl e) = inl e
among_more (m ∷ front) back n name (inr among) = inr (among_more front back n name among)

among_here : (front back : List (List ℕ)) (n name : List ℕ) → name ≡ n → IsAmong name (front ++ n ∷ back)
among_here [] back n name e = inl e
among_here (m ∷ front) back n name e = inr (among_here front back n name e)

-- a port's name is among the inputs and the registers
pub among_parted : (ports : List SmallPort) (name : List ℕ) → IsAmong name (port_names ports) → IsAmong name (input_names ports ++ register_names ports)
among_parted [] name among = among
among_parted (Input i ∷ ports) name (inl e) = inl e
among_parted (Input i ∷ ports) name (inr among) = inr (among_parted ports name among)
among_parted (Register i ∷ ports) name (inl e) = among_here (input_names ports) (register_names ports) i.name name e
among_parted (Register i ∷ ports) name (inr among) = among_more (input_names ports) (register_names ports) i.name name (among_parted ports name among)

pub length_names_in : (names : List (Bor (List ℕ))) → length (names_in names) ≡ length names
length_names_in names = length-map names (λ (n : Bor (List ℕ)). n.now)

-- the net of a name that is among the inputs
pub net_first : (a b : List (Bor (List ℕ))) (name : List ℕ) (p : ℕ) → p ≡ place_of (names_in a) name → p < length a → 2 + p ≡ net_among (names_in a) (names_in b) name
net_first a b name p is within =
    let there : place_of (names_in a) name < length (names_in a) = omega (arith, length-map a (λ (n : Bor (List ℕ)). n.now)) in
    ap (λ k. 2 + k) (is ∙ sym (place_first (names_in a) (names_in b) name there))

-- the net of a name that is not
pub net_second : (a b : List (Bor (List ℕ))) (name : List ℕ) (n p q : ℕ) → n ≡ length a → p ≡ place_of (names_in a) name → n ≤ p → q ≡ place_of (names_in b) name → 2 + n + q ≡ net_among (names_in a) (names_in b) name
net_second a b name n p q long is missing other =
    let there : length (names_in a) ≤ place_of (names_in a) name = omega (arith, length-map a (λ (n : Bor (List ℕ)). n.now)) in
    omega (arith, place_second (names_in a) (names_in b) name there, length-map a (λ (n : Bor (List ℕ)). n.now))

-- the names of one-bit ports
pub names_of_ports : (names : List (List ℕ)) → map (λ (p : Port). p.name) (bit_ports names) ≡ names
names_of_ports [] = refl
names_of_ports (n ∷ names) = ap (λ ns. n ∷ ns) (names_of_ports names)

new_append : (front back : List (List ℕ)) (name : List ℕ) → IsNew name front → IsNew name back → IsNew name (front ++ back)
new_append [] back name none fresh = fresh
new_append (m ∷ front) back name fresh more = (fresh.0, new_append front back name fresh.1 more)

new_front : (front back : List (List ℕ)) (name : List ℕ) → IsNew name (front ++ back) → IsNew name front × IsNew name back
new_front [] back name fresh = (tt, fresh)
new_front (m ∷ front) back name fresh = let rest = new_front front back name fresh.1 in ((fresh.0, rest.0), rest.1)

-- a new name is put among distinct ones
distinct_insert : (front back : List (List ℕ)) (name : List ℕ) → IsNew name (front ++ back) → AreDistinct (front ++ back) → AreDistinct (front ++ name ∷ back)
distinct_insert [] back name fresh distinct = (fresh, distinct)
distinct_insert (m ∷ front) back name fresh distinct =
    let parts = new_front front back m distinct.0 in
    (new_append front (name ∷ back) m parts.0 (λ e. fresh.0 (sym e), parts.1), distinct_insert front back name fresh.1 distinct.1)

-- a name that is new among the ports is new among the inputs and the registers
new_parted : (ports : List SmallPort) (name : List ℕ) → IsNew name (port_names ports) → IsNew name (input_names ports) × IsNew name (register_names ports)
new_parted [] name fresh = (tt, tt)
new_parted (Input i ∷ ports) name fresh = let rest = new_parted ports name fresh.1 in ((fresh.0, rest.0), rest.1)
new_parted (Register i ∷ ports) name fresh = let rest = new_parted ports name fresh.1 in (rest.0, (fresh.0, rest.1))

distinct_ports : (ports : List SmallPort) → AreDistinct (port_names ports) → AreDistinct (input_names ports ++ register_names ports)
distinct_ports [] distinct = tt
distinct_ports (Input i ∷ ports) distinct =
    let fresh = new_parted ports i.name distinct.0 in
    (new_append (input_names ports) (register_names ports) i.name fresh.0 fresh.1, distinct_ports ports distinct.1)
distinct_ports (Register i ∷ ports) distinct =
    let fresh = new_parted ports i.name distinct.0 in
    distinct_insert (input_names ports) (register_names ports) i.name (new_append (input_names ports) (register_names ports) i.name fresh.0 fresh.1) (distinct_ports ports distinct.1)

-- the clock, the inputs and the registers are distinct where the clock and the ports are
pub distinct_parted : (ports : List SmallPort) (clock : List ℕ) → AreDistinct (clock ∷ port_names ports) → AreDistinct (clock ∷ input_names ports ++ register_names ports)
distinct_parted ports clock distinct =
    let fresh = new_parted ports clock distinct.0 in
    (new_append (input_names ports) (register_names ports) clock fresh.0 fresh.1, distinct_ports ports distinct.1)

-- a name that stands behind others in a list of distinct names is none of them
pub new_behind : (front back : List (List ℕ)) (name : List ℕ) → AreDistinct (front ++ name ∷ back) → IsNew name front
new_behind [] back name distinct = tt
new_behind (m ∷ front) back name distinct =
    let parts = new_front front (name ∷ back) m distinct.0 in
    ((λ e. parts.1.0 (sym e)), new_behind front back name distinct.1)

-- the next of the names that are left is none of those before
pub new_item : (names : List (Bor (List ℕ))) (i : ℕ) (x : Bor (List ℕ)) (front : List (List ℕ)) → i < length names → x ≡ get_or names i x → AreDistinct (front ++ names_in (drop i names)) → IsNew x.now front
new_item names i x front within is distinct =
    let e : drop i names ≡ x ∷ drop (suc i) names = drop-cons names i x within ∙ ap (λ y. y ∷ drop (suc i) names) (sym is) in
    new_behind front (names_in (drop (suc i) names)) x.now (rw e at distinct)

-- the front of distinct names
pub distinct_front : (front back : List (List ℕ)) → AreDistinct (front ++ back) → AreDistinct front
distinct_front [] back distinct = tt
distinct_front (m ∷ front) back distinct = let parts = new_front front back m distinct.0 in (parts.0, distinct_front front back distinct.1)
