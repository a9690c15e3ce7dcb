-- What flip-flops hold behind an edge, one after another.
use Rattle.std.proofs.Common.{◌≡◌, ◌<◌, ◌≤◌, ◌+◌, ℕ, zero, suc, List, [], ◌∷◌, ◌++◌, length, take, drop, get_or, Bool, false, if◌then◌else◌, arith, refl, ap, ◌∙◌, add-one}
use Rattle.std.proofs.Math.ListN.{set}
use Rattle.n_cells.specs.declared.netlist.Flop.{Flop}
use Rattle.n_cells.specs.Netlist.{FlopsBelow}
use Rattle.lz_circuit.specs.Values.{value_at}
use Rattle.n_cells.specs.Run.{after_edge}

-- the net and the enable of a flip-flop are there
pub net_there : (count i : ℕ) (fs : List Flop) (d : Flop) → FlopsBelow count fs → i < length fs → (get_or fs i d).net < count
net_there count i [] d h lt = absurd (omega arith)
net_there count zero (f ∷ fs) d h lt = h.0
net_there count (suc i) (f ∷ fs) d h lt = net_there count i fs d h.2 (omega arith)

pub enable_there : (count i : ℕ) (fs : List Flop) (d : Flop) → FlopsBelow count fs → i < length fs → (get_or fs i d).enable < count
enable_there count i [] d h lt = absurd (omega arith)
enable_there count zero (f ∷ fs) d h lt = h.1
enable_there count (suc i) (f ∷ fs) d h lt = enable_there count i fs d h.2 (omega arith)

-- The bits while the first of them are moved: those before the index are as behind the edge, the others as before it.
pub moving : List Bool → List Flop → List Bool → ℕ → List Bool
moving values fs bits i = take i (after_edge values fs bits) ++ drop i bits

-- the bit at the index is moved
pub move_on : (values : List Bool) (fs : List Flop) (bits : List Bool) (i : ℕ) (d : Flop) → length bits ≡ length fs → i < length fs
    → set (moving values fs bits i) i
    (if value_at values (get_or fs i d).enable then value_at values (get_or fs i d).net else get_or (moving values fs bits i) i false)
    ≡ moving values fs bits (i + 1)
unfolding moving
move_on values [] bits i d e lt = absurd (omega arith)
move_on values (f ∷ fs) [] i d e lt = absurd (omega arith)
move_on values (f ∷ fs) (b ∷ bits) zero d e lt = refl
move_on values (f ∷ fs) (b ∷ bits) (suc i) d e lt =
    rw (add-one (suc i))
    (ap (λ l. (if value_at values f.enable then value_at values f.net else b) ∷ l) (move_on values fs bits i d (omega arith) (omega arith) ∙ ap (moving values fs bits) (add-one i)))

pub move_next : (values now : List Bool) (fs : List Flop) (bits : List Bool) (i : ℕ) (d : Flop) (b : Bool) → length bits ≡ length fs → i < length fs → now ≡ moving values fs bits i
    → b ≡ (if get_or values (get_or fs i d).enable false then get_or values (get_or fs i d).net false else get_or now i false) → set now i b ≡ moving values fs bits (i + 1)
move_next values now fs bits i d b many lt inv e =
    let held : b ≡ (if value_at values (get_or fs i d).enable then value_at values (get_or fs i d).net else get_or (moving values fs bits i) i false) = e ∙ rw inv refl in
    ap (λ l. set l i b) inv ∙ ap (set (moving values fs bits i) i) held ∙ move_on values fs bits i d many lt

pub move_begins : (values : List Bool) (fs : List Flop) (bits : List Bool) → moving values fs bits 0 ≡ bits
unfolding moving
move_begins values fs bits = refl

pub move_ends : (values : List Bool) (fs : List Flop) (bits : List Bool) (i : ℕ) → length bits ≡ length fs → length fs ≤ i → moving values fs bits i ≡ after_edge values fs bits
unfolding moving
move_ends values [] [] zero e past = refl
move_ends values [] [] (suc i) e past = refl
move_ends values [] (b ∷ bits) i e past = absurd (omega arith)
move_ends values (f ∷ fs) [] i e past = absurd (omega arith)
move_ends values (f ∷ fs) (b ∷ bits) zero e past = absurd (omega arith)
move_ends values (f ∷ fs) (b ∷ bits) (suc i) e past =
    ap (λ l. (if value_at values f.enable then value_at values f.net else b) ∷ l) (move_ends values fs bits i (omega arith) (omega arith))
