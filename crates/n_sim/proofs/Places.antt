-- Nets whose bits are found at places among the bits of steps.
use Rattle.std.proofs.Common.{◌≡◌, ◌<◌, ◌≤◌, ◌+◌, ◌*◌, ℕ, zero, suc, List, [], ◌∷◌, ◌++◌, length, map, take, slice_get, Some, Bool, false, if◌then◌else◌, arith, refl, ap, sym, subst, ◌∙◌, length-append, append_assoc, add-one}
use Rattle.std.proofs.lemmas.List.{map-append}
use mathlib.Core.Bool.{xor}
use Rattle.lz_circuit.specs.Values.{value_at, majority}
use Rattle.n_cells.specs.declared.netlist.Flop.{Flop}
use Rattle.n_cells.specs.declared.netlist.Stored.{Stored}
use Rattle.n_cells.specs.declared.netlist.Stored.TheVariants.{Lut, Carry}
use Rattle.n_cells.specs.Netlist.{NetlistValue, AllBelow, FlopsBelow, IsWellFormed, ReadBackwards, ReadsBelow, cell_nets, first_net, nets_of}
use Rattle.n_cells.specs.Run.{after_edge, index_of, table_bit}
use Rattle.n_cells.specs.Walk.{all_values, cell_values}
use Rattle.n_sim.specs.declared.step.Step.{Step}
use Rattle.n_sim.specs.Steps.{Computes, Extends, Holds, IsFront, moved, place_at, run_steps}
use Rattle.n_sim.proofs.Cells.{below_wider}
use Rattle.n_sim.proofs.Steps.{constant_zero, extends_keep, extends_long}

pub all_more : (high : ℕ) (xs : List ℕ) (x : ℕ) → AllBelow high xs → x < high → AllBelow high (xs ++ x ∷ [])
all_more high [] x below lt = (lt, tt)
all_more high (y ∷ ys) x below lt = (below.0, all_more high ys x below.1 lt)

pub at_below : (high : ℕ) (xs : List ℕ) (n : ℕ) → 0 < high → AllBelow high xs → place_at xs n < high
at_below high [] n some below = some
at_below high (x ∷ xs) zero some below = below.0
at_below high (x ∷ xs) (suc n) some below = at_below high xs n some below.1

pub moved_below : (high : ℕ) (places nets : List ℕ) → 0 < high → AllBelow high places → AllBelow high (map (place_at places) nets)
moved_below high places [] some below = tt
moved_below high places (n ∷ nets) some below = (at_below high places n some below, moved_below high places nets some below)

pub flops_below : (high : ℕ) (places : List ℕ) (fs : List Flop) → 0 < high → AllBelow high places → FlopsBelow high (map (moved places) fs)
flops_below high places [] some below = tt
flops_below high places (f ∷ fs) some below = (at_below high places f.net some below, at_below high places f.enable some below, flops_below high places fs some below)

-- the bit at a net's place
pub value_moved : (bits : List Bool) (places : List ℕ) (n : ℕ) → value_at bits 0 ≡ false → value_at bits (place_at places n) ≡ value_at (map (value_at bits) places) n
value_moved bits [] n z = z
value_moved bits (p ∷ ps) zero z = refl
value_moved bits (p ∷ ps) (suc n) z = value_moved bits ps n z

pub index_moved : (bits : List Bool) (places leaves : List ℕ) → value_at bits 0 ≡ false → index_of bits (map (place_at places) leaves) ≡ index_of (map (value_at bits) places) leaves
index_moved bits places [] z = refl
index_moved bits places (l ∷ ls) z =
    ap (λ b. (if b then 1 else 0) + 2 * index_of bits (map (place_at places) ls)) (value_moved bits places l z)
    ∙ ap (λ i. (if value_at (map (value_at bits) places) l then 1 else 0) + 2 * i) (index_moved bits places ls z)

pub values_moved : (bits : List Bool) (places nets : List ℕ) → value_at bits 0 ≡ false → map (value_at bits) (map (place_at places) nets) ≡ map (value_at (map (value_at bits) places)) nets
values_moved bits places [] z = refl
values_moved bits places (n ∷ ns) z =
    ap (λ b. b ∷ map (value_at bits) (map (place_at places) ns)) (value_moved bits places n z)
    ∙ ap (λ l. value_at (map (value_at bits) places) n ∷ l) (values_moved bits places ns z)

pub edge_moved : (bits : List Bool) (places : List ℕ) (fs : List Flop) (state : List Bool) → value_at bits 0 ≡ false
    → after_edge bits (map (moved places) fs) state ≡ after_edge (map (value_at bits) places) fs state
edge_moved bits places [] state z = refl
edge_moved bits places (f ∷ fs) [] z = refl
edge_moved bits places (f ∷ fs) (b ∷ state) z =
    ap (λ e. (if e then value_at bits (place_at places f.net) else b) ∷ after_edge bits (map (moved places) fs) state) (value_moved bits places f.enable z)
    ∙ ap (λ v. (if value_at (map (value_at bits) places) f.enable then v else b) ∷ after_edge bits (map (moved places) fs) state) (value_moved bits places f.net z)
    ∙ ap (λ l. (if value_at (map (value_at bits) places) f.enable then value_at (map (value_at bits) places) f.net else b) ∷ l) (edge_moved bits places fs state z)

take_at : (front : List Bool) (i : ℕ) → i < length front → take (i + 1) front ≡ take i front ++ value_at front i ∷ []
take_at [] i lt = absurd (omega arith)
take_at (b ∷ bs) zero lt = refl
take_at (b ∷ bs) (suc i) lt = rw (add-one (suc i)) (ap (λ l. b ∷ l) (rw (add-one i) at (take_at bs i (omega arith))))

-- places before the steps
pub front_more : (front : List Bool) (places : List ℕ) (i : ℕ) → i < length front → map (value_at front) places ≡ take i front → map (value_at front) (places ++ i ∷ []) ≡ take (i + 1) front
front_more front places i lt h = map-append (value_at front) places (i ∷ []) ∙ ap (λ l. l ++ value_at front i ∷ []) h ∙ sym (take_at front i lt)

-- one cell more
nets_more : (cells : List Stored) (c : Stored) → cell_nets (cells ++ c ∷ []) ≡ cell_nets cells + nets_of c
nets_more [] c = omega arith
nets_more (d ∷ cells) c = omega (arith, nets_more cells c)

values_more : (front : List Bool) (cells : List Stored) (c : Stored) → all_values front (cells ++ c ∷ []) ≡ all_values front cells ++ cell_values (all_values front cells) c
values_more front [] c = refl
values_more front (d ∷ cells) c = values_more (front ++ cell_values front d) cells c

-- a cell reads nets that are there
pub reads_there : (first i : ℕ) (cells : List Stored) (c : Stored) → ReadBackwards first cells → slice_get cells i ≡ Some c → ReadsBelow (first + cell_nets (take i cells)) c
reads_there first i [] c back is = cc
reads_there first zero (d ∷ cells) c back is =
    let e : d ≡ c = cc in
    let here : first + cell_nets (take zero (d ∷ cells)) ≡ first = omega arith in
    rw (here, ← e) back.0
reads_there first (suc i) (d ∷ cells) c back is =
    let here : first + nets_of d + cell_nets (take i cells) ≡ first + cell_nets (take (suc i) (d ∷ cells)) = omega arith in
    subst (λ n. ReadsBelow n c) here (reads_there (first + nets_of d) i cells c back.1 is)

-- the bits at places that were there stay
places_on : (first : ℕ) (old new : List Step) (front : List Bool) (places : List ℕ) → Extends first old new → length front ≡ first → AllBelow (first + length old) places
    → map (value_at (run_steps front new)) places ≡ map (value_at (run_steps front old)) places
places_on first old new front [] x long below = refl
places_on first old new front (p ∷ ps) x long below =
    ap (λ b. b ∷ map (value_at (run_steps front new)) ps) (extends_keep first old new front p x long below.0)
    ∙ ap (λ l. value_at (run_steps front old) p ∷ l) (places_on first old new front ps x long below.1)

there_on : (first : ℕ) (old new : List Step) (places : List ℕ) → Extends first old new → AllBelow (first + length old) places → AllBelow (first + length new) places
there_on first old new places x below = below_wider (first + length old) (first + length new) places (omega (arith, extends_long first old new x)) below

-- the values of the nets so far
so_far : (first : ℕ) (old new : List Step) (front : List Bool) (places : List ℕ) (cells : List Stored) → Computes first old places cells → Extends first old new → IsFront first front
    → map (value_at (run_steps front new)) places ≡ all_values front cells
so_far first old new front places cells c x is = places_on first old new front places x is.long c.there ∙ c.values front is

pub computes_lut : (first : ℕ) (old new : List Step) (places after leaves : List ℕ) (p table : ℕ) (cells more : List Stored) → 2 ≤ first → Computes first old places cells → Extends first old new
    → Holds first new p (λ values. table_bit table (index_of values (map (place_at places) leaves))) → after ≡ places ++ p ∷ [] → more ≡ cells ++ Lut leaves table ∷ []
    → Computes first new after more
computes_lut first old new places after leaves p table cells more some c x h ea em = record {
  back = x.back;
  count = omega (arith, c.count, ap length ea, length-append places (p ∷ []), ap cell_nets em, nets_more cells (Lut leaves table));
  there = subst (AllBelow (first + length new)) (sym ea) (all_more (first + length new) places p (there_on first old new places x c.there) h.there);
  values = λ front is.
      let bits = run_steps front new in
      let zero_there = constant_zero first new front some is in
      let values = so_far first old new front places cells c x is in
      let own : value_at bits p ≡ table_bit table (index_of (all_values front cells) leaves) =
      h.value front is ∙ ap (table_bit table) (index_moved bits places leaves zero_there ∙ ap (λ vs. index_of vs leaves) values) in
      ap (map (value_at bits)) ea
      ∙ map-append (value_at bits) places (p ∷ [])
      ∙ ap (λ l. l ++ value_at bits p ∷ []) values
      ∙ ap (λ b. all_values front cells ++ b ∷ []) own
      ∙ sym (values_more front cells (Lut leaves table))
      ∙ ap (all_values front) (sym em);
}

pub computes_carry : (first : ℕ) (old new : List Step) (places after : List ℕ) (a b d pa pb pd sum carry : ℕ) (cells more : List Stored) → 2 ≤ first → pa ≡ place_at places a → pb ≡ place_at places b → pd ≡ place_at places d
    → Computes first old places cells → Extends first old new
    → Holds first new sum (λ values. xor (value_at values pa) (xor (value_at values pb) (value_at values pd)))
    → Holds first new carry (λ values. majority (value_at values pa) (value_at values pb) (value_at values pd))
    → after ≡ (places ++ sum ∷ []) ++ carry ∷ [] → more ≡ cells ++ Carry a b d ∷ []
    → Computes first new after more
computes_carry first old new places after a b d pa pb pd sum carry cells more some at_a at_b at_d c x hs hc ea em = record {
  back = x.back;
  count = omega (arith, c.count, ap length ea, length-append (places ++ sum ∷ []) (carry ∷ []), length-append places (sum ∷ []), ap cell_nets em, nets_more cells (Carry a b d));
  there = subst (AllBelow (first + length new)) (sym ea)
      (all_more (first + length new) (places ++ sum ∷ []) carry (all_more (first + length new) places sum (there_on first old new places x c.there) hs.there) hc.there);
  values = λ front is.
      let bits = run_steps front new in
      let zero_there = constant_zero first new front some is in
      let values = so_far first old new front places cells c x is in
      let va : value_at bits pa ≡ value_at (all_values front cells) a = ap (value_at bits) at_a ∙ value_moved bits places a zero_there ∙ ap (λ vs. value_at vs a) values in
      let vb : value_at bits pb ≡ value_at (all_values front cells) b = ap (value_at bits) at_b ∙ value_moved bits places b zero_there ∙ ap (λ vs. value_at vs b) values in
      let vd : value_at bits pd ≡ value_at (all_values front cells) d = ap (value_at bits) at_d ∙ value_moved bits places d zero_there ∙ ap (λ vs. value_at vs d) values in
      let own_sum : value_at bits sum ≡ xor (value_at (all_values front cells) a) (xor (value_at (all_values front cells) b) (value_at (all_values front cells) d)) =
      hs.value front is ∙ rw (va, vb, vd) refl in
      let own_carry : value_at bits carry ≡ majority (value_at (all_values front cells) a) (value_at (all_values front cells) b) (value_at (all_values front cells) d) =
      hc.value front is ∙ rw (va, vb, vd) refl in
      ap (map (value_at bits)) ea
      ∙ map-append (value_at bits) (places ++ sum ∷ []) (carry ∷ [])
      ∙ ap (λ l. l ++ value_at bits carry ∷ []) (map-append (value_at bits) places (sum ∷ []))
      ∙ append_assoc (map (value_at bits) places) (value_at bits sum ∷ []) (value_at bits carry ∷ [])
      ∙ ap (λ l. l ++ value_at bits sum ∷ value_at bits carry ∷ []) values
      ∙ ap (λ s. all_values front cells ++ s ∷ value_at bits carry ∷ []) own_sum
      ∙ ap (λ s. all_values front cells ++ xor (value_at (all_values front cells) a) (xor (value_at (all_values front cells) b) (value_at (all_values front cells) d)) ∷ s ∷ []) own_carry
      ∙ sym (values_more front cells (Carry a b d))
      ∙ ap (all_values front) (sym em);
}

-- the nets that a netlist's cell reads have places
pub cell_there : (first i : ℕ) (n : NetlistValue) (steps : List Step) (places : List ℕ) (c : Stored) → IsWellFormed n → first ≡ first_net n.inputs n.flops → Computes first steps places (take i n.cells)
    → slice_get n.cells i ≡ Some c → ReadsBelow (length places) c
cell_there first i n steps places c formed e before is =
    rw before.count (reads_there first i n.cells c (rw e formed.begun.cells) is)
