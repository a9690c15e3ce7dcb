-- The walk over the cells of a netlist.
use Rattle.std.proofs.Common.{◌≡◌, ◌<◌, ◌≤◌, ◌+◌, ◌*◌, ℕ, zero, suc, List, [], ◌∷◌, ◌++◌, length, take, drop, get_or, slice_get, Some, Bool, false, if◌then◌else◌, arith, refl, ap, sym, ◌∙◌, add-one, drop-cons}
use Rattle.std.proofs.lemmas.List.{get_or-take, take_all}
use Rattle.n_cells.specs.declared.netlist.Stored.{Stored}
use Rattle.n_cells.specs.declared.netlist.Stored.TheVariants.{Lut, Carry}
use Rattle.n_cells.specs.Netlist.{AllBelow, ReadsBelow, ReadBackwards, nets_of, cell_nets}
use Rattle.lz_circuit.specs.Values.{value_at}
use Rattle.n_cells.specs.Run.{index_of, table_bit}
use Rattle.n_cells.specs.Walk.{cell_values, all_values}

-- the list from the item of a loop on, whatever it is seen as
pub item_next : {X : Type 0} (xs : List X) (i : ℕ) (x seen : X) → x ≡ get_or xs i x → seen ≡ x → i < length xs → drop i xs ≡ seen ∷ drop (i + 1) xs
item_next xs i x seen is e lt = drop-cons xs i x lt ∙ rw (← is, add-one i, e) refl

index_front : (values : List Bool) (next : ℕ) (leaves : List ℕ) → AllBelow next leaves → index_of (take next values) leaves ≡ index_of values leaves
index_front values next [] below = refl
index_front values next (leaf ∷ leaves) below =
    ap (λ v. (if v then 1 else 0) + 2 * index_of (take next values) leaves) (get_or-take next values leaf false below.0)
    ∙ ap (λ n. (if value_at values leaf then 1 else 0) + 2 * n) (index_front values next leaves below.1)

-- a cell's values come from the nets before it
cell_front : (values : List Bool) (next : ℕ) (c : Stored) → ReadsBelow next c → cell_values (take next values) c ≡ cell_values values c
cell_front values next (Lut leaves table) below = ap (λ n. table_bit table n ∷ []) (index_front values next leaves below)
cell_front values next (Carry a b c) below =
    let ea = get_or-take next values a false below.0 in
    let eb = get_or-take next values b false below.1 in
    let ec = get_or-take next values c false below.2 in
    rw (ea, eb, ec) refl

-- The cells that are left, of which the first has the next net, have room up to the last net, and read nets that are
-- there.
pub record Reaches (cells : List Stored) (count next : ℕ) : Type 0 where
  pub left : next + cell_nets cells ≡ count
  pub there : ReadBackwards next cells
  pub some : 0 < next

-- the first of them
pub reach_room : (cells more : List Stored) (c : Stored) (count next : ℕ) → cells ≡ c ∷ more → Reaches cells count next → next + nets_of c ≤ count
reach_room cells more c count next e r =
    let left = rw e at r.left in
    omega (arith, left)

pub reach_there : (cells more : List Stored) (c : Stored) (count next : ℕ) → cells ≡ c ∷ more → Reaches cells count next → ReadsBelow next c
reach_there cells more c count next e r =
    let there = rw e at r.there in
    there.0

-- the others
pub reach_on : (cells more : List Stored) (c : Stored) (count next after : ℕ) → cells ≡ c ∷ more → Reaches cells count next → after ≡ next + nets_of c → Reaches more count after
reach_on cells more c count next after e r a =
    let left = rw e at r.left in
    let there = rw e at r.there in
    record {
      left = omega (arith, left);
      there = rw a there.1;
      some = omega (arith, r.some);
    }

-- with the values so far, the first of the cells adds its own, and then the others give all values
pub walk_on : (nets after_nets all : List Bool) (cells more : List Stored) (c : Stored) (count next after : ℕ) → cells ≡ c ∷ more → Reaches cells count next
    → take after after_nets ≡ take next nets ++ cell_values nets c → all_values (take next nets) cells ≡ all → all_values (take after after_nets) more ≡ all
walk_on nets after_nets all cells more c count next after e r v h =
    let there = reach_there cells more c count next e r in
    let values = rw e at h in
    let here : take after after_nets ≡ take next nets ++ cell_values (take next nets) c = v ∙ ap (λ l. take next nets ++ l) (sym (cell_front nets next c there)) in
    rw here values

-- no cell is left
pub walk_ends : (nets all : List Bool) (cells : List Stored) (count next : ℕ) → cells ≡ [] → Reaches cells count next → length nets ≡ count → all_values (take next nets) cells ≡ all → nets ≡ all
walk_ends nets all cells count next e r room h =
    let left = rw e at r.left in
    let values = rw e at h in
    sym (take_all next nets (omega (arith, left, room))) ∙ values

-- the first net keeps its value
pub zero_kept : (nets after_nets new : List Bool) (next after : ℕ) → 0 < next → next ≤ length nets → next ≤ after → take after after_nets ≡ take next nets ++ new → value_at after_nets 0 ≡ value_at nets 0
zero_kept [] after_nets new next after some le more e = absurd (omega arith)
zero_kept (x ∷ nets) [] new (suc next) zero some le more e = absurd (omega arith)
zero_kept (x ∷ nets) [] new (suc next) (suc after) some le more e = cc
zero_kept (x ∷ nets) (y ∷ ys) new (suc next) zero some le more e = absurd (omega arith)
zero_kept (x ∷ nets) (y ∷ ys) new (suc next) (suc after) some le more e = cc
zero_kept (x ∷ nets) ys new zero after some le more e = absurd (omega arith)
