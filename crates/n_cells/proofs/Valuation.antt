-- A netlist has exactly one valuation.
use Rattle.std.proofs.Common.{◌≡◌, ℕ, ◌+◌, zero, List, [], ◌∷◌, ◌++◌, length, take, get_or, Bool, true, false, refl, sym, ap, ◌∙◌, arith, below_more, if◌then◌else◌, ◌*◌, append_assoc, length-append, add-zero}
use Rattle.std.specs.Bool.{xor}
use Rattle.std.proofs.Math.Seq.{take-append_seam}
use Rattle.std.proofs.lemmas.List.{get_or_append_left, get_or-append-add}
use Rattle.std.proofs.lemmas.Grind.{common_steps}
use Rattle.lz_base.specs.Bits.{words_bits}
use Rattle.lz_base.specs.Ports.{FitPorts}
use Rattle.lz_base.specs.WordValue.{WordValue}
use Rattle.lz_circuit.specs.Values.{value_at, majority}
use Rattle.lz_circuit.proofs.Lines.{bits_fit}
use Rattle.lz_circuit.proofs.Values.{Agree, front_agrees, whole_agrees}
use Rattle.n_cells.specs.declared.netlist.Stored.{Stored}
use Rattle.n_cells.specs.declared.netlist.Stored.TheVariants.{Lut, Carry}
use Rattle.n_cells.specs.Netlist.{NetlistValue, IsWellFormed, ReadBackwards, AllBelow, cell_nets, nets_of, net_count, first_net}
use Rattle.n_cells.specs.Run.{IsValuation, CellsHold, index_of, table_bit}
use Rattle.n_cells.specs.Walk.{cell_values, all_values, walked}

index_same : (a b : List Bool) (next : ℕ) (leaves : List ℕ) → Agree a b next → AllBelow next leaves → index_of a leaves ≡ index_of b leaves
index_same a b next [] same below = refl
index_same a b next (leaf ∷ leaves) same below =
    ap (λ v. (if v then 1 else 0) + 2 * index_of a leaves) (same leaf below.0)
    ∙ ap (λ n. (if value_at b leaf then 1 else 0) + 2 * n) (index_same a b next leaves same below.1)

-- two valuations that agree below the first cell's net agree on the nets of the cells
cells_same : (a b : List Bool) (next : ℕ) (cells : List Stored) → ReadBackwards next cells → CellsHold a next cells → CellsHold b next cells → Agree a b next
    → Agree a b (next + cell_nets cells)
cells_same a b next [] fine ha hb same = λ k h. same k (omega arith)
cells_same a b next (Lut leaves table ∷ cells) fine ha hb same =
    let here : value_at a next ≡ value_at b next = ha.0 ∙ ap (table_bit table) (index_same a b next leaves same fine.0) ∙ sym hb.0 in
    let all = cells_same a b (next + 1) cells fine.1 ha.1 hb.1 (below_more (λ k. value_at a k ≡ value_at b k) next same here) in
    λ k h. all k (omega arith)
cells_same a b next (Carry x y z ∷ cells) fine ha hb same =
    let ex = same x fine.0.0 in
    let ey = same y fine.0.1 in
    let ez = same z fine.0.2 in
    let sum : value_at a next ≡ value_at b next = ha.0 ∙ rw (ex, ey, ez) (sym hb.0) in
    let out : value_at a (next + 1) ≡ value_at b (next + 1) = ha.1 ∙ rw (ex, ey, ez) (sym hb.1) in
    let one : Agree a b (next + 1) = below_more (λ k. value_at a k ≡ value_at b k) next same sum in
    let two : Agree a b (next + 1 + 1) = below_more (λ k. value_at a k ≡ value_at b k) (next + 1) one out in
    let all = cells_same a b (next + 2) cells fine.1 ha.2 hb.2 (λ k h. two k (omega arith)) in
    λ k h. all k (omega arith)

-- at most one
pub valuation_same : (n : NetlistValue) (inputs : List WordValue) (state a b : List Bool) → IsWellFormed n → IsValuation n inputs state a → IsValuation n inputs state b → a ≡ b
valuation_same n inputs state a b fine va vb =
    let first = first_net n.inputs n.flops in
    whole_agrees a b (net_count n) va.count vb.count (
    cells_same a b first n.cells fine.begun.cells va.cells vb.cells (front_agrees a b (false ∷ true ∷ words_bits inputs ++ state) first va.front vb.front))

length_cell : (values : List Bool) (c : Stored) → length (cell_values values c) ≡ nets_of c
length_cell values (Lut leaves table) = refl
length_cell values (Carry a b c) = refl

-- the values before the cells stay
walk_keeps : (values : List Bool) (cells : List Stored) → (more : List Bool) × (all_values values cells ≡ values ++ more) × (length more ≡ cell_nets cells)
walk_keeps values [] = ([], grind (arith, common_steps), refl)
walk_keeps values (c ∷ cells) =
    let rest = walk_keeps (values ++ cell_values values c) cells in (
      cell_values values c ++ rest.0,
      rest.1 ∙ append_assoc values (cell_values values c) rest.0,
      omega (arith, length-append (cell_values values c) rest.0, length_cell values c, rest.2),
    )

-- the nets before the cells keep their values
walk_agrees : (values : List Bool) (cells : List Stored) → Agree (all_values values cells) values (length values)
walk_agrees values cells = λ k h.
    let rest = walk_keeps values cells in
    rw rest.1 (get_or_append_left values rest.0 false k h)

-- each cell's equation holds of the values that come out one after another
walk_holds : (values : List Bool) (next : ℕ) (cells : List Stored) → length values ≡ next → ReadBackwards next cells → CellsHold (all_values values cells) next cells
walk_holds values next [] at fine = tt
walk_holds values next (Lut leaves table ∷ cells) at fine =
    let bit = table_bit table (index_of values leaves) in
    let grown = values ++ bit ∷ [] in
    let all = all_values grown cells in
    let many : length grown ≡ next + 1 = omega (arith, length-append values (bit ∷ [])) in
    let agree = walk_agrees grown cells in
    let old : Agree all values next = λ k h. agree k (omega arith) ∙ get_or_append_left values (bit ∷ []) false k (omega arith) in
    let here : value_at all next ≡ bit = agree next (omega arith) ∙ ap (λ k. get_or grown k false) (sym (add-zero next) ∙ ap (λ k. k + 0) (sym at)) ∙ get_or-append-add values (bit ∷ []) 0 false in
    (here ∙ ap (table_bit table) (sym (index_same all values next leaves old fine.0)), walk_holds grown (next + 1) cells many fine.1)
walk_holds values next (Carry a b c ∷ cells) at fine =
    let sum = xor (value_at values a) (xor (value_at values b) (value_at values c)) in
    let out = majority (value_at values a) (value_at values b) (value_at values c) in
    let grown = values ++ sum ∷ out ∷ [] in
    let all = all_values grown cells in
    let many : length grown ≡ next + 2 = omega (arith, length-append values (sum ∷ out ∷ [])) in
    let agree = walk_agrees grown cells in
    let old : Agree all values next = λ k h. agree k (omega arith) ∙ get_or_append_left values (sum ∷ out ∷ []) false k (omega arith) in
    let first : value_at all next ≡ sum = agree next (omega arith) ∙ ap (λ k. get_or grown k false) (sym (add-zero next) ∙ ap (λ k. k + 0) (sym at)) ∙ get_or-append-add values (sum ∷ out ∷ []) 0 false in
    let second : value_at all (next + 1) ≡ out = agree (next + 1) (omega arith) ∙ ap (λ k. get_or grown (k + 1) false) (sym at) ∙ get_or-append-add values (sum ∷ out ∷ []) 1 false in
    let ea = old a fine.0.0 in
    let eb = old b fine.0.1 in
    let ec = old c fine.0.2 in
    (first ∙ rw (ea, eb, ec) refl, second ∙ rw (ea, eb, ec) refl, walk_holds grown (next + 2) cells many fine.1)

-- at least one
pub valuation_there : (n : NetlistValue) (inputs : List WordValue) (state : List Bool) → IsWellFormed n → FitPorts n.inputs inputs → length state ≡ length n.flops
    → IsValuation n inputs state (walked n inputs state)
valuation_there n inputs state fine fit bits =
    let values = false ∷ true ∷ words_bits inputs ++ state in
    let many : length values ≡ first_net n.inputs n.flops = omega (arith, length-append (words_bits inputs) state, bits_fit n.inputs inputs fit, bits) in
    let rest = walk_keeps values n.cells in
    record {
      count = rw rest.1 (omega (arith, length-append values rest.0, rest.2, many));
      front = rw (rest.1, ← many) (take-append_seam values rest.0);
      cells = walk_holds values (first_net n.inputs n.flops) n.cells many fine.begun.cells;
    }
