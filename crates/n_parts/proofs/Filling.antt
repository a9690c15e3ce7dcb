-- A netlist with one more line.
use Rattle.std.proofs.Common.{◌≡◌, ◌≢◌, ℕ, ◌+◌, List, [], ◌∷◌, ◌++◌, map, take, drop, slice_get, Some, arith, ap, sym, subst, ◌∙◌, append_assoc, append-nil}
use Rattle.std.specs.Option.{option_to_list}
use Rattle.std.proofs.lemmas.List.{map-append}
use Rattle.lz_base.specs.declared.name.Port.{Port}
use Rattle.lz_base.specs.Names.{IsNew, AreDistinct}
use Rattle.lz_base.proofs.Lists.{drop_next, take_next}
use Rattle.n_cells.specs.declared.netlist.Stored.{Stored}
use Rattle.n_cells.specs.Netlist.{NetlistValue, names_of, net_count, cell_nets, nets_of, ReadBackwards, HaveShapes}

-- the new name is none of those before
apart_from : (other name : List ℕ) (names rest : List (List ℕ)) → IsNew other (names ++ name ∷ rest) → other ≢ name
apart_from other name [] rest h = h.0
apart_from other name (n ∷ names) rest h = apart_from other name names rest h.1

distinct_new : (names rest : List (List ℕ)) (name : List ℕ) → AreDistinct (names ++ name ∷ rest) → IsNew name names
distinct_new [] rest name h = tt
distinct_new (other ∷ names) rest name h = (λ e. apart_from other name names rest h.0 (sym e), distinct_new names rest name h.1)

-- the names that are to come are distinct, so the next is new
pub next_new : (names : List (List ℕ)) (ps : List Port) (i : ℕ) (p : Port) → slice_get ps i ≡ Some p → AreDistinct (names ++ map (λ (q : Port). q.name) (drop i ps)) → IsNew p.name names
next_new names ps i p at_p h =
    distinct_new names (map (λ (q : Port). q.name) (drop (i + 1) ps)) p.name (subst (λ (qs : List Port). AreDistinct (names ++ map (λ (q : Port). q.name) qs)) (drop_next ps i p at_p) h)

pub next_distinct : (names more : List (List ℕ)) (ps : List Port) (i : ℕ) (p : Port) → slice_get ps i ≡ Some p → more ≡ names ++ p.name ∷ [] → AreDistinct (names ++ map (λ (q : Port). q.name) (drop i ps))
    → AreDistinct (more ++ map (λ (q : Port). q.name) (drop (i + 1) ps))
next_distinct names more ps i p at_p e h =
    subst AreDistinct (sym (append_assoc names (p.name ∷ []) (map (λ (q : Port). q.name) (drop (i + 1) ps))) ∙ ap (λ (l : List (List ℕ)). l ++ map (λ (q : Port). q.name) (drop (i + 1) ps)) (sym e))
    (subst (λ (qs : List Port). AreDistinct (names ++ map (λ (q : Port). q.name) qs)) (drop_next ps i p at_p) h)

pub names_input : (n : NetlistValue) (p : Port) → n.outputs ≡ [] → names_of (record n { inputs = n.inputs ++ p ∷ [] }) ≡ names_of n ++ p.name ∷ []
names_input n p e = at n.outputs e
  where
    at : (outs : List Port) → outs ≡ [] → option_to_list n.clock ++ map (λ (q : Port). q.name) (n.inputs ++ p ∷ []) ++ map (λ (q : Port). q.name) outs
        ≡ (option_to_list n.clock ++ map (λ (q : Port). q.name) n.inputs ++ map (λ (q : Port). q.name) outs) ++ p.name ∷ []
    at [] e =
        append-nil (option_to_list n.clock ++ map (λ (q : Port). q.name) (n.inputs ++ p ∷ [])) ∙ ap (λ (l : List (List ℕ)). option_to_list n.clock ++ l) (map-append (λ (q : Port). q.name) n.inputs (p ∷ []))
        ∙ sym (append_assoc (option_to_list n.clock) (map (λ (q : Port). q.name) n.inputs) (p.name ∷ []))
        ∙ ap (λ (l : List (List ℕ)). l ++ p.name ∷ []) (sym (append-nil (option_to_list n.clock ++ map (λ (q : Port). q.name) n.inputs)))
    at (q ∷ qs) e = cc

pub names_output : (n : NetlistValue) (p : Port) (nets : List (List ℕ)) → names_of (record n { outputs = n.outputs ++ p ∷ []; nets = nets }) ≡ names_of n ++ p.name ∷ []
names_output n p nets =
    let front = option_to_list n.clock ++ map (λ (q : Port). q.name) n.inputs in
    ap (λ (l : List (List ℕ)). front ++ l) (map-append (λ (q : Port). q.name) n.outputs (p ∷ [])) ∙ sym (append_assoc front (map (λ (q : Port). q.name) n.outputs) (p.name ∷ []))

cells_sum : (cs : List Stored) (c : Stored) → cell_nets (cs ++ c ∷ []) ≡ cell_nets cs + nets_of c
cells_sum [] c = omega arith
cells_sum (d ∷ ds) c = omega (arith, cells_sum ds c)

pub count_cell : (n : NetlistValue) (c : Stored) → net_count (record n { cells = n.cells ++ c ∷ [] }) ≡ net_count n + nets_of c
count_cell n c = omega (arith, cells_sum n.cells c)

pub cells_made : (first met after : NetlistValue) (cells : List Stored) (i : ℕ) (x y : Stored) → slice_get cells i ≡ Some y → x ≡ y → met ≡ record first { cells = first.cells ++ take i cells }
    → after ≡ record met { cells = met.cells ++ x ∷ [] } → after ≡ record first { cells = first.cells ++ take (i + 1) cells }
cells_made first met after cells i x y at_y e m a =
    a ∙ ap (λ (n : NetlistValue). record n { cells = n.cells ++ x ∷ [] }) m
    ∙ ap (λ (l : List Stored). record first { cells = l })
    (append_assoc first.cells (take i cells) (x ∷ []) ∙ ap (λ (z : Stored). first.cells ++ (take i cells ++ z ∷ [])) e ∙ ap (λ (l : List Stored). first.cells ++ l) (sym (take_next cells i y at_y)))

pub backwards_next : (met after : NetlistValue) (cells : List Stored) (i : ℕ) (x y : Stored) → slice_get cells i ≡ Some y → x ≡ y → after ≡ record met { cells = met.cells ++ x ∷ [] }
    → ReadBackwards (net_count met) (drop i cells) → ReadBackwards (net_count after) (drop (i + 1) cells)
backwards_next met after cells i x y at_y e a h =
    let here : ReadBackwards (net_count met) (y ∷ drop (i + 1) cells) = subst (λ (cs : List Stored). ReadBackwards (net_count met) cs) (drop_next cells i y at_y) h in
    let count : net_count after ≡ net_count met + nets_of y = ap net_count a ∙ count_cell met x ∙ ap (λ (z : Stored). net_count met + nets_of z) e in
    subst (λ k. ReadBackwards k (drop (i + 1) cells)) (sym count) here.1

pub shapes_next : (cells : List Stored) (i : ℕ) (y : Stored) → slice_get cells i ≡ Some y → HaveShapes (drop i cells) → HaveShapes (drop (i + 1) cells)
shapes_next cells i y at_y h = (subst (λ (cs : List Stored). HaveShapes cs) (drop_next cells i y at_y) h).1

new_front : (x : List ℕ) (a b : List (List ℕ)) → IsNew x (a ++ b) → IsNew x a
new_front x [] b h = tt
new_front x (y ∷ ys) b h = (h.0, new_front x ys b h.1)

front_distinct : (a b : List (List ℕ)) → AreDistinct (a ++ b) → AreDistinct a
front_distinct [] b h = tt
front_distinct (x ∷ a) b h = (new_front x a b h.0, front_distinct a b h.1)

-- a netlist without lines has the clock's name alone
pub start_names : (m : NetlistValue) (inputs outputs : List Port) → m ≡ record m { inputs = []; flops = []; cells = []; outputs = []; nets = [] }
    → AreDistinct (option_to_list m.clock ++ map (λ (p : Port). p.name) inputs ++ map (λ (p : Port). p.name) outputs) → AreDistinct (names_of m ++ map (λ (p : Port). p.name) inputs)
start_names m inputs outputs e h =
    let clock : names_of m ≡ option_to_list m.clock = ap names_of e ∙ append-nil (option_to_list m.clock ++ []) ∙ append-nil (option_to_list m.clock) in
    subst (λ (l : List (List ℕ)). AreDistinct (l ++ map (λ (p : Port). p.name) inputs)) (sym clock) (front_distinct (option_to_list m.clock ++ map (λ (p : Port). p.name) inputs) (map (λ (p : Port). p.name) outputs) h)
