-- What is assembled of a well-formed network is a well-formed netlist.
use Rattle.std.proofs.Common.{◌≡◌, ◌<◌, ◌≤◌, ◌+◌, ◌/◌, ◌%◌, ◌^◌, ◌==◌, ◌||◌, ℕ, zero, suc, List, [], ◌∷◌, ◌++◌, length, map, get_or, Bool, true, false, Option, None, Some, if◌then◌else◌, refl, ap, sym, subst, ◌∙◌, arith, add-zero, append_assoc, length-append, inl, inr}
use Rattle.std.proofs.Math.Nat.{mod-lt}
use Rattle.std.proofs.Math.Seq.{get_or-append_seam}
use Rattle.std.proofs.lemmas.List.{get_or_append_left, length-map}
use Rattle.std.proofs.lemmas.Nat.{pow_pos}
use Rattle.std.proofs.lemmas.Bool.Decides.{eqb_tells}
use Rattle.std.specs.Option.{option_to_list}
use Rattle.lz_base.specs.declared.name.Port.{Port}
use Rattle.lz_base.specs.Names.{AreDistinct}
use Rattle.lz_circuit.specs.Lines.{HasClock, HaveWidths}
use Rattle.n_cells.specs.declared.netlist.Stored.{Stored}
use Rattle.n_cells.specs.declared.netlist.Stored.TheVariants as stored
use Rattle.n_cells.specs.Netlist as cells
use Rattle.n_cells.specs.Netlist.{AllBelow, HasShape, HaveShapes, cell_nets, FillOutputs, FlopsBelow}
use Rattle.g_net.specs.declared.network.Flip.{Flip}
use Rattle.g_net.specs.declared.network.Gate.{Gate}
use Rattle.g_net.specs.declared.network.Gate.TheVariants as gate
use Rattle.g_net.specs.declared.network.Output.{Output}
use Rattle.g_net.specs.declared.proposal.Line.{Line}
use Rattle.g_net.specs.AsMachine.{port_of}
use Rattle.g_net.specs.Network as net
use Rattle.g_net.specs.Network.{NetworkValue, IsWellFormed, LiteralsBelow, ReadBackwards, HaveLiterals, first_gate, node_count, source_bits}
use Rattle.m_valid.specs.declared.verdict.Verdict.TheVariants.{Valid}
use Rattle.m_valid.specs.Assembly.{Assembled, assembled, sources, is_inverted, with_inverter, with_inverters, net_of, nets_of, line_of, with_root, with_carry, with_sum, with_gates, after_flips, flops_of, after_outputs, output_nets}
use Rattle.m_valid.specs.Validity.{is_among, verdict}
use Rattle.m_valid.proofs.Assembling.{with_table, net_by}
use Rattle.m_valid.proofs.Gating.{inverter_nets, root_length, sum_nets, numbers_at, numbers_length, visited_all}
use Rattle.m_valid.proofs.Granting.{granted, IsGranted, root_of_line}
use Rattle.m_valid.proofs.Lists.{eq_true}

-- What the cells so far keep, where the first one's first net has this number.
pub record IsFormed (first : ℕ) (m : Assembled) : Type 0 where
  pub next : m.next ≡ first + cell_nets m.cells
  pub reads : cells.ReadBackwards first m.cells
  pub shapes : HaveShapes m.cells
  pub two : 2 ≤ m.next
  pub there : (k : ℕ) → k < length m.nets → get_or m.nets k 0 < m.next

nets_more : (cs : List Stored) (c : Stored) → cell_nets (cs ++ c ∷ []) ≡ cell_nets cs + cells.nets_of c
nets_more [] c = omega arith
nets_more (d ∷ cs) c = omega (arith, nets_more cs c)

shapes_more : (cs : List Stored) (c : Stored) → HaveShapes cs → HasShape c → HaveShapes (cs ++ c ∷ [])
shapes_more [] c h one = (one, tt)
shapes_more (d ∷ cs) c h one = (h.0, shapes_more cs c h.1 one)

reads_more : (next : ℕ) (cs : List Stored) (c : Stored) → cells.ReadBackwards next cs → cells.ReadsBelow (next + cell_nets cs) c → cells.ReadBackwards next (cs ++ c ∷ [])
reads_more next [] c h one = (rw (add-zero next) at one, tt)
reads_more next (d ∷ cs) c h one =
    let e : next + (cells.nets_of d + cell_nets cs) ≡ next + cells.nets_of d + cell_nets cs = omega arith in
    (h.0, reads_more (next + cells.nets_of d) cs c h.1 (rw e at one))

-- one cell more
cell_more : (first : ℕ) (m : Assembled) (c : Stored) (after : ℕ) → after ≡ m.next + cells.nets_of c → IsFormed first m → HasShape c → cells.ReadsBelow m.next c
    → IsFormed first (record { nets = m.nets; cells = m.cells ++ c ∷ []; next = after })
cell_more first m c after at h shape reads = record {
  next = omega (arith, at, h.next, nets_more m.cells c);
  reads = reads_more first m.cells c h.reads (subst (λ k. cells.ReadsBelow k c) h.next reads);
  shapes = shapes_more m.cells c h.shapes shape;
  two = omega (arith, at, h.two);
  there = λ k lt. omega (arith, at, h.there k lt);
}

-- one node more
node_more : (first : ℕ) (m : Assembled) (net : ℕ) → net < m.next → IsFormed first m → IsFormed first (record { nets = m.nets ++ net ∷ []; cells = m.cells; next = m.next })
node_more first m net lt h = record {
  next = h.next;
  reads = h.reads;
  shapes = h.shapes;
  two = h.two;
  there = λ k below. elim (eqb_tells k (length m.nets)) [
    | inl e ↦ let at : get_or (m.nets ++ net ∷ []) k 0 ≡ net = ap (λ j. get_or (m.nets ++ net ∷ []) j 0) e.1 ∙ get_or-append_seam m.nets net [] 0 in omega (arith, at, lt)
    | inr e ↦
        let within : k < length m.nets = omega (arith, below, e.1, length-append m.nets (net ∷ [])) in
        omega (arith, get_or_append_left m.nets (net ∷ []) 0 k within, h.there k within)
  ];
}

inverter_by : (first : ℕ) (m : Assembled) (node : ℕ) (t : Bool) → IsFormed first m → node < length m.nets → IsFormed first (if t then with_table m (get_or m.nets node 0 ∷ []) 1 else m)
unfolding with_table
inverter_by first m node false h lt = h
inverter_by first m node true h lt = cell_more first m (stored.Lut (get_or m.nets node 0 ∷ []) 1) (m.next + 1) refl h (omega arith, omega arith) (h.there node lt, tt)

inverter_formed : (first : ℕ) (m : Assembled) (literal : ℕ) → IsFormed first m → literal / 2 < length m.nets → IsFormed first (with_inverter m literal)
unfolding with_table
inverter_formed first m literal h lt = inverter_by first m (literal / 2) (is_inverted literal) h lt

grown_by : (m : Assembled) (node : ℕ) (t : Bool) → m.next ≤ (if t then with_table m (get_or m.nets node 0 ∷ []) 1 else m).next
unfolding with_table
grown_by m node true = omega arith
grown_by m node false = omega arith

inverter_grows : (m : Assembled) (literal : ℕ) → m.next ≤ (with_inverter m literal).next
unfolding with_table
inverter_grows m literal = grown_by m (literal / 2) (is_inverted literal)

net_within : (first : ℕ) (m : Assembled) (literal : ℕ) → IsFormed first m → literal / 2 < length m.nets → net_of m literal < (with_inverter m literal).next
unfolding with_table
net_within first m literal h lt = net_by m (literal / 2) (literal == 1) (literal % 2 == 1) h.two (h.there (literal / 2) lt)

kept_length : (m : Assembled) (literal : ℕ) → length (with_inverter m literal).nets ≡ length m.nets
kept_length m literal = ap length (inverter_nets m literal)

leaves_below : (m : Assembled) (first : ℕ) (leaves : List ℕ) → IsFormed first m → ((k : ℕ) → is_among k leaves ≡ true → k < length m.nets) → AllBelow m.next (map (λ (k : ℕ). get_or m.nets k 0) leaves)
leaves_below m first [] h v = tt
leaves_below m first (l ∷ ls) h v =
    (h.there l (v l (ap (λ b. b || is_among l ls) (eq_true l l refl))), leaves_below m first ls h (λ k e. v k (or_later (l == k) (is_among k ls) e)))
  where
    or_later : (b c : Bool) → c ≡ true → (b || c) ≡ true
    or_later true c e = refl
    or_later false c e = e

root_formed : (first : ℕ) (m : Assembled) (o : Option Line) → IsFormed first m → ((l : Line) → o ≡ Some l → (length l.leaves ≤ 6) × ((k : ℕ) → is_among k l.leaves ≡ true → k < length m.nets)) → IsFormed first (with_root m o)
root_formed first m None h f = node_more first m 0 (omega (arith, h.two)) h
root_formed first m (Some l) h f =
    let leaves = map (λ (k : ℕ). get_or m.nets k 0) l.leaves in
    let long : length leaves ≡ length l.leaves = length-map l.leaves (λ (k : ℕ). get_or m.nets k 0) in
    let facts = f l refl in
    let fits : l.table % 2 ^ (2 ^ length l.leaves) < 2 ^ (2 ^ length l.leaves) = mod-lt l.table (pow_pos (2 ^ length l.leaves)) in
    let after : Assembled = record { nets = m.nets; cells = m.cells ++ stored.Lut leaves (l.table % 2 ^ (2 ^ length l.leaves)) ∷ []; next = m.next + 1 } in
    node_more first after m.next (omega arith)
    (cell_more first m (stored.Lut leaves (l.table % 2 ^ (2 ^ length l.leaves))) (m.next + 1) refl h
    (omega (arith, long, facts.0), subst (λ k. l.table % 2 ^ (2 ^ length l.leaves) < 2 ^ (2 ^ k)) (sym long) fits) (leaves_below m first l.leaves h facts.1))

carry_formed : (first : ℕ) (m : Assembled) (a b c : ℕ) → IsFormed first m → a < m.next → b < m.next → c < m.next → IsFormed first (with_carry m a b c)
carry_formed first m a b c h x y z =
    let cell : Assembled = record { nets = m.nets; cells = m.cells ++ stored.Carry a b c ∷ []; next = m.next + 2 } in
    let one = node_more first cell m.next (omega arith) (cell_more first m (stored.Carry a b c) (m.next + 2) refl h tt (x, y, z)) in
    let mid : Assembled = record { nets = m.nets ++ m.next ∷ []; cells = m.cells ++ stored.Carry a b c ∷ []; next = m.next + 2 } in
    subst (λ ns. IsFormed first (record { nets = ns; cells = m.cells ++ stored.Carry a b c ∷ []; next = m.next + 2 })) (append_assoc m.nets (m.next ∷ []) ((m.next + 1) ∷ [])) (node_more first mid (m.next + 1) (omega arith) one)

sum_formed : (first : ℕ) (m : Assembled) (a b c : ℕ) → IsFormed first m → a / 2 < length m.nets → b / 2 < length m.nets → c / 2 < length m.nets → IsFormed first (with_sum m a b c)
sum_formed first m a b c h x y z =
    let m1 = with_inverter m a in
    let h1 = inverter_formed first m a h x in
    let y1 : b / 2 < length m1.nets = omega (arith, y, kept_length m a) in
    let m2 = with_inverter m1 b in
    let h2 = inverter_formed first m1 b h1 y1 in
    let z2 : c / 2 < length m2.nets = omega (arith, z, kept_length m a, kept_length m1 b) in
    let m3 = with_inverter m2 c in
    carry_formed first m3 (net_of m a) (net_of m1 b) (net_of m2 c) (inverter_formed first m2 c h2 z2)
    (omega (arith, net_within first m a h x, inverter_grows m1 b, inverter_grows m2 c)) (omega (arith, net_within first m1 b h1 y1, inverter_grows m2 c)) (net_within first m2 c h2 z2)

pub gates_formed : (n : NetworkValue) (lines : List Line) (first : ℕ) → IsGranted n lines → (gs : List Gate) (m : Assembled) (number : ℕ) → length m.nets ≡ number → IsFormed first m → ReadBackwards number gs → IsFormed first (with_gates lines m gs)
gates_formed n lines first g [] m number at h r = h
gates_formed n lines first g (gate.And a b ∷ gs) m number at h r =
    gates_formed n lines first g gs (with_root m (line_of lines (length m.nets))) (number + 1) (root_length m (line_of lines (length m.nets)) ∙ ap (λ k. k + 1) at)
    (root_formed first m (line_of lines (length m.nets)) h (λ l is. (g.few (length m.nets) l is, λ k leaf. omega (arith, root_of_line lines (length m.nets) l is, (g.leaves (length m.nets) l is k leaf).1)))) r.1
gates_formed n lines first g (gate.Xor a b ∷ gs) m number at h r =
    gates_formed n lines first g gs (with_root m (line_of lines (length m.nets))) (number + 1) (root_length m (line_of lines (length m.nets)) ∙ ap (λ k. k + 1) at)
    (root_formed first m (line_of lines (length m.nets)) h (λ l is. (g.few (length m.nets) l is, λ k leaf. omega (arith, root_of_line lines (length m.nets) l is, (g.leaves (length m.nets) l is k leaf).1)))) r.1
gates_formed n lines first g (gate.Carry a b c ∷ gs) m number at h r =
    gates_formed n lines first g gs (with_sum m a b c) (number + 2) (sum_nets m a b c ∙ ap (λ k. k + 2) at) (sum_formed first m a b c h (omega (arith, at, r.0.0)) (omega (arith, at, r.0.1)) (omega (arith, at, r.0.2))) r.1

-- the flip-flops
flips_formed : (first : ℕ) (m : Assembled) (fs : List Flip) (count : ℕ) → IsFormed first m → count ≤ length m.nets → net.FlipsBelow count fs → IsFormed first (after_flips m fs) × (m.next ≤ (after_flips m fs).next) × ((after_flips m fs).nets ≡ m.nets)
flips_formed first m [] count h le b = (h, omega arith, refl)
flips_formed first m (f ∷ fs) count h le b =
    let m1 = with_inverter m f.literal in
    let h1 = inverter_formed first m f.literal h (omega (arith, b.0, le)) in
    let m2 = with_inverter m1 f.enable in
    let h2 = inverter_formed first m1 f.enable h1 (omega (arith, b.1, le, kept_length m f.literal)) in
    let rest = flips_formed first m2 fs count h2 (omega (arith, le, kept_length m f.literal, kept_length m1 f.enable)) b.2 in
    (rest.0, omega (arith, rest.1, inverter_grows m f.literal, inverter_grows m1 f.enable), rest.2 ∙ inverter_nets m1 f.enable ∙ inverter_nets m f.literal)

flops_below : (first : ℕ) (m : Assembled) (fs : List Flip) (count high : ℕ) → IsFormed first m → count ≤ length m.nets → net.FlipsBelow count fs → (after_flips m fs).next ≤ high → FlopsBelow high (flops_of m fs)
flops_below first m [] count high h le b up = tt
flops_below first m (f ∷ fs) count high h le b up =
    let m1 = with_inverter m f.literal in
    let x : f.literal / 2 < length m.nets = omega (arith, b.0, le) in
    let h1 = inverter_formed first m f.literal h x in
    let y : f.enable / 2 < length m1.nets = omega (arith, b.1, le, kept_length m f.literal) in
    let m2 = with_inverter m1 f.enable in
    let h2 = inverter_formed first m1 f.enable h1 y in
    let on : count ≤ length m2.nets = omega (arith, le, kept_length m f.literal, kept_length m1 f.enable) in
    let rest = flips_formed first m2 fs count h2 on b.2 in
    (omega (arith, net_within first m f.literal h x, inverter_grows m1 f.enable, rest.1, up), omega (arith, net_within first m1 f.enable h1 y, rest.1, up), flops_below first m2 fs count high h2 on b.2 up)

-- literals in order
literals_formed : (first : ℕ) (m : Assembled) (ls : List ℕ) (count : ℕ) → IsFormed first m → count ≤ length m.nets → LiteralsBelow count ls
    → IsFormed first (with_inverters m ls) × (m.next ≤ (with_inverters m ls).next) × ((with_inverters m ls).nets ≡ m.nets)
literals_formed first m [] count h le b = (h, omega arith, refl)
literals_formed first m (l ∷ ls) count h le b =
    let m1 = with_inverter m l in
    let h1 = inverter_formed first m l h (omega (arith, b 0 (omega arith), le)) in
    let rest = literals_formed first m1 ls count h1 (omega (arith, le, kept_length m l)) (λ k lt. b (suc k) (omega (arith, lt))) in
    (rest.0, omega (arith, rest.1, inverter_grows m l), rest.2 ∙ inverter_nets m l)

nets_below : (first : ℕ) (m : Assembled) (ls : List ℕ) (count high : ℕ) → IsFormed first m → count ≤ length m.nets → LiteralsBelow count ls → (with_inverters m ls).next ≤ high → AllBelow high (nets_of m ls)
nets_below first m [] count high h le b up = tt
nets_below first m (l ∷ ls) count high h le b up =
    let m1 = with_inverter m l in
    let x : l / 2 < length m.nets = omega (arith, b 0 (omega arith), le) in
    let h1 = inverter_formed first m l h x in
    let on : count ≤ length m1.nets = omega (arith, le, kept_length m l) in
    let rest = literals_formed first m1 ls count h1 on (λ k lt. b (suc k) (omega (arith, lt))) in
    (omega (arith, net_within first m l h x, rest.1, up), nets_below first m1 ls count high h1 on (λ k lt. b (suc k) (omega (arith, lt))) up)

nets_length : (m : Assembled) (ls : List ℕ) → length (nets_of m ls) ≡ length ls
nets_length m [] = refl
nets_length m (l ∷ ls) = ap suc (nets_length (with_inverter m l) ls)

outputs_formed : (first : ℕ) (m : Assembled) (os : List Output) (count : ℕ) → IsFormed first m → count ≤ length m.nets → net.OutputsBelow count os → IsFormed first (after_outputs m os) × (m.next ≤ (after_outputs m os).next)
outputs_formed first m [] count h le b = (h, omega arith)
outputs_formed first m (o ∷ os) count h le b =
    let here = literals_formed first m o.literals count h le b.0 in
    let rest = outputs_formed first (with_inverters m o.literals) os count here.0 (omega (arith, le, ap length here.2)) b.1 in
    (rest.0, omega (arith, here.1, rest.1))

outputs_below : (first : ℕ) (m : Assembled) (os : List Output) (count high : ℕ) → IsFormed first m → count ≤ length m.nets → net.OutputsBelow count os → (after_outputs m os).next ≤ high → cells.OutputsBelow high (output_nets m os)
outputs_below first m [] count high h le b up = tt
outputs_below first m (o ∷ os) count high h le b up =
    let here = literals_formed first m o.literals count h le b.0 in
    let on : count ≤ length (with_inverters m o.literals).nets = omega (arith, le, ap length here.2) in
    let rest = outputs_formed first (with_inverters m o.literals) os count here.0 on b.1 in
    (nets_below first m o.literals count high h le b.0 (omega (arith, rest.1, up)), outputs_below first (with_inverters m o.literals) os count high here.0 on b.1 up)

outputs_filled : (m : Assembled) (os : List Output) → FillOutputs (map port_of os) (output_nets m os)
outputs_filled m [] = tt
outputs_filled m (o ∷ os) = (nets_length m o.literals, outputs_filled (with_inverters m o.literals) os)

output_widths : (os : List Output) → HaveLiterals os → HaveWidths (map port_of os)
output_widths [] h = tt
output_widths (o ∷ os) h = (h.0, h.1, output_widths os h.2)

still_clocked : (clock : Option (List ℕ)) (m : Assembled) (fs : List Flip) → HasClock clock fs → HasClock clock (flops_of m fs)
still_clocked clock m [] h = tt
still_clocked clock m (f ∷ fs) h = h

port_names : (os : List Output) → map (λ (p : Port). p.name) (map port_of os) ≡ map (λ (o : Output). o.name) os
port_names [] = refl
port_names (o ∷ os) = ap (λ l. o.name ∷ l) (port_names os)

pub so_many_flops : (m : Assembled) (fs : List Flip) → length (flops_of m fs) ≡ length fs
so_many_flops m [] = refl
so_many_flops m (f ∷ fs) = ap suc (so_many_flops (with_inverter (with_inverter m f.literal) f.enable) fs)

sources_formed : (n : NetworkValue) → IsFormed (2 + source_bits n) (sources n)
sources_formed n = record {
  next = omega arith;
  reads = tt;
  shapes = tt;
  two = omega arith;
  there = λ k lt. source_there k lt;
}
  where
    source_there : (k : ℕ) → k < length (sources n).nets → get_or (sources n).nets k 0 < (sources n).next
    source_there zero lt = omega arith
    source_there (suc j) lt = let within : j < source_bits n = omega (arith, lt, numbers_length 2 (source_bits n)) in omega (arith, numbers_at 2 (source_bits n) j within, within)

-- the whole netlist
pub assembled_formed : (n : NetworkValue) (lines : List Line) (most : ℕ) → most ≤ 6 → verdict n lines most ≡ Valid → IsWellFormed n → cells.IsWellFormed (assembled n lines)
assembled_formed n lines most small valid formed =
    let g = granted n lines most small valid in
    let long : length (sources n).nets ≡ first_gate n = omega (arith, numbers_length 2 (source_bits n)) in
    let m = with_gates lines (sources n) n.gates in
    let h = gates_formed n lines (2 + source_bits n) g n.gates (sources n) (first_gate n) long (sources_formed n) formed.gates in
    let all : node_count n ≤ length m.nets = omega (arith, visited_all lines n.gates (sources n), long) in
    let flips = flips_formed (2 + source_bits n) m n.flips (node_count n) h all formed.flips in
    let f = after_flips m n.flips in
    let on : node_count n ≤ length f.nets = omega (arith, all, ap length flips.2) in
    let outputs = outputs_formed (2 + source_bits n) f n.outputs (node_count n) flips.0 on formed.outputs in
    let later = after_outputs f n.outputs in
    let first : cells.first_net n.inputs (flops_of m n.flips) ≡ 2 + source_bits n = omega (arith, so_many_flops m n.flips) in
    let count : cells.net_count (assembled n lines) ≡ later.next = omega (arith, first, outputs.0.next) in
    record {
      begun = record {
        lines = record {
          inputs = formed.lines.inputs;
          clocked = still_clocked n.clock m n.flips formed.lines.clocked;
          cells = outputs.0.shapes;
          widths = output_widths n.outputs formed.lines.outputs;
          filled = outputs_filled f n.outputs;
        };
        names = subst AreDistinct (sym (ap (λ l. option_to_list n.clock ++ map (λ (p : Port). p.name) n.inputs ++ l) (port_names n.outputs))) formed.names;
        cells = subst (λ k. cells.ReadBackwards k later.cells) (sym first) outputs.0.reads;
        outputs = outputs_below (2 + source_bits n) f n.outputs (node_count n) (cells.net_count (assembled n lines)) flips.0 on formed.outputs (omega (arith, count));
      };
      flops = flops_below (2 + source_bits n) m n.flips (node_count n) (cells.net_count (assembled n lines)) h all formed.flips (omega (arith, count, outputs.1));
    }
