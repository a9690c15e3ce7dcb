-- How lines are spelled: the grammar's fields, one after another.
use Rattle.std.proofs.Common.{◌≡◌, ℕ, ◌^◌, ◌<◌, ◌≤◌, List, [], ◌∷◌, ◌++◌, length, flat_map, Some, refl, arith, ap, sym, subst, ◌∙◌, append_assoc}
use Rattle.std.specs.Prelude.{codes}
use Rattle.lz_base.specs.declared.name.Port.{Port}
use Rattle.lz_base.specs.Names.{IsName}
use Rattle.lz_lines.specs.Fields.{AllUpTo, field, greatest, number, hex, bit, line_end}
use Rattle.lz_lines.specs.Shared.{clock_line, input_line, output_line}
use Rattle.lz_lines.specs.Tables.{table_fields}
use Rattle.n_cells.specs.declared.format.Format.{Format}
use Rattle.n_cells.specs.declared.format.Format.TheVariants as format_
use Rattle.n_cells.specs.declared.netlist.Stored.{Stored}
use Rattle.n_cells.specs.declared.netlist.Stored.TheVariants as stored
use Rattle.n_cells.specs.declared.netlist.Flop as flop
use Rattle.n_cells.specs.Text.{flop_line, cell_line}
use Rattle.n_cells.specs.Form.{bound, leaves_of, HasFewLeaves, HasEnable}
use Rattle.n_cells.specs.Leaves.{most_leaves}
use Rattle.n_cells.specs.Netlist.{AllBelow, HasShape, ReadsBelow}
use Rattle.n_text.specs.declared.line.Key.{Key}
use Rattle.n_text.specs.declared.line.Key.TheVariants as key
use Rattle.n_text.specs.declared.line.Line.{Line}
use Rattle.n_text.specs.declared.line.Line.TheVariants.{Clock, Input, Flop, Cell, Output}
use Rattle.n_text.specs.Keys.{key_word}
use Rattle.n_text.specs.Grammar.{IsEnable, Tail}

abbrev pub cell_key : Stored → Key
cell_key (stored.Lut leaves table) = key.Lut
cell_key (stored.Carry a b c) = key.Carry

abbrev pub key_of : Line → Key
key_of (Clock name) = key.Clock
key_of (Input p) = key.Input
key_of (Flop f) = key.Flop
key_of (Cell c) = cell_key c
key_of (Output p nets) = key.Output

-- the fields of a line are those of the grammar
abbrev pub HasFields : Format → Line → Type 0
HasFields format (Clock name) = IsName name
HasFields format (Input p) = IsName p.name × (1 ≤ p.width) × (p.width ≤ 128)
HasFields format (Flop f) = (f.net < bound) × (f.enable < bound) × HasEnable format f
HasFields format (Cell c) = HasShape c × HasFewLeaves (leaves_of format) c × ReadsBelow bound c
HasFields format (Output p nets) = IsName p.name × (p.width ≡ length nets) × (1 ≤ length nets) × (length nets ≤ 128) × AllBelow bound nets

abbrev pub enable_field : Format → ℕ → List ℕ
enable_field format_.One enable = []
enable_field format_.Two enable = number enable

abbrev pub cell_tail : Stored → List ℕ
cell_tail (stored.Lut leaves table) = table_fields leaves table ++ line_end
cell_tail (stored.Carry a b c) = number a ++ (number b ++ (number c ++ line_end))

-- what stands behind the word of a line
abbrev pub tail_of : Format → Line → List ℕ
tail_of format (Clock name) = field name ++ line_end
tail_of format (Input p) = field p.name ++ (number p.width ++ line_end)
tail_of format (Flop f) = bit f.first ++ (number f.net ++ (enable_field format f.enable ++ line_end))
tail_of format (Cell c) = cell_tail c
tail_of format (Output p nets) = field p.name ++ (flat_map number nets ++ line_end)

pub record IsSpelled (format : Format) (k : Key) (line : Line) (text : List ℕ) : Type 0 where
  pub kind : key_of line ≡ k
  pub fields : HasFields format line
  pub spelled : text ≡ tail_of format line

-- numbers of a text are below the bound
pub within_bound : (ns : List ℕ) → AllUpTo greatest ns → AllBelow bound ns
within_bound [] h = tt
within_bound (n ∷ ns) h = (omega (arith, h.0), within_bound ns h.1)

up_to_greatest : (ns : List ℕ) → AllBelow bound ns → AllUpTo greatest ns
up_to_greatest [] h = tt
up_to_greatest (n ∷ ns) h = (omega (arith, h.0), up_to_greatest ns h.1)

enable_in : (format : Format) (enable : ℕ) (text : List ℕ) → IsEnable format enable text → (enable < bound) × (text ≡ enable_field format enable)
enable_in format_.One enable text h = (omega (arith, h.0), h.1)
enable_in format_.Two enable text h = (omega (arith, h.1), h.2)

enable_has : (format : Format) (first : _) (net enable : ℕ) (text : List ℕ) → IsEnable format enable text → HasEnable format (record { first = first; net = net; enable = enable })
enable_has format_.One first net enable text h = h.0
enable_has format_.Two first net enable text h = tt

few : (format : Format) (count : ℕ) → count ≤ leaves_of format → count ≤ most_leaves
few format_.One count h = omega (arith, h)
few format_.Two count h = h

same_line : (a b : Line) → Some a ≡ Some b → b ≡ a
same_line a b e = cc

-- a line's fields by its word, put together
pub tail_in : (format : Format) (k : Key) (line : Line) (text : List ℕ) → Tail format k (Some line) text → IsSpelled format k line text
tail_in format key.Clock line text (name, front, back, named, ends, e) =
    subst (λ (l : Line). IsSpelled format key.Clock l text) (same_line line (Clock name) ends.0) (record { kind = refl; fields = named.0; spelled = e ∙ (λ i. named.1 i ++ ends.1 i) })
tail_in format key.Input line text (name, front, back, named, (width, f, b, sized, ends, d), e) =
    let p : Port = record { name = name; width = width } in
    subst (λ (l : Line). IsSpelled format key.Input l text) (same_line line (Input p) ends.0)
    (record { kind = refl; fields = (named.0, sized.0, sized.1); spelled = e ∙ (λ i. named.1 i ++ (d ∙ (λ j. sized.2 j ++ ends.1 j)) i) })
tail_in format key.Flop line text (first, front, back, isbit, (net, f, b, isnet, (enable, g, c, isenable, ends, h), d), e) =
    let made : flop.Flop = record { first = first; net = net; enable = enable } in
    let there = enable_in format enable g isenable in
    subst (λ (l : Line). IsSpelled format key.Flop l text) (same_line line (Flop made) ends.0) (record {
      kind = refl;
      fields = (omega (arith, isnet.1), there.0, enable_has format first net enable g isenable);
      spelled = e ∙ (λ i. isbit i ++ (d ∙ (λ j. isnet.2 j ++ (h ∙ (λ k. there.1 k ++ ends.1 k)) j)) i);
    })
tail_in format key.Lut line text (t, front, back, table, ends, e) =
    subst (λ (l : Line). IsSpelled format key.Lut l text) (same_line line (Cell (stored.Lut t.0 t.1)) ends.0)
    (record { kind = refl; fields = ((few format (length t.0) table.0, table.2), table.0, within_bound t.0 table.1); spelled = e ∙ (λ i. table.3 i ++ ends.1 i) })
tail_in format key.Carry line text (x, front, back, isx, (y, f, b, isy, (z, g, c, isz, ends, h), d), e) =
    subst (λ (l : Line). IsSpelled format key.Carry l text) (same_line line (Cell (stored.Carry x y z)) ends.0) (record {
      kind = refl;
      fields = (tt, tt, (omega (arith, isx.1), omega (arith, isy.1), omega (arith, isz.1)));
      spelled = e ∙ (λ i. isx.2 i ++ (d ∙ (λ j. isy.2 j ++ (h ∙ (λ k. isz.2 k ++ ends.1 k)) j)) i);
    })
tail_in format key.Output line text (name, front, back, named, (nets, f, b, isnets, ends, d), e) =
    let p : Port = record { name = name; width = length nets } in
    subst (λ (l : Line). IsSpelled format key.Output l text) (same_line line (Output p nets) ends.0)
    (record { kind = refl; fields = (named.0, refl, isnets.0, isnets.1, within_bound nets isnets.2); spelled = e ∙ (λ i. named.1 i ++ (d ∙ (λ j. isnets.3 j ++ ends.1 j)) i) })
tail_in format key.End line text ends = cc ends.0

enable_out : (format : Format) (enable : ℕ) (first : _) (net : ℕ) → enable < bound → HasEnable format (record { first = first; net = net; enable = enable }) → IsEnable format enable (enable_field format enable)
enable_out format_.One enable first net small h = (h, refl)
enable_out format_.Two enable first net small h = (omega arith, omega (arith, small), refl)

-- the same the other way
pub tail_out : (format : Format) (line : Line) → HasFields format line → Tail format (key_of line) (Some line) (tail_of format line)
tail_out format (Clock name) h = (name, field name, line_end, (h, refl), (refl, refl), refl)
tail_out format (Input p) h = (p.name, field p.name, number p.width ++ line_end, (h.0, refl), (p.width, number p.width, line_end, (h.1, h.2, refl), (refl, refl), refl), refl)
tail_out format (Flop f) h = (
  f.first,
  bit f.first,
  number f.net ++ (enable_field format f.enable ++ line_end),
  refl,
  (
    f.net,
    number f.net,
    enable_field format f.enable ++ line_end,
    (omega arith, omega (arith, h.0), refl),
    (f.enable, enable_field format f.enable, line_end, enable_out format f.enable f.first f.net h.1 h.2, (refl, refl), refl),
    refl,
  ),
  refl,
)
tail_out format (Cell (stored.Lut leaves table)) h = ((leaves, table), table_fields leaves table, line_end, (h.1, up_to_greatest leaves h.2, h.0.1, refl), (refl, refl), refl)
tail_out format (Cell (stored.Carry a b c)) h = (
  a,
  number a,
  number b ++ (number c ++ line_end),
  (omega arith, omega (arith, h.2.0), refl),
  (b, number b, number c ++ line_end, (omega arith, omega (arith, h.2.1), refl), (c, number c, line_end, (omega arith, omega (arith, h.2.2), refl), (refl, refl), refl), refl),
  refl,
)
tail_out format (Output p nets) h =
    let port : record { name = p.name; width = length nets } ≡ p = λ i. record { name = p.name; width = sym h.1 i } in (
      p.name,
      field p.name,
      flat_map number nets ++ line_end,
      (h.0, refl),
      (
        nets,
        flat_map number nets,
        line_end,
        (h.2, h.3, up_to_greatest nets h.4, refl),
        (ap (λ q. Some (Output q nets)) (sym port), refl),
        refl,
      ),
      refl,
    )

-- the line of a netlist's text
abbrev pub spelling : Format → Line → List ℕ
spelling format (Clock name) = clock_line (Some name)
spelling format (Input p) = input_line p
spelling format (Flop f) = flop_line format f
spelling format (Cell c) = cell_line c
spelling format (Output p nets) = output_line p.name nets

-- the lines of flip-flops, and those of cells
flop_is : (format : Format) (f : flop.Flop) → codes "ff" ++ tail_of format (Flop f) ≡ flop_line format f
flop_is format_.One f = ap (λ x. codes "ff" ++ x) (sym (append_assoc (bit f.first) (number f.net) line_end))
flop_is format_.Two f =
    ap (λ x. codes "ff" ++ x) (sym (append_assoc (bit f.first) (number f.net) (number f.enable ++ line_end)) ∙ sym (append_assoc (bit f.first ++ number f.net) (number f.enable) line_end))

cell_is : (c : Stored) → key_word (cell_key c) ++ cell_tail c ≡ cell_line c
cell_is (stored.Lut leaves table) =
    let k = number (length leaves) in
    let ls = flat_map number leaves in
    let t = field (hex (2 ^ length leaves) table) in
    ap (λ x. codes "lut" ++ (x ++ line_end)) (sym (append_assoc k ls t))
cell_is (stored.Carry a b c) =
    ap (λ x. codes "carry" ++ x) (sym (append_assoc (number a) (number b) (number c ++ line_end)) ∙ sym (append_assoc (number a ++ number b) (number c) line_end))

pub spelling_is : (format : Format) (l : Line) → key_word (key_of l) ++ tail_of format l ≡ spelling format l
spelling_is format (Clock name) = refl
spelling_is format (Input p) = ap (λ x. codes "input" ++ x) (sym (append_assoc (field p.name) (number p.width) line_end))
spelling_is format (Flop f) = flop_is format f
spelling_is format (Cell c) = cell_is c
spelling_is format (Output p nets) = ap (λ x. codes "output" ++ x) (sym (append_assoc (field p.name) (flat_map number nets) line_end))
