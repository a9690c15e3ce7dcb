-- How lines are spelled: the grammar's fields, one after another.
use Rattle.std.proofs.Common.{◌≡◌, ◌≤◌, ℕ, List, [], ◌∷◌, ◌++◌, length, flat_map, None, Some, refl, arith, ap, sym, subst, ◌∙◌, append_assoc, append-nil}
use Rattle.std.specs.Prelude.{codes}
use Rattle.lz_base.specs.declared.name.Port.{Port}
use Rattle.lz_base.specs.Names.{IsName}
use Rattle.lz_lines.specs.Fields.{bit, field, greatest, line_end, number}
use Rattle.lz_lines.specs.Shared.{clock_line, input_line}
use Rattle.g_net.specs.declared.network.Flip as flip
use Rattle.g_net.specs.declared.network.Gate as gate
use Rattle.g_net.specs.declared.network.Gate.TheVariants.{And, Xor, Carry}
use Rattle.g_net.specs.declared.network.Output as output
use Rattle.g_text.specs.declared.line.Key.{Key}
use Rattle.g_text.specs.declared.line.Key.TheVariants as key
use Rattle.g_text.specs.declared.line.Line.{Line}
use Rattle.g_text.specs.declared.line.Line.TheVariants.{Clock, Input, Flip, Gate, Output}
use Rattle.g_text.specs.Form.{IsFlip, IsGate, IsOutput, IsPort}
use Rattle.g_text.specs.Grammar.{Pair, Tail}
use Rattle.g_text.specs.Keys.{key_word}
use Rattle.g_text.specs.Text.{flip_line, gate_line, named_line}

abbrev pub gate_key : gate.Gate → Key
gate_key (And a b) = key.And
gate_key (Xor a b) = key.Xor
gate_key (Carry a b c) = key.Carry

abbrev pub key_of : Line → Key
key_of (Clock name) = key.Clock
key_of (Input p) = key.Input
key_of (Flip f) = key.Flip
key_of (Gate g) = gate_key g
key_of (Output o) = key.Output

-- the fields of a line are those of the grammar
abbrev pub HasFields : Line → Type 0
HasFields (Clock name) = IsName name
HasFields (Input p) = IsPort p
HasFields (Flip f) = IsFlip f
HasFields (Gate g) = IsGate g
HasFields (Output o) = IsOutput o

-- two literals
abbrev pub pair : ℕ → ℕ → List ℕ
pair a b = number a ++ number b

abbrev pub gate_tail : gate.Gate → List ℕ
gate_tail (And a b) = pair a b ++ line_end
gate_tail (Xor a b) = pair a b ++ line_end
gate_tail (Carry a b c) = number a ++ (pair b c ++ line_end)

-- what stands behind the word of a line
abbrev pub tail_of : Line → List ℕ
tail_of (Clock name) = field name ++ line_end
tail_of (Input p) = field p.name ++ (number p.width ++ line_end)
tail_of (Flip f) = bit f.first ++ (pair f.literal f.enable ++ line_end)
tail_of (Gate g) = gate_tail g
tail_of (Output o) = field o.name ++ (flat_map number o.literals ++ line_end)

pub record IsSpelled (k : Key) (line : Line) (text : List ℕ) : Type 0 where
  pub kind : key_of line ≡ k
  pub fields : HasFields line
  pub spelled : text ≡ tail_of line

pub pair_in : (p : ℕ × ℕ) (text : List ℕ) → Pair p text → (p.0 ≤ greatest) × (p.1 ≤ greatest) × (text ≡ pair p.0 p.1)
pair_in p text (a, f, back, isa, (b, g, last, isb, done, d), e) =
    let whole : text ≡ pair a b = e ∙ (λ i. isa.2 i ++ (d ∙ (λ j. isb.2 j ++ done.1 j) ∙ append-nil (number b)) i) in
    (subst (λ n. n ≤ greatest) (sym (ap (λ (q : ℕ × ℕ). q.0) done.0)) isa.1, subst (λ n. n ≤ greatest) (sym (ap (λ (q : ℕ × ℕ). q.1) done.0)) isb.1, whole ∙ ap (λ (q : ℕ × ℕ). pair q.0 q.1) (sym done.0))

pub pair_out : (a b : ℕ) → a ≤ greatest → b ≤ greatest → Pair (a, b) (pair a b)
pair_out a b small_a small_b = (a, number a, number b, (omega arith, small_a, refl), (b, number b, [], (omega arith, small_b, refl), (refl, refl), sym (append-nil (number b))), refl)

same_line : (a b : Line) → Some a ≡ Some b → b ≡ a
same_line a b e = cc

-- a line's fields by its word, put together
pub tail_in : (k : Key) (line : Line) (text : List ℕ) → Tail k (Some line) text → IsSpelled k line text
tail_in key.Clock line text (name, front, back, named, ended, e) =
    subst (λ (l : Line). IsSpelled key.Clock l text) (same_line line (Clock name) ended.0) (record { kind = refl; fields = named.0; spelled = e ∙ (λ i. named.1 i ++ ended.1 i) })
tail_in key.Input line text (name, front, back, named, (width, f, b, sized, ended, d), e) =
    let p : Port = record { name = name; width = width } in
    subst (λ (l : Line). IsSpelled key.Input l text) (same_line line (Input p) ended.0)
    (record { kind = refl; fields = (named.0, sized.0, sized.1); spelled = e ∙ (λ i. named.1 i ++ (d ∙ (λ j. sized.2 j ++ ended.1 j)) i) })
tail_in key.Flip line text (first, front, back, isbit, (p, f, b, ispair, ended, d), e) =
    let made : flip.Flip = record { first = first; literal = p.0; enable = p.1 } in
    let is = pair_in p f ispair in
    subst (λ (l : Line). IsSpelled key.Flip l text) (same_line line (Flip made) ended.0)
    (record { kind = refl; fields = (is.0, is.1); spelled = e ∙ (λ i. isbit i ++ (d ∙ (λ j. is.2 j ++ ended.1 j)) i) })
tail_in key.And line text (p, front, back, ispair, ended, e) =
    let is = pair_in p front ispair in
    subst (λ (l : Line). IsSpelled key.And l text) (same_line line (Gate (And p.0 p.1)) ended.0) (record { kind = refl; fields = (is.0, is.1); spelled = e ∙ (λ i. is.2 i ++ ended.1 i) })
tail_in key.Xor line text (p, front, back, ispair, ended, e) =
    let is = pair_in p front ispair in
    subst (λ (l : Line). IsSpelled key.Xor l text) (same_line line (Gate (Xor p.0 p.1)) ended.0) (record { kind = refl; fields = (is.0, is.1); spelled = e ∙ (λ i. is.2 i ++ ended.1 i) })
tail_in key.Carry line text (a, front, back, isa, (p, f, b, ispair, ended, d), e) =
    let is = pair_in p f ispair in
    subst (λ (l : Line). IsSpelled key.Carry l text) (same_line line (Gate (Carry a p.0 p.1)) ended.0)
    (record { kind = refl; fields = (isa.1, is.0, is.1); spelled = e ∙ (λ i. isa.2 i ++ (d ∙ (λ j. is.2 j ++ ended.1 j)) i) })
tail_in key.Output line text (name, front, back, named, (ns, f, b, are, ended, d), e) =
    let made : output.Output = record { name = name; literals = ns } in
    subst (λ (l : Line). IsSpelled key.Output l text) (same_line line (Output made) ended.0)
    (record { kind = refl; fields = (named.0, are.0, are.1, are.2); spelled = e ∙ (λ i. named.1 i ++ (d ∙ (λ j. are.3 j ++ ended.1 j)) i) })
tail_in key.End line text ended = cc (ended.0)

-- the same the other way
pub tail_out : (line : Line) → HasFields line → Tail (key_of line) (Some line) (tail_of line)
tail_out (Clock name) h = (name, field name, line_end, (h, refl), (refl, refl), refl)
tail_out (Input p) h = (p.name, field p.name, number p.width ++ line_end, (h.0, refl), (p.width, number p.width, line_end, (h.1, h.2, refl), (refl, refl), refl), refl)
tail_out (Flip f) h =
    (f.first, bit f.first, pair f.literal f.enable ++ line_end, refl, ((f.literal, f.enable), pair f.literal f.enable, line_end, pair_out f.literal f.enable h.0 h.1, (refl, refl), refl), refl)
tail_out (Gate (And a b)) h = ((a, b), pair a b, line_end, pair_out a b h.0 h.1, (refl, refl), refl)
tail_out (Gate (Xor a b)) h = ((a, b), pair a b, line_end, pair_out a b h.0 h.1, (refl, refl), refl)
tail_out (Gate (Carry a b c)) h = (a, number a, pair b c ++ line_end, (omega arith, h.0, refl), ((b, c), pair b c, line_end, pair_out b c h.1 h.2, (refl, refl), refl), refl)
tail_out (Output o) h =
    (o.name, field o.name, flat_map number o.literals ++ line_end, (h.0, refl), (o.literals, flat_map number o.literals, line_end, (h.1, h.2, h.3, refl), (refl, refl), refl), refl)

-- the line of a network's text
abbrev pub spelling : Line → List ℕ
spelling (Clock name) = clock_line (Some name)
spelling (Input p) = input_line p
spelling (Flip f) = flip_line f
spelling (Gate g) = gate_line g
spelling (Output o) = named_line o

pair_is : (word : List ℕ) (a b : ℕ) → word ++ (pair a b ++ line_end) ≡ word ++ number a ++ number b ++ line_end
pair_is word a b = sym (append_assoc word (pair a b) line_end) ∙ ap (λ x. x ++ line_end) (sym (append_assoc word (number a) (number b)))

gate_is : (g : gate.Gate) → key_word (gate_key g) ++ gate_tail g ≡ gate_line g
gate_is (And a b) = pair_is (codes "and") a b
gate_is (Xor a b) = pair_is (codes "xor") a b
gate_is (Carry a b c) = sym (append_assoc (codes "carry") (number a) (pair b c ++ line_end)) ∙ pair_is (codes "carry" ++ number a) b c

pub spelling_is : (l : Line) → key_word (key_of l) ++ tail_of l ≡ spelling l
spelling_is (Clock name) = refl
spelling_is (Input p) = ap (λ x. codes "input" ++ x) (sym (append_assoc (field p.name) (number p.width) line_end))
spelling_is (Flip f) = sym (append_assoc (codes "ff") (bit f.first) (pair f.literal f.enable ++ line_end)) ∙ pair_is (codes "ff" ++ bit f.first) f.literal f.enable
spelling_is (Gate g) = gate_is g
spelling_is (Output o) = ap (λ x. codes "output" ++ x) (sym (append_assoc (field o.name) (flat_map number o.literals) line_end))
