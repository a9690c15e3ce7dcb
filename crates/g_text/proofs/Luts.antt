-- The lines of a proposal's text, and the whole text.
use Rattle.std.proofs.Common.{◌≡◌, inl, inr, ℕ, ◌<◌, ◌≤◌, ◌^◌, List, [], ◌∷◌, ◌++◌, length, flat_map, Option, None, Some, refl, arith, ap, sym, ◌∙◌, subst, append_assoc, append-nil}
use Rattle.std.specs.Prelude.{codes}
use Rattle.std.specs.Fmt.{decimal}
use Rattle.std.proofs.lemmas.List.{length-append}
use Rattle.std.proofs.lemmas.List.Concat.{flat_map-cons}
use Rattle.lz_lines.specs.Fields.{Each, IsNumber, IsWord, field, greatest, hex, number}
use Rattle.lz_lines.specs.Forms.{Takes, Breaks, Anything, IsParted, Nothing, Then, Ended, AreLines}
use Rattle.lz_lines.specs.Keywords.{OneOf}
use Rattle.lz_lines.specs.Tables.{IsTable, table_fields}
use Rattle.lz_lines.proofs.Forms.{After, after_start, after_same, after_then, after_breaks, after_takes, after_line, line_broken, then_broken, done_takes, GoesOn}
use Rattle.lz_lines.proofs.Places.{end_breaks}
use Rattle.lz_lines.proofs.Standing.{Some_, some_ended, some_then, zero_there}
use Rattle.lz_lines.specs.Sections.{end_line}
use Rattle.g_net.specs.declared.proposal.Line.{Line}
use Rattle.g_text.specs.Luts.{Always, IsLutText, IsNextLut, LutEnd, LutLines, LutTable, Tail, and_lut, head_word}
use Rattle.g_text.specs.Proposals.{IsLut, IsProposal, first_line, lut_line}
use Rattle.g_text.specs.declared.proposal.Head.{Head}
use Rattle.g_text.specs.declared.proposal.Head.TheVariants as head

-- a line is a word and what stands behind it
abbrev pub Headed : Option Line → List ℕ → Type 0
Headed = Then (OneOf head_word head.End (head.Lut ∷ [])) Tail

-- the table of one bit, which is 0
no_leaves : IsTable 6 ([], 0) (table_fields [] 0)
no_leaves = (omega arith, tt, omega arith, refl)

pub table_some : (root : ℕ) (text : List ℕ) → IsNumber 0 greatest root text → Some_ (LutTable root)
table_some root text is = some_then (IsTable 6) (LutEnd root) ([], 0) (table_fields [] 0) no_leaves (some_ended (Some (record { root = root; leaves = []; table = 0 })))

pub table_parted : (root : ℕ) (v : Option Line) (text behind : List ℕ) → LutTable root v text → IsParted (text ++ behind)
table_parted root v text behind (t, front, back, is, ended, e) = inl (((decimal (length t.0) ++ (flat_map number t.0 ++ field (hex (2 ^ length t.0) t.1))) ++ back) ++ behind, ap (λ x. x ++ behind) (e ∙ ap (λ x. x ++ back) is.3))

lut_is : (l : Line) → codes "lut" ++ (number l.root ++ (table_fields l.leaves l.table ++ 10 ∷ [])) ≡ lut_line l
lut_is l =
    sym (append_assoc (codes "lut") (number l.root) (table_fields l.leaves l.table ++ 10 ∷ [])) ∙ sym (append_assoc (codes "lut" ++ number l.root) (table_fields l.leaves l.table) (10 ∷ []))

lut_to : (line : Option Line) (text back : List ℕ) → Tail head.Lut line back → text ≡ codes "lut" ++ back → IsNextLut line text
lut_to line text back (root, f, b, isroot, (t, g, c, table, ended, d), h) e =
    let l : Line = record { root = root; leaves = t.0; table = t.1 } in
    let spelled : text ≡ lut_line l = e ∙ ap (λ x. codes "lut" ++ x) (h ∙ (λ j. isroot.2 j ++ (d ∙ (λ k. table.3 k ++ ended.1 k)) j)) ∙ lut_is l in
    subst (λ (o : Option Line). IsNextLut o text) (sym ended.0) ((isroot.1, table.1, (table.0, table.2)), spelled)

line_to : (line : Option Line) (text : List ℕ) → Headed line text → IsNextLut line text
line_to line text (k, front, back, inl is, tail, e) = lut_to line text back (subst (λ (x : Head). Tail x line back) is.0 tail) (e ∙ ap (λ x. x ++ back) is.1)
line_to line text (k, front, back, inr is, tail, e) =
    let ended : Ended None line back = subst (λ (x : Head). Tail x line back) is.0 tail in
    subst (λ (o : Option Line). IsNextLut o text) (sym ended.0) (tt, e ∙ ap (λ l. l ++ back) is.1 ∙ ap (λ l. codes "end" ++ l) ended.1)

line_from : (line : Option Line) (text : List ℕ) → IsNextLut line text → Headed line text
line_from None text is = (head.End, codes "end", 10 ∷ [], inr (refl, refl), (refl, refl), is.1)
line_from (Some l) text is = (
  head.Lut,
  codes "lut",
  number l.root ++ (table_fields l.leaves l.table ++ 10 ∷ []),
  inl (refl, refl),
  (
    l.root,
    number l.root,
    table_fields l.leaves l.table ++ 10 ∷ [],
    (omega arith, is.0.0, refl),
    ((l.leaves, l.table), table_fields l.leaves l.table, 10 ∷ [], (is.0.2.0, is.0.1, is.0.2.1, refl), (refl, refl), refl),
    refl,
  ),
  is.1 ∙ sym (lut_is l),
)

pub line_after : (bytes : List ℕ) → After IsNextLut Anything bytes Headed bytes
line_after bytes = after_same Headed (after_start IsNextLut Anything bytes) line_to line_from

pub tail_some : (k : Head) → Some_ (Tail k)
tail_some head.Lut = some_then (IsNumber 0 greatest) LutTable 0 (number 0) zero_there (table_some 0 (number 0) zero_there)
tail_some head.End = some_ended None

lines_of : (before lines : List Line) → Each IsLut lines → LutLines before (before ++ lines) (flat_map lut_line lines ++ end_line)
lines_of before [] are = ([], (tt, append-nil before, refl))
lines_of before (l ∷ ls) are =
    let more = lines_of (before ++ l ∷ []) ls are.1 in
    let all : (before ++ l ∷ []) ++ ls ≡ before ++ l ∷ ls = append_assoc before (l ∷ []) ls in (
      l ∷ more.0,
      (
        lut_line l,
        flat_map lut_line ls ++ end_line,
        (are.0, refl),
        subst (λ (v : List Line). AreLines IsLutText and_lut Always end_line (before ++ l ∷ []) more.0 v (flat_map lut_line ls ++ end_line)) all more.1,
        ap (λ x. x ++ end_line) (flat_map-cons lut_line l ls) ∙ append_assoc (lut_line l) (flat_map lut_line ls) end_line,
      ),
    )

record Were (before lines value : List Line) (text : List ℕ) : Type 0 where
  all : value ≡ before ++ lines
  fields : Each IsLut lines
  spelled : text ≡ flat_map lut_line lines ++ end_line

lines_were : (before lines value : List Line) (text : List ℕ) → AreLines IsLutText and_lut Always end_line before lines value text → Were before lines value text
lines_were before [] value text is = record { all = is.1 ∙ sym (append-nil before); fields = tt; spelled = is.2 }
lines_were before (l ∷ ls) value text is =
    let more = lines_were (before ++ l ∷ []) ls value is.1 is.3 in
    record {
      all = more.all ∙ append_assoc before (l ∷ []) ls;
      fields = (is.2.0, more.fields);
      spelled = is.4 ∙ ap (λ x. x ++ is.1) is.2.1 ∙ ap (λ x. lut_line l ++ x) more.spelled ∙ sym (append_assoc (lut_line l) (flat_map lut_line ls) end_line) ∙ ap (λ x. x ++ end_line) (sym (flat_map-cons lut_line l ls));
    }

pub text_after : (bytes : List ℕ) → After IsProposal Nothing bytes (Then (IsWord first_line) (λ u. LutLines [])) bytes
text_after bytes = after_same (Then (IsWord first_line) (λ u. LutLines [])) (after_start IsProposal Nothing bytes) to from
  where
    to : (lines : List Line) (text : List ℕ) → Then (IsWord first_line) (λ u. LutLines []) lines text → IsProposal lines text
    to lines text (u, front, back, is, read, e) =
        let w = lines_were [] read.0 lines back read.1 in
        record {
          fields = subst (Each IsLut) (sym w.all) w.fields;
          spelled = e ∙ ap (λ x. x ++ back) is ∙ ap (λ x. first_line ++ x) (w.spelled ∙ ap (λ (ls : List Line). flat_map lut_line ls ++ end_line) (sym w.all))
              ∙ sym (append_assoc first_line (flat_map lut_line lines) end_line);
        }

    from : (lines : List Line) (text : List ℕ) → IsProposal lines text → Then (IsWord first_line) (λ u. LutLines []) lines text
    from lines text is = (tt, first_line, flat_map lut_line lines ++ end_line, refl, lines_of [] lines is.fields, is.spelled ∙ append_assoc first_line (flat_map lut_line lines) end_line)

pub lines_some : Some_ (LutLines [])
lines_some = ([], end_line, lines_of [] [] tt)

-- a line was read
pub lut_read : (lines : List Line) (line : Option Line) (l : Line) {bytes left rest : List ℕ} → line ≡ Some l → After IsProposal Nothing bytes (LutLines lines) left → Takes IsNextLut Anything left line rest
    → After IsProposal Nothing bytes (LutLines (lines ++ l ∷ [])) rest
lut_read lines line l {bytes = bytes} {rest = rest} is h t =
    subst (λ (o : Option Line). After IsProposal Nothing bytes (GoesOn IsLutText and_lut Always end_line lines o) rest) is (after_line IsLutText and_lut Always end_line lines line h t)

-- no line was read
pub lut_broken : (lines : List Line) {bytes left : List ℕ} {k : ℕ} → After IsProposal Nothing bytes (LutLines lines) left → Breaks IsNextLut Anything left k → Breaks IsProposal Nothing bytes k
lut_broken lines h b = line_broken IsLutText and_lut Always end_line lines (λ l text is. let more = lines_of (lines ++ l ∷ []) [] tt in ((lines ++ l ∷ []) ++ [], end_line, more)) h b

last_after : (lines : List Line) (line : Option Line) {bytes left rest : List ℕ} → line ≡ None → After IsProposal Nothing bytes (LutLines lines) left → Takes IsNextLut Anything left line rest
    → After IsProposal Nothing bytes (GoesOn IsLutText and_lut Always end_line lines None) rest
last_after lines line {bytes = bytes} {rest = rest} is h t =
    subst (λ (o : Option Line). After IsProposal Nothing bytes (GoesOn IsLutText and_lut Always end_line lines o) rest) is (after_line IsLutText and_lut Always end_line lines line h t)

-- the last line was read, and nothing stands behind it
pub last_read : (lines : List Line) (line : Option Line) {bytes left rest : List ℕ} → line ≡ None → rest ≡ [] → After IsProposal Nothing bytes (LutLines lines) left → Takes IsNextLut Anything left line rest
    → Takes IsProposal Nothing bytes lines []
last_read lines line {bytes = bytes} {rest = rest} is none h t =
    subst (λ (x : List ℕ). Takes IsProposal Nothing bytes lines x) none (after_takes (last_after lines line is h t) (done_takes Nothing lines rest))

-- something stands behind the last line
pub last_broken : (lines : List Line) (line : Option Line) {bytes left rest : List ℕ} → line ≡ None → (rest ≡ [] → ⊥) → After IsProposal Nothing bytes (LutLines lines) left → Takes IsNextLut Anything left line rest
    → Breaks IsProposal Nothing bytes (length rest)
last_broken lines line {rest = rest} is some h t = after_breaks (last_after lines line is h t) (end_breaks lines rest some)

-- a line has at least the byte of its end
pub line_shorter : (line : Option Line) {bytes rest : List ℕ} → Takes IsNextLut Anything bytes line rest → length rest < length bytes
line_shorter line {rest = rest} t = let some = at line t.front t.is in omega (arith, some, ap (λ (l : List ℕ). length l) t.split, length-append t.front rest)
  where
    at : (line : Option Line) (text : List ℕ) → IsNextLut line text → 0 < length text
    at None text is = omega (arith, ap (λ (l : List ℕ). length l) is.1)
    at (Some l) text is = omega (arith, ap (λ (l : List ℕ). length l) is.1, length-append (codes "lut" ++ number l.root ++ table_fields l.leaves l.table) (10 ∷ []))
