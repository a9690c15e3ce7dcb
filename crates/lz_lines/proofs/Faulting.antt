-- References judged section by section, up to the first that is wrong.
use Rattle.std.proofs.Common.{◌≡◌, ℕ, ◌+◌, ◌≤◌, List, [], ◌∷◌, ◌++◌, length, Result, Ok, Err, IfErr, refl, arith, ap, sym, ◌∙◌, append_assoc, append-nil}
use Rattle.std.specs.Result.{IsErrAnd}
use Rattle.std.proofs.lemmas.List.{length-append}
use Rattle.std.proofs.lemmas.Result.{err_from_is_err_and}
use Rattle.lz_base.specs.declared.fault.Stop.{Stop}
use Rattle.lz_base.specs.declared.rule.Rule.{Rule}
use Rattle.lz_lines.specs.Fields.{field}
use Rattle.lz_lines.specs.References.{IsWrong, Judges}
use Rattle.lz_lines.specs.Sections.{end_line}
use Rattle.lz_lines.proofs.MetNames.{wrong_more}

-- what is known before the lines of a section are judged: where they begin, and that nothing is wrong before
pub record Clean (begins : ℕ) (before : List ℕ) (place : ℕ) : Type 0 where
  pub begun : place ≡ begins
  pub clean : before ≡ []

-- A section, whose wrong places depend on a count and on where it begins: the count that was used is right, and what stands
-- before the section is clean.
module _ (rule : Rule) (wrong : ℕ → ℕ → List ℕ) (used count : ℕ) (right : used ≡ count) (begins place : ℕ) (before : List ℕ) (h : Clean begins before place) where
  same : wrong used place ≡ wrong count begins
  same = λ i. wrong (right i) (h.begun i)

  -- nothing is wrong in it
  pub clean_more : (behind end_ : ℕ) → Judges rule (Ok behind) end_ (wrong used place) → before ++ wrong count begins ≡ []
  clean_more behind end_ j = λ i. h.clean i ++ (sym same ∙ j.1) i

  pub clean_next : (behind size : ℕ) → Judges rule (Ok behind) (place + size) (wrong used place) → Clean (begins + size) (before ++ wrong count begins) behind
  clean_next behind size j = record { begun = j.0 ∙ ap (λ k. k + size) h.begun; clean = clean_more behind (place + size) j }

  -- something is
  pub fault_in : {X : Type 0} (back places : List ℕ) (result : Result X Stop) (e : Stop) → IsErrAnd result (λ x. x ≡ e) → places ≡ before ++ wrong count begins ++ back → IsWrong rule (wrong used place) e
      → IfErr result (IsWrong rule places)
  fault_in back places result e is whole j =
      let p = err_from_is_err_and result is in
      rw (p.1 ∙ ap Err p.2) (wrong_more rule e (wrong used place) back places j (whole ∙ ap (λ l. l ++ wrong count begins ++ back) h.clean ∙ ap (λ l. l ++ back) (sym same)))

-- What is judged: the rule, how many things there are to refer to, and the first of those that cells define; where the
-- lines of inputs begin, and how long those of inputs, flip-flops and cells are; and the wrong places of each section.
pub record Judged : Type 0 where
  pub rule : Rule
  pub count : ℕ
  pub first : ℕ
  pub place : ℕ
  pub inputs_size : ℕ
  pub flops_size : ℕ
  pub cells_size : ℕ
  pub inputs : ℕ → List ℕ
  pub flops : ℕ → ℕ → List ℕ
  pub cells : ℕ → ℕ → List ℕ
  pub outputs : ℕ → ℕ → List ℕ

module _ (j : Judged) where
  abbrev flops_at : ℕ
  flops_at = j.place + j.inputs_size

  abbrev cells_at : ℕ
  cells_at = flops_at + j.flops_size

  abbrev outputs_at : ℕ
  outputs_at = cells_at + j.cells_size

  abbrev of_inputs : List ℕ
  of_inputs = j.inputs j.place

  abbrev of_flops : List ℕ
  of_flops = j.flops j.count flops_at

  abbrev of_cells : List ℕ
  of_cells = j.cells j.first cells_at

  abbrev of_outputs : List ℕ
  of_outputs = j.outputs j.count outputs_at

  abbrev places : List ℕ
  places = of_inputs ++ of_flops ++ of_cells ++ of_outputs

  -- a section in which nothing is wrong
  pub at_flops : (at_ behind : ℕ) → Clean j.place [] at_ → Judges j.rule (Ok behind) (at_ + j.inputs_size) (j.inputs at_) → Clean flops_at of_inputs behind
  at_flops at_ behind h = clean_next j.rule (λ _ k. j.inputs k) 0 0 refl j.place at_ [] h behind j.inputs_size

  pub at_cells : (count at_ behind : ℕ) → count ≡ j.count → Clean flops_at of_inputs at_ → Judges j.rule (Ok behind) (at_ + j.flops_size) (j.flops count at_) → Clean cells_at (of_inputs ++ of_flops) behind
  at_cells count at_ behind e h = clean_next j.rule j.flops count j.count e flops_at at_ of_inputs h behind j.flops_size

  pub at_outputs : (first at_ behind : ℕ) → first ≡ j.first → Clean cells_at (of_inputs ++ of_flops) at_ → Judges j.rule (Ok behind) (at_ + j.cells_size) (j.cells first at_)
      → Clean outputs_at (of_inputs ++ of_flops ++ of_cells) behind
  at_outputs first at_ behind e h = clean_next j.rule j.cells first j.first e cells_at at_ (of_inputs ++ of_flops) h behind j.cells_size

  pub none_there : (count at_ end_ behind : ℕ) → count ≡ j.count → Clean outputs_at (of_inputs ++ of_flops ++ of_cells) at_ → Judges j.rule (Ok behind) end_ (j.outputs count at_) → places ≡ []
  none_there count at_ end_ behind e h = clean_more j.rule j.outputs count j.count e outputs_at at_ (of_inputs ++ of_flops ++ of_cells) h behind end_

  -- a section in which something is
  pub fault_inputs : {X : Type 0} (result : Result X Stop) (e : Stop) (at_ : ℕ) → IsErrAnd result (λ x. x ≡ e) → Clean j.place [] at_ → IsWrong j.rule (j.inputs at_) e → IfErr result (IsWrong j.rule places)
  fault_inputs result e at_ is h =
      fault_in j.rule (λ _ k. j.inputs k) 0 0 refl j.place at_ [] h (of_flops ++ (of_cells ++ of_outputs)) places result e is
      (append_assoc (of_inputs ++ of_flops) of_cells of_outputs ∙ append_assoc of_inputs of_flops (of_cells ++ of_outputs))

  pub fault_flops : {X : Type 0} (result : Result X Stop) (e : Stop) (count at_ : ℕ) → IsErrAnd result (λ x. x ≡ e) → count ≡ j.count → Clean flops_at of_inputs at_ → IsWrong j.rule (j.flops count at_) e
      → IfErr result (IsWrong j.rule places)
  fault_flops result e count at_ is b h =
      fault_in j.rule j.flops count j.count b flops_at at_ of_inputs h (of_cells ++ of_outputs) places result e is (append_assoc (of_inputs ++ of_flops) of_cells of_outputs)

  pub fault_cells : {X : Type 0} (result : Result X Stop) (e : Stop) (first at_ : ℕ) → IsErrAnd result (λ x. x ≡ e) → first ≡ j.first → Clean cells_at (of_inputs ++ of_flops) at_ → IsWrong j.rule (j.cells first at_) e
      → IfErr result (IsWrong j.rule places)
  fault_cells result e first at_ is b h = fault_in j.rule j.cells first j.first b cells_at at_ (of_inputs ++ of_flops) h of_outputs places result e is refl

  pub fault_outputs : {X : Type 0} (result : Result X Stop) (e : Stop) (count at_ : ℕ) → IsErrAnd result (λ x. x ≡ e) → count ≡ j.count → Clean outputs_at (of_inputs ++ of_flops ++ of_cells) at_
      → IsWrong j.rule (j.outputs count at_) e → IfErr result (IsWrong j.rule places)
  fault_outputs result e count at_ is b h =
      fault_in j.rule j.outputs count j.count b outputs_at at_ (of_inputs ++ of_flops ++ of_cells) h [] places result e is (sym (append-nil places))

-- the lines behind the clock's
pub begun_at : (model clock front behind : ℕ) → front ≡ model → behind ≡ front + clock → Clean (model + clock) [] behind
begun_at model clock front behind e f = record { begun = f ∙ ap (λ k. k + clock) e; clean = refl }

-- the lines of all sections have room in the text
pub room_of : (text head name a b c d e : List ℕ) (most : ℕ) → text ≡ head ++ (field name ++ 10 ∷ ((a ++ b ++ c ++ d ++ e) ++ end_line)) → length text ≤ most
    → length (head ++ field name ++ 10 ∷ []) + length a + length b + length c + length d + length e ≤ most
room_of text head name a b c d e most is h =
    let body = a ++ b ++ c ++ d ++ e in
    let whole = ap (λ (l : List ℕ). length l) is in
    let start = length-append head (field name ++ 10 ∷ (body ++ end_line)) in
    let one = length-append (field name) (10 ∷ (body ++ end_line)) in
    let two = length-append body end_line in
    let three = length-append (a ++ b ++ c ++ d) e in
    let four = length-append (a ++ b ++ c) d in
    let five = length-append (a ++ b) c in
    let six = length-append a b in
    let front = length-append head (field name) in
    let model = length-append (head ++ field name) (10 ∷ []) in
    omega (arith, h, whole, start, one, two, three, four, five, six, front, model)
