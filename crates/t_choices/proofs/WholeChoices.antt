-- What is read of the text of choices.
use Rattle.std.proofs.Common.{◌≡◌, ℕ, List, [], ◌∷◌, ◌++◌, flat_map, Bool, refl, ap, sym, subst, ◌∙◌, append_assoc}
use Rattle.std.specs.Prelude.{codes}
use Rattle.lz_lines.specs.Fields.{IsWord}
use Rattle.lz_lines.specs.Forms.{Takes, Breaks, Anything, Nothing, Then}
use Rattle.lz_lines.proofs.Forms.{After, after_start, after_same, after_then, after_breaks, then_broken}
use Rattle.t_choices.specs.Bits.{HasBits}
use Rattle.t_choices.specs.ChoiceTexts.{IsChoices, choice_line, choices_text}
use Rattle.t_choices.specs.Repeated.{Spelled, Exactly, Last, last_line}
use Rattle.t_choices.specs.declared.choice_texts.Choices.{Choices}
use Rattle.t_choices.proofs.ChoiceFields.{some_bits}
use Rattle.t_choices.proofs.Repeated.{times, times_there}

abbrev pub first_line : List ℕ
first_line = codes "choices 1" ++ 10 ∷ []

abbrev pub First : ℕ → List Bool → List ℕ → Type 0
First first_bits = Spelled (choice_line (codes "first")) (HasBits first_bits)

abbrev pub Cycles : ℕ → ℕ → List (List Bool) → List ℕ → Type 0
Cycles cycle_bits count = Exactly (choice_line (codes "cycle")) (HasBits cycle_bits) count

-- what stands behind the first choice, and behind the first line
abbrev pub AfterFirst : ℕ → ℕ → List Bool → Choices → List ℕ → Type 0
AfterFirst cycle_bits count first = Then (Cycles cycle_bits count) (λ cycles. Last (record { first = first; cycles = cycles }))

abbrev pub AfterHead : ℕ → ℕ → ℕ → Choices → List ℕ → Type 0
AfterHead first_bits cycle_bits count = Then (First first_bits) (AfterFirst cycle_bits count)

some_cycles : (cycle_bits count : ℕ) (first : List Bool) → (c : Choices) × (text : List ℕ) × AfterFirst cycle_bits count first c text
some_cycles cycle_bits count first =
    let bits = some_bits cycle_bits in
    let cycles = times bits.0 count in (
      record { first = first; cycles = cycles },
      flat_map (choice_line (codes "cycle")) cycles ++ last_line,
      (cycles, flat_map (choice_line (codes "cycle")) cycles, last_line, times_there (choice_line (codes "cycle")) (HasBits cycle_bits) count bits.0 bits.1, (refl, refl), refl),
    )

whole_apart : (c : Choices) → choices_text c ≡ first_line ++ (choice_line (codes "first") c.first ++ (flat_map (choice_line (codes "cycle")) c.cycles ++ last_line))
whole_apart c =
    let cycles = flat_map (choice_line (codes "cycle")) c.cycles in
    append_assoc (first_line ++ choice_line (codes "first") c.first) cycles last_line ∙ append_assoc first_line (choice_line (codes "first") c.first) (cycles ++ last_line)

choices_parts : (first_bits cycle_bits count : ℕ) (bytes : List ℕ) → After (IsChoices first_bits cycle_bits count) Nothing bytes (Then (IsWord first_line) (λ u. AfterHead first_bits cycle_bits count)) bytes
choices_parts first_bits cycle_bits count bytes = after_same (Then (IsWord first_line) (λ u. AfterHead first_bits cycle_bits count)) (after_start (IsChoices first_bits cycle_bits count) Nothing bytes) to from
  where
    to : (c : Choices) (text : List ℕ) → Then (IsWord first_line) (λ u. AfterHead first_bits cycle_bits count) c text → IsChoices first_bits cycle_bits count c text
    to c text (u, head, tail, is, (first, line, lines, begins, (cycles, middle, end, all, last, e), f), g) =
        subst (λ (x : Choices). IsChoices first_bits cycle_bits count x text) (sym last.0)
        (record {
          begins = begins.0;
          fit = all.0;
          many = all.1;
          spelled = g ∙ ap (λ l. l ++ tail) is ∙ ap (λ l. first_line ++ l) (f ∙ ap (λ l. l ++ lines) begins.1 ∙ ap (λ l. choice_line (codes "first") first ++ l) (e ∙ ap (λ l. l ++ end) all.2 ∙ ap (λ l. flat_map (choice_line (codes "cycle")) cycles ++ l) last.1)) ∙ sym (whole_apart (record { first = first; cycles = cycles }));
        })

    from : (c : Choices) (text : List ℕ) → IsChoices first_bits cycle_bits count c text → Then (IsWord first_line) (λ u. AfterHead first_bits cycle_bits count) c text
    from c text is =
        let cycles = flat_map (choice_line (codes "cycle")) c.cycles in (
          tt,
          first_line,
          choice_line (codes "first") c.first ++ (cycles ++ last_line),
          refl,
          (c.first, choice_line (codes "first") c.first, cycles ++ last_line, (is.begins, refl), (c.cycles, cycles, last_line, (is.fit, is.many, refl), (refl, refl), refl), refl),
          is.spelled ∙ whole_apart c,
        )

-- the first line was read
pub head_read : (first_bits cycle_bits count : ℕ) {bytes rest : List ℕ} → Takes (IsWord first_line) Anything bytes tt rest → After (IsChoices first_bits cycle_bits count) Nothing bytes (AfterHead first_bits cycle_bits count) rest
head_read first_bits cycle_bits count {bytes = bytes} t = after_then (IsWord first_line) Anything (λ u. AfterHead first_bits cycle_bits count) (choices_parts first_bits cycle_bits count bytes) (λ a v text behind is b. tt) t

pub head_broken : (first_bits cycle_bits count : ℕ) {bytes : List ℕ} {k : ℕ} → Breaks (IsWord first_line) Anything bytes k → Breaks (IsChoices first_bits cycle_bits count) Nothing bytes k
head_broken first_bits cycle_bits count {bytes = bytes} b =
    let bits = some_bits first_bits in
    let rest = some_cycles cycle_bits count bits.0 in
    after_breaks (choices_parts first_bits cycle_bits count bytes)
    (then_broken (IsWord first_line) Anything (λ u. AfterHead first_bits cycle_bits count) Nothing
    (λ u text is. (rest.0, choice_line (codes "first") bits.0 ++ rest.1, (bits.0, choice_line (codes "first") bits.0, rest.1, (bits.1, refl), rest.2, refl))) (λ a v text behind is b. tt) b)

-- the first choice was read
pub first_read : (first_bits cycle_bits count : ℕ) (first : List Bool) {bytes rest left : List ℕ} → After (IsChoices first_bits cycle_bits count) Nothing bytes (AfterHead first_bits cycle_bits count) rest
    → Takes (First first_bits) Anything rest first left → After (IsChoices first_bits cycle_bits count) Nothing bytes (AfterFirst cycle_bits count first) left
first_read first_bits cycle_bits count first h t = after_then (First first_bits) Anything (AfterFirst cycle_bits count) h (λ a v text behind is b. tt) t

pub first_broken : (first_bits cycle_bits count : ℕ) {bytes rest : List ℕ} {k : ℕ} → After (IsChoices first_bits cycle_bits count) Nothing bytes (AfterHead first_bits cycle_bits count) rest
    → Breaks (First first_bits) Anything rest k → Breaks (IsChoices first_bits cycle_bits count) Nothing bytes k
first_broken first_bits cycle_bits count h b = after_breaks h (then_broken (First first_bits) Anything (AfterFirst cycle_bits count) Nothing (λ first text is. some_cycles cycle_bits count first) (λ a v text behind is b. tt) b)

-- the cycles were read
pub cycles_read : (first_bits cycle_bits count : ℕ) (first : List Bool) (cycles : List (List Bool)) {bytes rest left : List ℕ} → After (IsChoices first_bits cycle_bits count) Nothing bytes (AfterFirst cycle_bits count first) rest
    → Takes (Cycles cycle_bits count) Anything rest cycles left → After (IsChoices first_bits cycle_bits count) Nothing bytes (Last (record { first = first; cycles = cycles })) left
cycles_read first_bits cycle_bits count first cycles h t = after_then (Cycles cycle_bits count) Anything (λ cycles. Last (record { first = first; cycles = cycles })) h (λ a v text behind is b. tt) t

pub cycles_broken : (first_bits cycle_bits count : ℕ) (first : List Bool) {bytes rest : List ℕ} {k : ℕ} → After (IsChoices first_bits cycle_bits count) Nothing bytes (AfterFirst cycle_bits count first) rest
    → Breaks (Cycles cycle_bits count) Anything rest k → Breaks (IsChoices first_bits cycle_bits count) Nothing bytes k
cycles_broken first_bits cycle_bits count first h b =
    after_breaks h
    (then_broken (Cycles cycle_bits count) Anything (λ cycles. Last (record { first = first; cycles = cycles })) Nothing (λ cycles text is. (record { first = first; cycles = cycles }, last_line, (refl, refl))) (λ a v text behind is b. tt) b)
