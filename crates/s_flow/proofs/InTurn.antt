-- Streams that a netlist runs in turn.
use Rattle.std.proofs.Common.{◌≡◌, ◌<◌, ◌≤◌, ◌+◌, ◌-◌, ◌*◌, ◌^◌, ◌/◌, ◌%◌, min, ◌⊎◌, inl, inr, ℕ, zero, suc, List, [], ◌∷◌, ◌++◌, ◌==◌, length, take, drop, get_or, map, slice_get, Option, None, Some, Bool, true, false, if◌then◌else◌, arith, refl, ap, sym, ◌∙◌, subst, append_assoc, append-nil, drop-cons, add-one, add-zero, length-append}
use Rattle.std.proofs.lemmas.Bool.Decides.{nat_tests}
use Rattle.std.proofs.lemmas.Grind.{common_steps}
use Rattle.std.proofs.lemmas.List.{length-map}
use Rattle.lz_base.specs.Bits.{low_bits, word_bits, words_bits, number_of, word_of}
use Rattle.lz_base.specs.Ports.{FitPorts}
use Rattle.lz_base.specs.WordValue.{WordValue}
use Rattle.lz_base.specs.declared.name.Port.{Port}
use Rattle.lz_circuit.specs.Lines.{HaveWidths, port_bits}
use Rattle.n_cells.specs.Netlist.{NetlistValue, IsWellFormed, FillOutputs}
use Rattle.lz_circuit.specs.Values.{value_at}
use Rattle.n_cells.specs.Run.{IsValuation, Runs, shown, next_state, first_state}
use Rattle.n_sim.specs.Lanes.{lane, stream, IsCycleOf}
use Rattle.s_flow.specs.SideBySide.{words_at, lines_from, IsTurn}
use Rattle.s_flow.specs.Simulation.{every, RunsInTurn}
use Rattle.s_flow.proofs.Streams.{length_low}

-- ---- every COUNT-th item

every_skip : {A : Type 0} (count skipped k : ℕ) (front rest : List A) → skipped ≡ length front + k → every count skipped (front ++ rest) ≡ every count k rest
every_skip count skipped k [] rest e = ap (λ i. every count i rest) (omega arith)
every_skip count zero k (x ∷ front) rest e = absurd (omega arith)
every_skip count (suc skipped) k (x ∷ front) rest e = every_skip count skipped k front rest (omega arith)

-- an item of the front, and then those of the rest
every_item : {A : Type 0} (count j k : ℕ) (front rest : List A) (x : A) → slice_get front j ≡ Some x → k + length front ≡ count + j → every count j (front ++ rest) ≡ x ∷ every count k rest
every_item count j k [] rest x is e = cc
every_item count zero k (y ∷ front) rest x is e =
    let same : y ≡ x = cc in
    rw same (ap (λ l. x ∷ l) (every_skip count (count - 1) k front rest (omega arith)))
every_item count (suc j) k (y ∷ front) rest x is e = every_item count j k front rest x is (omega arith)

-- no item
every_past : {A : Type 0} (count j : ℕ) (xs : List A) → length xs ≤ j → every count j xs ≡ []
every_past count j [] past = refl
every_past count zero (x ∷ xs) past = absurd (omega arith)
every_past count (suc j) (x ∷ xs) past = every_past count j xs (omega arith)

get_past : {A : Type 0} (xs : List A) (j : ℕ) → slice_get xs j ≡ None → length xs ≤ j
get_past [] j is = omega arith
get_past (x ∷ xs) zero is = absurd (cc)
get_past (x ∷ xs) (suc j) is = omega (arith, get_past xs j is)

-- ---- the words of a stream

number_low : (width value : ℕ) → value < 2 ^ width → number_of (low_bits width value) ≡ value
number_low zero value fits = omega arith
number_low (suc width) value fits =
    let half : value / 2 < 2 ^ width = omega arith in
    let bit : (if value % 2 == 1 then 1 else 0) ≡ value % 2 = bit_number value in
    omega (arith, bit, number_low width (value / 2) half)
  where
    bit_number : (n : ℕ) → (if n % 2 == 1 then 1 else 0) ≡ n % 2
    bit_number n = grind (arith, nat_tests)

take_front : {A : Type 0} (n : ℕ) (front rest : List A) → n ≡ length front → take n (front ++ rest) ≡ front
take_front n front rest e = rw e (grind (arith, common_steps))

drop_front : {A : Type 0} (n : ℕ) (front rest : List A) → n ≡ length front → drop n (front ++ rest) ≡ rest
drop_front n front rest e = rw e (grind (arith, common_steps))

word_back : (w : WordValue) → w.value < 2 ^ w.width → word_of (word_bits w) ≡ w
word_back w fits = ap (λ n. record { width = n; value = number_of (word_bits w) }) (length_low w.width w.value) ∙ ap (λ v. record { width = w.width; value = v }) (number_low w.width w.value fits)

-- the bits of words that fit ports make these words
pub words_back : (ports : List Port) (ws : List WordValue) → FitPorts ports ws → words_at ports (words_bits ws) ≡ ws
words_back [] [] fit = refl
words_back [] (w ∷ ws) fit = absurd fit
words_back (p ∷ ports) [] fit = absurd fit
words_back (p ∷ ports) (w ∷ ws) fit =
    let long : p.width ≡ length (word_bits w) = omega (arith, length_low w.width w.value, fit.0) in
    ap (λ l. word_of l ∷ words_at ports (drop p.width (words_bits (w ∷ ws)))) (take_front p.width (word_bits w) (words_bits ws) long)
    ∙ ap (λ l. word_of (word_bits w) ∷ words_at ports l) (drop_front p.width (word_bits w) (words_bits ws) long)
    ∙ ap (λ v. v ∷ words_at ports (words_bits ws)) (word_back w fit.1)
    ∙ ap (λ l. w ∷ l) (words_back ports ws fit.2)

number_below : (bits : List Bool) (k : ℕ) → k ≡ length bits → number_of bits < 2 ^ k
number_below [] k e = rw e (omega arith)
number_below (b ∷ bits) zero e = absurd (omega arith)
number_below (b ∷ bits) (suc k) e =
    let one : (if b then 1 else 0) ≤ 1 = elim b as (λ v. (if v then 1 else 0) ≤ 1) [ true ↦ omega arith | false ↦ omega arith ] in
    omega (arith, one, number_below bits k (omega arith))

-- the words that a netlist shows fit its outputs
pub shown_fits : (ports : List Port) (nets : List (List ℕ)) (values : List Bool) → FillOutputs ports nets → FitPorts ports (map (λ ns. word_of (map (value_at values) ns)) nets)
shown_fits [] [] values fill = tt
shown_fits [] (ns ∷ nets) values fill = absurd fill
shown_fits (p ∷ ports) [] values fill = absurd fill
shown_fits (p ∷ ports) (ns ∷ nets) values fill =
    (length-map ns (value_at values) ∙ fill.0, number_below (map (value_at values) ns) (length (map (value_at values) ns)) refl, shown_fits ports nets values fill.1)

-- ---- the lines of a turn

pub lines_long : (ports : List Port) (lanes : List ℕ) (j count : ℕ) → length (lines_from ports lanes j count) ≡ count
lines_long ports lanes j zero = refl
lines_long ports lanes j (suc count) = ap suc (lines_long ports lanes (j + 1) count)

-- one line more
pub lines_on : (ports : List Port) (lanes : List ℕ) (j left after : ℕ) (old new all : List (List WordValue)) (words : List WordValue) → left ≡ suc after
    → words ≡ words_at ports (stream j lanes) → new ≡ old ++ words ∷ [] → old ++ lines_from ports lanes j left ≡ all → new ++ lines_from ports lanes (j + 1) after ≡ all
lines_on ports lanes j left after old new all words e is made before =
    ap (λ l. l ++ lines_from ports lanes (j + 1) after) made ∙ append_assoc old (words ∷ []) (lines_from ports lanes (j + 1) after)
    ∙ ap (λ (w : List WordValue). old ++ w ∷ lines_from ports lanes (j + 1) after) is ∙ ap (λ k. old ++ lines_from ports lanes j k) (sym e) ∙ before

line_at : (ports : List Port) (lanes : List ℕ) (first count j : ℕ) → j < count → slice_get (lines_from ports lanes first count) j ≡ Some (words_at ports (stream (first + j) lanes))
line_at ports lanes first zero j within = absurd (omega arith)
line_at ports lanes first (suc count) zero within = ap (λ k. Some (words_at ports (stream k lanes))) (omega arith)
line_at ports lanes first (suc count) (suc j) within =
    line_at ports lanes (first + 1) count j (omega arith) ∙ ap (λ k. Some (words_at ports (stream k lanes))) (omega arith)

get_within : {A : Type 0} (xs : List A) (j : ℕ) (x : A) → slice_get xs j ≡ Some x → j < length xs
get_within [] j x is = absurd (cc)
get_within (y ∷ xs) zero x is = omega arith
get_within (y ∷ xs) (suc j) x is = omega (arith, get_within xs j x is)

-- one turn, from what the simulator of all streams does
pub turned : (n : NetlistValue) (input before out after : List ℕ) (lines : List (List WordValue)) → IsWellFormed n → length lines ≤ 64
    → ((j : ℕ) (line : List WordValue) → slice_get lines j ≡ Some line → FitPorts n.inputs line)
    → ((j : ℕ) (line : List WordValue) → slice_get lines j ≡ Some line → stream j input ≡ words_bits line)
    → ((j : ℕ) → j < 64 → IsCycleOf n input before out after j)
    → IsTurn n before after lines (lines_from n.outputs out 0 (length lines))
turned n input before out after lines formed few fit put cycle = record {
  long = lines_long n.outputs out 0 (length lines);
  cycle = λ j line is.
      let within : j < length lines = get_within lines j line is in
      let c = cycle j (omega arith) line (fit j line is) (sym (put j line is)) in
      let words : words_at n.outputs (stream j out) ≡ shown n c.0 =
      ap (words_at n.outputs) c.2 ∙ words_back n.outputs (shown n c.0) (shown_fits n.outputs n.nets c.0 formed.begun.lines.filled) in
      let here : slice_get (lines_from n.outputs out 0 (length lines)) j ≡ Some (words_at n.outputs (stream (0 + j) out)) = line_at n.outputs out 0 (length lines) j within in
      let same : 0 + j ≡ j = omega arith in
      (c.0, c.1, here ∙ ap (λ k. Some (words_at n.outputs (stream k out))) same ∙ ap (λ ws. Some ws) words, c.3);
}

-- ---- runs in turn

-- each of the streams runs from its state on
abbrev pub AllRun : NetlistValue → ℕ → List ℕ → List (List WordValue) → List (List WordValue) → Type 0
AllRun n count state lines words = (j : ℕ) → j < count → Runs n (stream j state) (every count j lines) (every count j words)

-- Where the streams run from here on over the lines that are left, the lines so far and theirs are those of runs from the start.
pub record IsUnderWay (n : NetlistValue) (count : ℕ) (state : List ℕ) (all rest so_far : List (List WordValue)) : Type 0 where
  pub long : length so_far + length rest ≡ length all
  pub runs : (more : List (List WordValue)) → length more ≡ length rest → AllRun n count state rest more
      → (j : ℕ) → j < count → Runs n (first_state n) (every count j all) (every count j (so_far ++ more))

none_left : {A : Type 0} (xs : List A) → length xs ≡ 0 → xs ≡ []
none_left [] e = refl
none_left (x ∷ xs) e = absurd (omega arith)

-- a turn of a stream
turn_runs : (n : NetlistValue) (count j : ℕ) (before after : List ℕ) (lines rest words more : List (List WordValue)) → IsTurn n before after lines words → length lines ≤ count
    → (length lines ≡ count) ⊎ (length rest ≡ 0) → length more ≡ length rest → j < count → AllRun n count after rest more
    → Runs n (stream j before) (every count j (lines ++ rest)) (every count j (words ++ more))
turn_runs n count j before after lines rest words more turn few whole long within runs = cases (slice_get lines j) refl where
  cases : (o : Option (List WordValue)) → slice_get lines j ≡ o → Runs n (stream j before) (every count j (lines ++ rest)) (every count j (words ++ more))
  cases None is =
      let past : length lines ≤ j = get_past lines j is in
      let none : length rest ≡ 0 = elim whole [ inl full ↦ absurd (omega arith) | inr left ↦ left ] in
      let a : every count j (lines ++ rest) ≡ [] = every_past count j (lines ++ rest) (omega (arith, length-append lines rest)) in
      let b : every count j (words ++ more) ≡ [] = every_past count j (words ++ more) (omega (arith, length-append words more, turn.long)) in
      rw (a, b) tt
  cases (Some line) is =
      let c = turn.cycle j line is in
      elim whole [
        | inl full ↦
            let a : every count j (lines ++ rest) ≡ line ∷ every count j rest = every_item count j j lines rest line is (omega arith) in
            let b : every count j (words ++ more) ≡ shown n c.0 ∷ every count j more = every_item count j j words more (shown n c.0) c.2 (omega (arith, turn.long)) in
            rw (a, b) (c.0, c.1, refl, rw (← c.3) (runs j within))
        | inr left ↦
            let none : rest ≡ [] = none_left rest left in
            let gone : more ≡ [] = none_left more (long ∙ left) in
            let a : every count j (lines ++ rest) ≡ line ∷ [] = ap (λ l. every count j (lines ++ l)) none ∙ every_item count j (count + j - length lines) lines [] line is (omega arith) in
            let b : every count j (words ++ more) ≡ shown n c.0 ∷ [] = ap (λ l. every count j (words ++ l)) gone ∙ every_item count j (count + j - length words) words [] (shown n c.0) c.2 (omega (arith, turn.long)) in
            rw (a, b) (c.0, c.1, refl, tt)
      ]

pub under_way : (n : NetlistValue) (count : ℕ) (before after : List ℕ) (all rest lines left so_far words : List (List WordValue)) → IsUnderWay n count before all rest so_far → rest ≡ lines ++ left
    → IsTurn n before after lines words → length lines ≤ count → (length lines ≡ count) ⊎ (length left ≡ 0) → IsUnderWay n count after all left (so_far ++ words)
under_way n count before after all rest lines left so_far words on split turn few whole = record {
  long = omega (arith, on.long, ap length split, length-append lines left, length-append so_far words, turn.long);
  runs = λ more long runs j within.
      let both : length (words ++ more) ≡ length rest = omega (arith, ap length split, length-append lines left, length-append words more, turn.long) in
      let here : AllRun n count before rest (words ++ more) = λ k below. rw split (turn_runs n count k before after lines left words more turn few whole long below runs) in
      rw append_assoc (on.runs (words ++ more) both here j within);
}

-- at first
pub not_begun : (n : NetlistValue) (count : ℕ) (state : List ℕ) (all : List (List WordValue)) → count ≤ 64 → ((j : ℕ) → j < 64 → stream j state ≡ first_state n) → IsUnderWay n count state all all []
not_begun n count state all few first = record {
  long = omega arith;
  runs = λ more long runs j within. rw (← first j (omega arith)) (runs j within);
}

-- at the end
pub over : (n : NetlistValue) (count : ℕ) (state : List ℕ) (all rest so_far : List (List WordValue)) → IsUnderWay n count state all rest so_far → length rest ≡ 0 → RunsInTurn n count all so_far
over n count state all rest so_far on none =
    let gone : rest ≡ [] = none_left rest none in
    record {
      long = omega (arith, on.long);
      runs = λ j within. rw append-nil at (on.runs [] (sym none) (λ k below. rw gone tt) j within);
    }

-- what a slice of a vector has when it is given back
pub given_back : (len : ℕ) (new old back : List ℕ) → back ≡ take len (new ++ drop (length new) old) → length new ≡ len → back ≡ new
given_back len new old back is long = is ∙ take_front len new (drop (length new) old) (sym long)

-- a turn takes as many lines as there are streams, or all that are left
pub whole_turn : (rest count lines left : ℕ) → lines ≡ min rest count → rest ≡ lines + left → (lines ≡ count) ⊎ (left ≡ 0)
whole_turn rest count lines zero few split = inr refl
whole_turn rest count lines (suc left) few split = inl (omega arith)

pub parts : {A : Type 0} (i : ℕ) (xs : List A) → xs ≡ take i xs ++ drop i xs
parts zero xs = refl
parts (suc i) [] = refl
parts (suc i) (x ∷ xs) = ap (λ l. x ∷ l) (parts i xs)

pub is_zero : (n : ℕ) → true ≡ (n == 0) → n ≡ 0
is_zero n e = grind (arith, nat_tests)
