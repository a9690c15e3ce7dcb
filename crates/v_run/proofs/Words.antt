-- The words of a cycle: their widths, the line of the trace that they make, and what a cycle over them shows.
use Rattle.std.proofs.Common.{◌≡◌, ◌<◌, ◌≤◌, ◌+◌, ◌^◌, ◌++◌, ap, sym, subst, ◌∙◌, refl, arith, ℕ, zero, suc, List, [], ◌∷◌, length, get_or, take, drop, Bool, append-nil}
use Rattle.std.proofs.lemmas.List.{length-map, take_all, take_more}
use Rattle.std.proofs.lemmas.Grind.{common_steps}
use Rattle.std.specs.Prelude.{Result, Err, ⊤}
use Rattle.lz_base.specs.Answers.{IfFault}
use Rattle.lz_base.specs.WordValue.{WordValue}
use Rattle.lz_base.specs.declared.fault.Fault.{Fault}
use Rattle.lz_base.specs.declared.fault.Stop.{Stop}
use Rattle.lz_base.specs.declared.fault.Stop.TheVariants as stop
use Rattle.lz_base.specs.declared.name.Port.{Port}
use Rattle.lz_base.specs.declared.rule.Rule.TheVariants.{S1}
use Rattle.t_choices.specs.Places.{place_of}
use Rattle.t_trace.specs.Widths.{CyclesFit, FitWidths}
use Rattle.v_machine.specs.Runnable.{port_widths}
use Rattle.v_meaning.specs.Designs.{Design, IsCycle, IsIncompleteAt, port_words, word_values}
use Rattle.v_meaning.specs.Views.{Store}
use Rattle.v_values.specs.Seen.{values_of, widths_of}
use Rattle.v_run.specs.Turns.{HaltsIn, IsCertain, Shows}

drop_past : {A : Type 0} (xs : List A) (i : ℕ) → length xs ≤ i → drop i xs ≡ []
drop_past xs i h = grind (arith, common_steps)

-- ---- words

fit_widths : (widths : List ℕ) (words : List WordValue) → FitWidths widths words → widths_of words ≡ widths
fit_widths [] [] fit = refl
fit_widths [] (w ∷ words) fit = absurd fit
fit_widths (width ∷ widths) [] fit = absurd fit
fit_widths (width ∷ widths) (w ∷ words) fit = (λ j. fit.0 j ∷ fit_widths widths words fit.2 j)

word_values_are : (words : List WordValue) → word_values words ≡ values_of words
word_values_are [] = refl
word_values_are (w ∷ words) = ap (λ (ns : List ℕ). w.value ∷ ns) (word_values_are words)

-- words that have the widths of ports are those of their values
words_at_ports : (ports : List Port) (words : List WordValue) → widths_of words ≡ port_widths ports → words ≡ port_words ports (values_of words)
words_at_ports [] [] is = refl
words_at_ports [] (w ∷ words) is = absurd (cc is)
words_at_ports (p ∷ ports) [] is = absurd (cc is)
words_at_ports (p ∷ ports) (w ∷ words) is =
    let width : w.width ≡ p.width = cc is in
    let left : widths_of words ≡ port_widths ports = cc is in
    (λ j. record { width = width j; value = w.value } ∷ words_at_ports ports words left j)

-- a cycle that shows these words, which have the widths of the outputs
pub shows_words : (schedule : List ℕ) (d : Design) (before after : Store) (inputs words out : List WordValue) (choice : List Bool) → words ≡ out → widths_of out ≡ port_widths d.outputs →
    IsCycle d before (values_of inputs) choice schedule (values_of out) after → IsCertain d before (values_of inputs) choice (values_of out) after → Shows schedule d before inputs choice words after
shows_words schedule d before after inputs words out choice is widths cycle certain = record {
  shown = values_of out;
  words_are = is ∙ words_at_ports d.outputs out widths;
  cycle = subst (λ (ns : List ℕ). IsCycle d before ns choice schedule (values_of out) after) (sym (word_values_are inputs)) cycle;
  certain = subst (λ (ns : List ℕ). IsCertain d before ns choice (values_of out) after) (sym (word_values_are inputs)) certain;
}

-- a cycle whose schedule, which is that of its number, is not complete
pub halts_in : (d : Design) (before : Store) (schedules : List (List ℕ)) (number : ℕ) (entries : List ℕ) (inputs : List WordValue) (choice : List Bool) (index place : ℕ) →
    get_or schedules number [] ≡ entries → IsIncompleteAt d before (values_of inputs) choice entries index →
    ((shown : List ℕ) (after : Store) → IsCycle d before (values_of inputs) choice entries shown after → ⊥) → place ≡ place_of schedules number index →
    HaltsIn schedules d before inputs choice number (record { rule = S1; at = place })
halts_in d before schedules number entries inputs choice index place is incomplete refused stands = record {
  index = index;
  incomplete = rw (word_values_are inputs, is) incomplete;
  refused = λ shown after cycle. refused shown after (rw (word_values_are inputs, is) at cycle);
  fault_is = ap (λ (p : ℕ). record { rule = S1; at = p }) stands;
}

-- what a vector holds whose words were all written over
written_over : (out items : List WordValue) (n : ℕ) → widths_of out ≡ widths_of items → length items ≡ n → take n (out ++ drop (length out) items) ≡ out
written_over out items n widths many =
    let same : length out ≡ length items = sym (length-map out (λ (w : WordValue). w.width)) ∙ ap length widths ∙ length-map items (λ (w : WordValue). w.width) in
    let past : drop (length out) items ≡ [] = drop_past items (length out) (omega (arith, same)) in
    rw past (ap (take n) (append-nil out) ∙ take_all n out (omega (arith, same, many)))

-- the line of a trace that is made of such a vector, whose words have the widths of ports
pub line_of : (widths : List ℕ) (out items line : List WordValue) (n : ℕ) → widths_of items ≡ widths → widths_of out ≡ widths_of items → length items ≡ n →
    line ≡ take n (out ++ drop (length out) items) → FitWidths (widths_of (take n (out ++ drop (length out) items))) line → (line ≡ out) × FitWidths widths line
line_of widths out items line n made kept many is fit =
    let written = written_over out items n kept many in
    (is ∙ written, subst (λ (ns : List ℕ). FitWidths ns line) (ap widths_of written ∙ kept ∙ made) fit)

-- the words of a cycle that is there fit
cycle_there : (widths : List ℕ) (cycles : List (List WordValue)) (i : ℕ) → CyclesFit widths cycles → i < length cycles → FitWidths widths (get_or cycles i [])
cycle_there widths [] i fit within = absurd (omega arith)
cycle_there widths (c ∷ cycles) zero fit within = fit.0
cycle_there widths (c ∷ cycles) (suc i) fit within = cycle_there widths cycles i fit.1 (omega arith)

-- so they have the widths
pub widths_there : (widths : List ℕ) (cycles : List (List WordValue)) (i : ℕ) (words : List WordValue) → CyclesFit widths cycles → i < length cycles → words ≡ get_or cycles i [] → widths_of words ≡ widths
widths_there widths cycles i words fit within is = rw is (fit_widths widths (get_or cycles i []) (cycle_there widths cycles i fit within))

-- one word more that keeps to its width
keep_more : (words : List WordValue) (w : WordValue) → FitWidths (widths_of words) words → w.value < 2 ^ w.width → FitWidths (widths_of (words ++ w ∷ [])) (words ++ w ∷ [])
keep_more [] w fit below = (refl, below, tt)
keep_more (x ∷ words) w fit below = (fit.0, fit.1, keep_more words w fit.2 below)

-- the same behind the words before an index
pub keep_next : (words : List WordValue) (i : ℕ) (w : WordValue) → i < length words → w ≡ get_or words i w → FitWidths (widths_of (take i words)) (take i words) → w.value < 2 ^ w.width →
    FitWidths (widths_of (take (i + 1) words)) (take (i + 1) words)
keep_next words i w within is fit below =
    let more : take (i + 1) words ≡ take i words ++ w ∷ [] = take_more words i w within ∙ ap (λ (v : WordValue). take i words ++ v ∷ []) (sym is) in
    rw more (keep_more (take i words) w fit below)

-- one cycle more whose words fit
pub cycles_more : (widths : List ℕ) (cycles pushed : List (List WordValue)) (words : List WordValue) → pushed ≡ cycles ++ words ∷ [] → CyclesFit widths cycles → FitWidths widths words → CyclesFit widths pushed
cycles_more widths cycles pushed words push fit fits = subst (CyclesFit widths) (sym push) (joined widths cycles words fit fits)
  where
    joined : (widths : List ℕ) (cycles : List (List WordValue)) (words : List WordValue) → CyclesFit widths cycles → FitWidths widths words → CyclesFit widths (cycles ++ words ∷ [])
    joined widths [] words fit fits = (fits, tt)
    joined widths (c ∷ cycles) words fit fits = (fit.0, joined widths cycles words fit.1 fits)

-- ---- faults

-- what holds of a fault holds of the one that is passed on
pub fault_passed : {X : Type 0} (P Q : Fault → Type 0) (result : Result X Stop) (e : Stop) → result ≡ Err e → IfFault {X = ⊤} (Err e) P → ((fault : Fault) → P fault → Q fault) → IfFault result Q
fault_passed {X} P Q result e is holds on = rw is (passed e holds)
  where
    passed : (e : Stop) → IfFault {X = ⊤} (Err e) P → IfFault {X = X} (Err e) Q
    passed (stop.Fault fault) holds = on fault holds
    passed stop.OutOfMemory holds = tt
