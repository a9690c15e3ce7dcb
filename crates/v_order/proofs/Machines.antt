-- Where every schedule does what text order does, the machines of a design under both do the same.
use Rattle.std.proofs.Common.{◌≡◌, ℕ, List, length, replicate, Bool, false, refl, sym, subst}
use Rattle.std.specs.Prelude.{⊤}
use Rattle.std.proofs.lemmas.List.{length-replicate}
use Rattle.lz_base.specs.WordValue.{WordValue}
use Rattle.lz_machine.specs.Machine.{Realises}
use Rattle.lz_machine.proofs.Laws.{follows_by, lasts_by}
use Rattle.v_meaning.specs.Views.{Store}
use Rattle.v_meaning.specs.Designs.{Design, first_store, first_bits, cycle_bits, InAnyOrder, IsOutcome, port_words, word_values, Does, machine_of}
use Rattle.v_order.specs.Stepping.{shown_by, next_by}

module _ (d : Design) (order : List ℕ) where
  -- each cycle shows and leaves, under these schedules, what it does where the nets are computed once
  abbrev pub HasOutcomes : (List ℕ → Type 0) → Type 0
  HasOutcomes Allowed =
      (before : Store) (inputs : List ℕ) (choice : List Bool) → length choice ≡ cycle_bits d → IsOutcome Allowed d before inputs choice (shown_by d order before inputs choice) (next_by d order before inputs choice)

  module _ (Allowed Other : List ℕ → Type 0) (any : HasOutcomes InAnyOrder) (allowed : HasOutcomes Allowed) (other : HasOutcomes Other) where
    -- what is done under the other schedules is done under these
    pub does_too : (before : Store) (inputs words : List WordValue) (after : Store) → Does Other d before inputs words after → Does Allowed d before inputs words after
    does_too before inputs words after does =
        let schedule : List ℕ = does.outcome.some.0 in
        let cycle = does.outcome.some.2 in
        let same = (any before (word_values inputs) does.choice cycle.bits).every schedule does.shown after tt cycle in
        let outcome = allowed before (word_values inputs) does.choice cycle.bits in
        record {
          choice = does.choice;
          shown = does.shown;
          words_are = does.words_are;
          outcome = subst (λ (shown : List ℕ). IsOutcome Allowed d before (word_values inputs) does.choice shown after) (sym same.0)
              (subst (λ (next : Store). IsOutcome Allowed d before (word_values inputs) does.choice (shown_by d order before (word_values inputs) does.choice) next) (sym same.1) outcome);
        }

    -- and something is done
    goes_on : (before : Store) (inputs : List WordValue) → (words : List WordValue) × (after : Store) × Does Other d before inputs words after
    goes_on before inputs =
        let choice : List Bool = replicate (cycle_bits d) false in
        let shown : List ℕ = shown_by d order before (word_values inputs) choice in (
          port_words d.outputs shown,
          next_by d order before (word_values inputs) choice,
          record { choice = choice; shown = shown; words_are = refl; outcome = other before (word_values inputs) choice (length-replicate (cycle_bits d) false) },
        )

    pub realises : Realises (machine_of Allowed d) (machine_of Other d)
    realises =
        let first : List Bool = replicate (first_bits d) false in
        record {
          name = refl;
          clock = refl;
          inputs = refl;
          outputs = refl;
          begins = (first_store d.firsts first, record { first = first; bits = length-replicate (first_bits d) false; store_is = refl });
          lasts = λ store starts cycles. lasts_by (machine_of Other d) (λ (s : Store). ⊤) (λ s h inputs fit. (goes_on s inputs, λ words after does. tt)) cycles store tt;
          follows = λ store starts. (
            store,
            starts,
            λ cycles. follows_by (machine_of Allowed d) (machine_of Other d) (λ (s t : Store). s ≡ t) (λ s t same inputs fit words after does.
                (after, subst (λ (u : Store). Does Allowed d u inputs words after) (sym same) (does_too t inputs words after does), refl)) cycles store store refl,
          );
        }
