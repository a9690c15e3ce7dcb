-- The first broken rule, from the least places of each.
use Rattle.std.proofs.Common.{◌≡◌, ◌<◌, ◌≤◌, ◌+◌, ℕ, List, [], ◌∷◌, length, drop, get_or, Option, None, Some, min, Result, Ok, Err, IfOk, refl, sym, ap, ◌∙◌}
use Rattle.std.proofs.lemmas.List.{drop_all}
use Rattle.lz_base.specs.declared.rule.Rule.{Rule}
use Rattle.lz_base.specs.declared.fault.Fault.{Fault}
use Rattle.lz_base.specs.declared.fault.Stop.{Stop}
use Rattle.lz_base.specs.declared.fault.Stop.TheVariants as stop
use Rattle.lz_base.specs.Answers.{IfFault}
use Rattle.v_syntax.specs.declared.module.Module.{Module}
use Rattle.v_meaning.specs.declared.names.Entry.{Entry}
use Rattle.v_meaning.specs.Declarations.{names_of}
use Rattle.v_meaning.specs.Broken.{least_of, fault_or, first_fault, places_of, process_rules}
use Rattle.v_scope.specs.Firsts.{least_from}
use Rattle.v_rules.specs.Places.{process_places}
use Rattle.v_rules.proofs.Rounds.{next_is}

least_is : (at : ℕ) (places : List ℕ) → least_from (Some at) places ≡ Some (least_of at places)
least_is at [] = refl
least_is at (other ∷ places) = least_is (min at other) places

-- a fault for what the least place is
abbrev at_least : Rule → Option ℕ → Option Fault → Option Fault
at_least rule None more = more
at_least rule (Some at) more = Some (record { rule = rule; at = at })

fault_is : (rule : Rule) (first : Option ℕ) (places : List ℕ) (more : Option Fault) → first ≡ least_from None places → fault_or rule places more ≡ at_least rule first more
fault_is rule first [] more is = ap (λ (f : Option ℕ). at_least rule f more) (sym is)
fault_is rule first (at ∷ places) more is = ap (λ (f : Option ℕ). at_least rule f more) (sym (least_is at places) ∙ sym is)

-- The first fault by the rules from this one on is the first one by all.
pub record FirstBy (places : Rule → List ℕ) (rules : List Rule) (i : ℕ) : Type 0 where
  pub same : first_fault places (drop i rules) ≡ first_fault places rules

rule_next : (places : Rule → List ℕ) (rules : List Rule) (i : ℕ) (rule other : Rule) (first : Option ℕ) → i < length rules → rule ≡ get_or rules i other → first ≡ least_from None (places rule) →
    FirstBy places rules i → at_least rule first (first_fault places (drop (i + 1) rules)) ≡ first_fault places rules
rule_next places rules i rule other first h is p g =
    sym (fault_is rule first (places rule) (first_fault places (drop (i + 1) rules)) p)
    ∙ sym (ap (first_fault places) (next_is rules i rule other h is)) ∙ g.same

pub rule_kept : (places : Rule → List ℕ) (rules : List Rule) (i : ℕ) (rule other : Rule) (first : Option ℕ) → i < length rules → rule ≡ get_or rules i other → first ≡ least_from None (places rule) → first ≡ None →
    FirstBy places rules i → FirstBy places rules (i + 1)
rule_kept places rules i rule other first h is p none g = record {
  same = ap (λ (f : Option ℕ). at_least rule f (first_fault places (drop (i + 1) rules))) (sym none) ∙ rule_next places rules i rule other first h is p g;
}

pub rule_broken : (places : Rule → List ℕ) (rules : List Rule) (i : ℕ) (rule other : Rule) (first : Option ℕ) (at : ℕ) → i < length rules → rule ≡ get_or rules i other → first ≡ least_from None (places rule) → first ≡ Some at →
    FirstBy places rules i → first_fault places rules ≡ Some (record { rule = rule; at = at })
rule_broken places rules i rule other first at h is p some g =
    sym (rule_next places rules i rule other first h is p g) ∙ ap (λ (f : Option ℕ). at_least rule f (first_fault places (drop (i + 1) rules))) some

pub rules_end : (places : Rule → List ℕ) (rules : List Rule) (i : ℕ) → length rules ≤ i → FirstBy places rules i → first_fault places rules ≡ None
rules_end places rules i h g = sym (g.same) ∙ ap (first_fault places) (drop_all i rules h)

-- what the rules make of these names and of a module is what they make of the module
pub of_module : (m : Module) (names : List Entry) → names ≡ names_of m → first_fault (process_places names m) process_rules ≡ first_fault (places_of m) process_rules
of_module m names declared = ap (λ (ns : List Entry). first_fault (process_places ns m) process_rules) declared

-- the same fault, and none just so
pub same_fault : {X : Type 0} (r : Result X Stop) (a b : Option Fault) → a ≡ b → IfFault r (λ fault. a ≡ Some fault) → IfFault r (λ fault. b ≡ Some fault)
same_fault (Ok x) a b p h = h
same_fault (Err (stop.Fault fault)) a b p h = sym p ∙ h
same_fault (Err stop.OutOfMemory) a b p h = h

pub same_none : {X : Type 0} (r : Result X Stop) (a b : Option Fault) → a ≡ b → IfOk r (λ x. a ≡ None) → IfOk r (λ x. b ≡ None)
same_none (Ok x) a b p h = sym p ∙ h
same_none (Err e) a b p h = h

-- ---- the places of one rule

pub of_rule : {E : Type 0} {P : Option ℕ → Type 0} (r : Result (Option ℕ) E) (names : List Entry) (m : Module) (rule known : Rule) → rule ≡ known → ((first : Option ℕ) → P first → first ≡ least_from None (process_places names m known)) →
    IfOk r P → IfOk r (λ first. first ≡ least_from None (process_places names m rule))
of_rule (Ok first) names m rule known is h p = h first p ∙ ap (λ k. least_from None (process_places names m k)) (sym is)
of_rule (Err e) names m rule known is h p = tt
