-- The least place of a rule, occurrence by occurrence, and the first broken rule, rule by rule.
use Rattle.std.proofs.Common.{◌≡◌, ◌<◌, ◌≤◌, ◌+◌, ℕ, List, [], ◌∷◌, ◌++◌, length, drop, get_or, Option, None, Some, Bor, not, Result, Ok, Err, IfOk, refl, sym, ap, ◌∙◌, min}
use Rattle.std.specs.Bool.{⊤}
use Rattle.std.proofs.lemmas.List.{append-nil, drop_all}
use Rattle.std.proofs.lemmas.List.Concat.{flat_map-cons}
use Rattle.lz_base.specs.declared.rule.Rule.{Rule}
use Rattle.lz_base.specs.declared.rule.Rule.TheVariants as r
use Rattle.lz_base.specs.declared.fault.Fault.{Fault}
use Rattle.lz_base.specs.declared.fault.Stop.{Stop}
use Rattle.lz_base.specs.declared.fault.Stop.TheVariants as stop
use Rattle.lz_base.specs.Answers.{IfFault}
use Rattle.v_syntax.specs.declared.token.Ident.{Ident}
use Rattle.v_syntax.specs.declared.expr.Expr.{Expr}
use Rattle.v_syntax.specs.declared.module.Module.{Module}
use Rattle.v_meaning.specs.declared.names.Entry.{Entry}
use Rattle.v_meaning.specs.Declarations.{names_of}
use Rattle.v_meaning.specs.Proper.{proper_value, is_between_1_and_128, replicated_bits}
use Rattle.v_meaning.specs.Marks.{Mark, Used, PartOf, module_marks}
use Rattle.v_meaning.specs.MarkRules.{place_if, wrong_part, too_wide}
use Rattle.v_meaning.specs.Broken.{least_of, fault_or, first_fault, places_of}
use Rattle.v_scope.specs.declared.occurrence.Occurrence.{Occurrence}
use Rattle.v_scope.specs.declared.occurrence.Occurrence.TheVariants as v
use Rattle.v_scope.specs.Occurrences.{mark_of, marks_in}
use Rattle.v_scope.specs.Firsts.{lesser, least_from}
use Rattle.v_usage.specs.Usage.{usage_rules}
use Rattle.v_usage.specs.Places.{as_list, broken_by, usage_places}
use Rattle.v_usage.proofs.Counting.{next_is}

-- ---- the least place of one rule

least_more : (first : Option ℕ) (xs ys : List ℕ) → least_from first (xs ++ ys) ≡ least_from (least_from first xs) ys
least_more first [] ys = refl
least_more first (x ∷ xs) ys = least_more (lesser first x) xs ys

-- The least of what was found and of the places from this occurrence on is the least of all.
pub record LeastOf (names : List Entry) (rule : Rule) (all : List Occurrence) (i : ℕ) (first : Option ℕ) : Type 0 where
  pub same : least_from first (usage_places names (marks_in names (drop i all)) rule) ≡ least_from None (usage_places names (marks_in names all) rule)

pub least_next : (names : List Entry) (rule : Rule) (all : List Occurrence) (i : ℕ) (o : Occurrence) (first place more : Option ℕ) → i < length all → o ≡ get_or all i o →
    as_list place ≡ broken_by rule names (mark_of names o) → more ≡ least_from first (as_list place) → LeastOf names rule all i first → LeastOf names rule all (i + 1) more
least_next names rule all i o first place more h is p q l = record {
  same = ap (λ (f : Option ℕ). least_from f (usage_places names (marks_in names (drop (i + 1) all)) rule)) (q ∙ ap (least_from first) p)
      ∙ sym (least_more first (broken_by rule names (mark_of names o)) (usage_places names (marks_in names (drop (i + 1) all)) rule))
      ∙ sym (ap (least_from first) (ap (λ (os : List Occurrence). usage_places names (marks_in names os) rule) (next_is all i o o h is)
      ∙ flat_map-cons (broken_by rule names) (mark_of names o) (marks_in names (drop (i + 1) all))))
      ∙ l.same;
}

pub least_end : (names : List Entry) (rule : Rule) (all : List Occurrence) (i : ℕ) (first : Option ℕ) → length all ≤ i → LeastOf names rule all i first →
    first ≡ least_from None (usage_places names (marks_in names all) rule)
least_end names rule all i first h l = sym (ap (λ (os : List Occurrence). least_from first (usage_places names (marks_in names os) rule)) (drop_all i all h)) ∙ l.same

-- ---- the places of one occurrence

pub part_place : (names : List Entry) (o : Occurrence) (n : Bor Ident) (m l : Bor Expr) (msb lsb : Option ℕ) (places : List ℕ) → o ≡ v.PartOf n m l → msb ≡ proper_value names m.now → lsb ≡ proper_value names l.now →
    places ≡ wrong_part names (Used (PartOf msb lsb) n.now) → places ≡ wrong_part names (mark_of names o)
part_place names o n m l msb lsb places is p q made =
    made ∙ ap (λ (x : Option ℕ). wrong_part names (Used (PartOf x lsb) n.now)) p ∙ ap (λ (x : Option ℕ). wrong_part names (Used (PartOf (proper_value names m.now) x) n.now)) q
    ∙ ap (λ (x : Occurrence). wrong_part names (mark_of names x)) (sym is)

pub replicated_place : (names : List Entry) (o : Occurrence) (brace : ℕ) (count : Bor Expr) (parts : Bor (List Expr)) (places : List ℕ) → o ≡ v.Replicated brace count parts →
    places ≡ place_if (not (is_between_1_and_128 (replicated_bits names count.now parts.now))) brace → places ≡ too_wide (mark_of names o)
replicated_place names o brace count parts places is made = made ∙ ap (λ (x : Occurrence). too_wide (mark_of names x)) (sym is)

-- ---- the first broken rule

least_is : (at : ℕ) (places : List ℕ) → least_from (Some at) places ≡ Some (least_of at places)
least_is at [] = refl
least_is at (other ∷ places) = least_is (min at other) places

-- a fault for what the least place is
abbrev at_least : Rule → Option ℕ → Option Fault → Option Fault
at_least rule None more = more
at_least rule (Some at) more = Some (record { rule = rule; at = at })

fault_is : (rule : Rule) (first : Option ℕ) (places : List ℕ) (more : Option Fault) → first ≡ least_from None places → fault_or rule places more ≡ at_least rule first more
fault_is rule first [] more is = ap (λ (f : Option ℕ). at_least rule f more) (sym is)
fault_is rule first (at ∷ places) more is = ap (λ (f : Option ℕ). at_least rule f more) (sym (least_is at places) ∙ sym is)

-- The first fault by the rules from this one on is the first one by all.
pub record FirstBy (places : Rule → List ℕ) (rules : List Rule) (i : ℕ) : Type 0 where
  pub same : first_fault places (drop i rules) ≡ first_fault places rules

pub rule_next : (places : Rule → List ℕ) (rules : List Rule) (i : ℕ) (rule other : Rule) (first : Option ℕ) → i < length rules → rule ≡ get_or rules i other → first ≡ least_from None (places rule) →
    FirstBy places rules i → at_least rule first (first_fault places (drop (i + 1) rules)) ≡ first_fault places rules
rule_next places rules i rule other first h is p g =
    sym (fault_is rule first (places rule) (first_fault places (drop (i + 1) rules)) p)
    ∙ sym (ap (first_fault places) (next_is rules i rule other h is)) ∙ g.same

pub rule_kept : (places : Rule → List ℕ) (rules : List Rule) (i : ℕ) (rule other : Rule) (first : Option ℕ) → i < length rules → rule ≡ get_or rules i other → first ≡ least_from None (places rule) → first ≡ None →
    FirstBy places rules i → FirstBy places rules (i + 1)
rule_kept places rules i rule other first h is p none g = record {
  same = ap (λ (f : Option ℕ). at_least rule f (first_fault places (drop (i + 1) rules))) (sym none) ∙ rule_next places rules i rule other first h is p g;
}

pub rule_broken : (places : Rule → List ℕ) (rules : List Rule) (i : ℕ) (rule other : Rule) (first : Option ℕ) (at : ℕ) → i < length rules → rule ≡ get_or rules i other → first ≡ least_from None (places rule) → first ≡ Some at →
    FirstBy places rules i → first_fault places rules ≡ Some (record { rule = rule; at = at })
rule_broken places rules i rule other first at h is p some g =
    sym (rule_next places rules i rule other first h is p g) ∙ ap (λ (f : Option ℕ). at_least rule f (first_fault places (drop (i + 1) rules))) some

pub rules_end : (places : Rule → List ℕ) (rules : List Rule) (i : ℕ) → length rules ≤ i → FirstBy places rules i → first_fault places rules ≡ None
rules_end places rules i h g = sym (g.same) ∙ ap (first_fault places) (drop_all i rules h)

-- ---- of a module

-- by each of these rules the same places
abbrev AreSame : (Rule → List ℕ) → (Rule → List ℕ) → List Rule → Type 0
AreSame p q [] = ⊤
AreSame p q (rule ∷ rules) = (p rule ≡ q rule) × AreSame p q rules

same_first : (p q : Rule → List ℕ) (rules : List Rule) → AreSame p q rules → first_fault p rules ≡ first_fault q rules
same_first p q [] h = refl
same_first p q (rule ∷ rules) h =
    ap (λ (l : List ℕ). fault_or rule l (first_fault p rules)) h.0 ∙ ap (fault_or rule (q rule)) (same_first p q rules h.1)

abbrev by_marks : Module → Rule → List ℕ
by_marks m = usage_places (names_of m) (module_marks (names_of m) m)

marks_first : (m : Module) → first_fault (places_of m) usage_rules ≡ first_fault (by_marks m) usage_rules
marks_first m =
    same_first (places_of m) (by_marks m) usage_rules
    (append-nil (by_marks m r.E8), (append-nil (by_marks m r.E9), (append-nil (by_marks m r.E10), (append-nil (by_marks m r.E11), (append-nil (by_marks m r.E12), (append-nil (by_marks m r.E13), tt))))))

-- what the rules make of a module's occurrences is what they make of the module
pub of_module : (m : Module) (names : List Entry) (all as_slice : List Occurrence) → names ≡ names_of m → as_slice ≡ all → ((names : List Entry) → marks_in names all ≡ module_marks names m) →
    first_fault (usage_places names (marks_in names as_slice)) usage_rules ≡ first_fault (places_of m) usage_rules
of_module m names all as_slice known sliced marks =
    ap (λ (os : List Occurrence). first_fault (usage_places names (marks_in names os)) usage_rules) sliced
    ∙ ap (λ (ms : List Mark). first_fault (usage_places names ms) usage_rules) (marks names)
    ∙ ap (λ (ns : List Entry). first_fault (usage_places ns (module_marks ns m)) usage_rules) known
    ∙ sym (marks_first m)

-- the same fault, and none just so
pub same_fault : {X : Type 0} (r : Result X Stop) (a b : Option Fault) → a ≡ b → IfFault r (λ fault. a ≡ Some fault) → IfFault r (λ fault. b ≡ Some fault)
same_fault (Ok x) a b p h = h
same_fault (Err (stop.Fault fault)) a b p h = sym p ∙ h
same_fault (Err stop.OutOfMemory) a b p h = h

pub same_none : {X : Type 0} (r : Result X Stop) (a b : Option Fault) → a ≡ b → IfOk r (λ x. a ≡ None) → IfOk r (λ x. b ≡ None)
same_none (Ok x) a b p h = sym p ∙ h
same_none (Err e) a b p h = h
